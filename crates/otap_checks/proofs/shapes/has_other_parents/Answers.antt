use Rattle.std.proofs.Common.{sym, subst}
use Rattle.otap_cells.specs.declared.payload.Kind.TheVariants as table
use Rattle.otap_cells.specs.GivenIds.{HasIds}
use Rattle.otap_cells.specs.Named.{table_named}
use Rattle.otap_checks.specs.Known.{ids_named}
use Rattle.otap_attrs.proofs.TablePairs.{ids_long}
use Rattle.otap_checks.specs.Shapes.{fits_of}
use Rattle.otap_checks.specs.Shapes.{NamesOther}
use Rattle.otap_checks.proofs.RulesDecided.{same_ids}
use Rattle.otap_checks.proofs.MainKinds.{metrics_are_main}
use Rattle.otap_checks.proofs.shapes.has_other_parents.Goals as goal

pub names_other-requires-clause-long : goal.names_other-requires-clause-long
names_other-requires-clause-long g c =
    let t = g.R.Rows.table c.in-Some.rows.now in
    let own : HasIds t 0 c.of-ids.result.now = rw c.of-ids.ensures
    (subst (λ t. HasIds t 0 (ids_named table.Metrics 0 c.args.known.now)) c.in-Some.ensures.table (c.requires.metrics 0 metrics_are_main.id).are) in
    ids_long t 0 c.of-ids.result.now own

pub returns-clause-yes : goal.returns-clause-yes
returns-clause-yes g c = λ found.
    let main = table_named table.Metrics c.args.set.now in
    let own : HasIds main 0 c.of-ids.result.now = rw c.of-ids.ensures (c.requires.metrics 0 metrics_are_main.id).are in
    record {
      parents = c.of-parents.result.now;
      ids = c.of-ids.result.now;
      are = rw c.of-parents.ensures (c.requires.points 1 c.requires.parent).are;
      known = own;
      is = subst (λ t. NamesOther (fits_of c.args.sort) t c.of-parents.result.now c.of-ids.result.now) (sym c.in-Some.ensures.table) (c.in_ok-found.ensures.yes found);
    }

pub returns-clause-no : goal.returns-clause-no
returns-clause-no g c = λ found wrong.
    let main = table_named table.Metrics c.args.set.now in
    let points = table_named c.args.kind c.args.set.now in
    let own : HasIds main 0 c.of-ids.result.now = rw c.of-ids.ensures (c.requires.metrics 0 metrics_are_main.id).are in
    let above : HasIds points 1 c.of-parents.result.now = rw c.of-parents.ensures (c.requires.points 1 c.requires.parent).are in
    c.in_ok-found.ensures.no found
    (subst (λ t. NamesOther (fits_of c.args.sort) t c.of-parents.result.now c.of-ids.result.now) c.in-Some.ensures.table
    (same_ids (fits_of c.args.sort) points main c.of-parents.result.now c.of-ids.result.now above own wrong))
