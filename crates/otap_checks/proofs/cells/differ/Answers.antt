use Rattle.std.proofs.Common.{◌∙◌, sym, ap, subst}
use Rattle.otap_cells.specs.Named.{table_named}
use Rattle.otap_groups.specs.Disagree.{Disagree}
use Rattle.otap_checks.specs.Reading.{main_rows_in}
use Rattle.otap_checks.proofs.RuleSteps.{none_there}
use Rattle.otap_checks.proofs.TableIds.{disagree_too, disagrees_too, has_them}
use Rattle.otap_checks.proofs.cells.differ.Goals as goal

pub returns-in_default-clause-no : goal.returns-in_default-clause-no
returns-in_default-clause-no g c = λ found. none_there _ c.args.kind c.in_default.ensures.table

pub returns-clause-yes : goal.returns-clause-yes
returns-clause-yes g c = λ found.
    let t = table_named c.args.kind c.args.set.now in
    let main = c.requires.main in
    disagrees_too t (has_them t 1 _ (c.requires.known 1 main.resource_id).are) (has_them t 4 _ (c.requires.known 4 main.scope_id).are)
    (subst Disagree (c.front_of-front.ensures.rows ∙ ap main_rows_in (sym c.in-Some.ensures.table)) (c.in_ok-found.ensures.yes found))

pub returns-clause-no : goal.returns-clause-no
returns-clause-no g c = λ found differ.
    let t = table_named c.args.kind c.args.set.now in
    c.in_ok-found.ensures.no found (subst Disagree (ap main_rows_in c.in-Some.ensures.table ∙ sym c.front_of-front.ensures.rows) (disagree_too t differ))
