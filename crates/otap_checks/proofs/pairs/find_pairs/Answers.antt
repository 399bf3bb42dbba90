use Rattle.std.proofs.Common.{◌∙◌, drop, sym, ap, subst}
use Rattle.std.proofs.lemmas.List.{length-map}
use Rattle.otap_cells.specs.GivenIds.{HasIds}
use Rattle.otap_checks.specs.Known.{ids_named}
use Rattle.otap_attrs.specs.Index.{pairs_in}
use Rattle.otap_attrs.proofs.TablePairs.{attribute_id, ids_long, pairs_are}
use Rattle.otap_checks.proofs.MissingRows.{no_pairs}
use Rattle.otap_checks.proofs.pairs.find_pairs.Goals as goal

pub returns-in_default : goal.returns-in_default
returns-in_default g c = λ parent.
    no_pairs c.args.kind parent ∙ ap (λ t. pairs_in t parent) (sym c.in_default.ensures.table)

pub new-requires : goal.new-requires
new-requires g c =
    let t = g.R.Rows.table c.in-Some.rows.now in
    let own : HasIds t 0 c.of.result.now = rw c.of.ensures (subst (λ t. HasIds t 0 (ids_named c.args.kind 0 c.args.known.now.ids)) c.in-Some.ensures.table
    (c.requires.known 0 (attribute_id c.args.kind c.requires.kind)).are) in
    ids_long t 0 c.of.result.now own ∙ sym (length-map t.rows (drop 1))

pub returns : goal.returns
returns g c = λ parent.
    let t = g.R.Rows.table c.in-Some.rows.now in
    let own : HasIds t 0 c.of.result.now = rw c.of.ensures (subst (λ t. HasIds t 0 (ids_named c.args.kind 0 c.args.known.now.ids)) c.in-Some.ensures.table
    (c.requires.known 0 (attribute_id c.args.kind c.requires.kind)).are) in
    c.in_ok-made.ensures parent ∙ pairs_are t c.of.result.now parent own ∙ ap (λ t. pairs_in t parent) (sym c.in-Some.ensures.table)
