use Rattle.std.proofs.Common.{◌∙◌, length, sym, ap, subst}
use Rattle.std.proofs.lemmas.List.{length-map}
use Rattle.otap_cells.specs.GivenIds.{HasIds}
use Rattle.otap_cells.specs.Tables.{Table, profile_table}
use Rattle.otap_checks.specs.Known.{ids_named}
use Rattle.otap_attrs.specs.Index.{attribute_rows_in}
use Rattle.otap_attrs.specs.Sorting.{coded_rows}
use Rattle.otap_attrs.proofs.TablePairs.{attribute_id, ids_long}
use Rattle.otap_kept.specs.Numbers.{new_number}
use Rattle.otap_kept.specs.Rows.{under}
use Rattle.otap_kept.specs.Tables.{kept_attributes}
use Rattle.otap_kept.specs.Writing.{with_numbers}
use Rattle.otap_kept.proofs.UnderRows.{attributes_are, no_attributes}
use Rattle.otap_kept.proofs.attributes.attributes_below.Goals as goal

pub returns-in_default : goal.returns-in_default
returns-in_default g c =
    c.new.ensures ∙ no_attributes c.args.kept.now c.args.kind
    ∙ ap (λ t. kept_attributes c.args.kind (under c.args.kept.now (attribute_rows_in t))) (sym c.in_default.ensures.table)

pub numbered_rows-requires-clause-long : goal.numbered_rows-requires-clause-long
numbered_rows-requires-clause-long g c =
    let t = g.R.Rows.table c.in-Some.rows.now in
    let own : HasIds t 0 c.of.result.now = rw c.of.ensures
    (subst (λ t. HasIds t 0 (ids_named c.args.kind 0 c.args.read.now)) c.in-Some.ensures.table
    (c.requires.known 0 (attribute_id c.args.kind c.requires.kind)).are) in
    ap length (c.deref.ensures.value ∙ c.in_ok-numbers.ensures) ∙ length-map c.of.result.now (new_number c.args.kept.now) ∙ ids_long t 0 c.of.result.now own

pub returns : goal.returns
returns g c =
    let t = g.R.Rows.table c.in-Some.rows.now in
    let kept = c.args.kept.now in
    let own : HasIds t 0 c.of.result.now = rw c.of.ensures
    (subst (λ t. HasIds t 0 (ids_named c.args.kind 0 c.args.read.now)) c.in-Some.ensures.table
    (c.requires.known 0 (attribute_id c.args.kind c.requires.kind)).are) in
    c.in_ok-code_parents.ensures.ok
    ∙ ap (λ (x : Table). profile_table x.kind (coded_rows x.rows)) c.in_ok-table.ensures
    ∙ (λ i. profile_table (c.in-Some.ensures.of_kind i) (coded_rows (with_numbers ((c.deref.ensures.value ∙ c.in_ok-numbers.ensures) i) t.rows)))
    ∙ attributes_are kept c.args.kind t c.of.result.now own
    ∙ ap (λ t. kept_attributes c.args.kind (under kept (attribute_rows_in t))) (sym c.in-Some.ensures.table)
