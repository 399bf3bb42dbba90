use Rattle.std.proofs.Common.{◌≡◌, [], List, ℕ, Option, Some, arith, sym, ap, subst, ◌∙◌}
use Rattle.std.proofs.lemmas.List.{take_all}
use Rattle.otap_cells.specs.Cells.{seen}
use Rattle.otap_columns.specs.Observed.{bytes_for}
use Rattle.otap_columns.specs.WrittenCells.{stored_column}
use Rattle.otap_columns.specs.BuiltCells.{AreParts, shown_bytes}
use Rattle.otap_columns.proofs.ColumnsBuilt.{stored_len}
use Rattle.otap_columns.proofs.Whole.{no_parts, part_more, stored_part}
use Rattle.otap_columns.proofs.writer.whole.parts_of_one.Goals as goal

pub rows-init : goal.rows-init
rows-init c = no_parts 1 (stored_column c.args.form [] c.args.table.now c.args.column) _ c.in_ok-values.ensures.items

pub rows-preserved : goal.rows-preserved
rows-preserved c =
    let shown : bytes_for c.args.base c.args.form (seen c.cell.result) ≡ Some c.in-One.bytes = sym c.bytes_for.ensures ∙ ap shown_bytes c.in-One.is in
    part_more 1 _ c.rows.row c.in-One.bytes _ _ c.push_one.ensures.size c.in_ok-push_one.ensures.items
    (stored_part c.args.form c.args.table.now c.args.column c.rows.row c.args.base (seen c.cell.result) c.in-One.bytes c.requires.plain (omega (arith, c.rows-count.ensures.count)) c.requires.base c.cell.ensures.value shown)
    c.rows.invariant

pub returns : goal.returns
returns c =
    let cells = stored_column c.args.form [] c.args.table.now c.args.column in
    subst (λ (all : List (Option (List ℕ))). AreParts 1 all c.rows.values.items)
    (take_all c.rows.row cells (omega (arith, stored_len c.args.form [] c.args.table.now c.args.column, c.rows-count.ensures.count, c.rows-test.false))) c.rows.invariant
