use Rattle.std.proofs.Common.{◌≡◌, ◌+◌, ◌-◌, ◌<◌, ◌≤◌, [], ◌∷◌, ◌++◌, None, length, take, replicate, arith, ap, ◌∙◌}
use Rattle.arrow_buffers.specs.Columns.{ColumnIn, cells_len, cell_len}
use Rattle.otap_cells.specs.Cells.{seen}
use Rattle.otap_cells.specs.Columns.{base_at}
use Rattle.otap_cells.specs.Tables.{cell_in}
use Rattle.otap_columns.specs.Observed.{bytes_for}
use Rattle.otap_columns.specs.WrittenCells.{stored_for, stored_column}
use Rattle.otap_columns.specs.BuiltCells.{width_for}
use Rattle.otap_columns.proofs.ColumnsBuilt.{nulls_first, plain_stored, stored_more, stored_room, stored_to_last}
use Rattle.otap_columns.proofs.writer.columns.values_with_nulls.Goals as goal

pub rows-init : goal.rows-init
rows-init c =
    let base_is : c.base_of-base.result ≡ base_at c.args.table.now.kind c.args.column = c.base_of-base.ensures ∙ ap (λ k. base_at k c.args.column) c.kind.ensures in
    let width_is : c.width_for.result ≡ width_for (base_at c.args.table.now.kind c.args.column) c.args.form = c.width_for.ensures ∙ ap (λ b. width_for b c.args.form) base_is in
    let nulls = nulls_first c.args.form c.args.table.now c.args.column c.unset_rows-first.result c.requires.plain c.unset_rows-first.ensures.null
    (omega (arith, c.unset_rows-first.ensures.within, c.set_rows-count.ensures.within)) in
    c.in_ok-push_nulls.ensures.ok
    ∙ (λ i. record { width = (c.in_ok-built.ensures i).width; cells = (c.in_ok-built.ensures i).cells ++ replicate c.unset_rows-first.result None })
    ∙ (λ i. record { width = width_is i; cells = nulls i })

pub push_value-requires-clause-room : goal.push_value-requires-clause-room
push_value-requires-clause-room c =
    let base_is : c.base_of-base.result ≡ base_at c.args.table.now.kind c.args.column = c.base_of-base.ensures ∙ ap (λ k. base_at k c.args.column) c.kind.ensures in
    let part_is : bytes_for c.base_of-base.result c.args.form (seen c.cell.result) ≡ stored_for (base_at c.args.table.now.kind c.args.column) c.args.form [] (cell_in c.args.table.now.rows c.args.column c.rows.row) =
    (λ i. bytes_for (base_is i) c.args.form (c.cell.ensures.value i))
    ∙ plain_stored (base_at c.args.table.now.kind c.args.column) c.args.form [] (cell_in c.args.table.now.rows c.args.column c.rows.row) c.requires.plain in
    let low : c.rows.row < length c.args.table.now.rows = omega (arith, c.set_rows-count.ensures.within) in
    let room : cells_len (take c.rows.row (stored_column c.args.form [] c.args.table.now c.args.column)) + cell_len (bytes_for c.base_of-base.result c.args.form (seen c.cell.result))
    ≤ cells_len (stored_column c.args.form [] c.args.table.now c.args.column) =
    stored_room c.args.form [] c.args.table.now c.args.column c.rows.row (bytes_for c.base_of-base.result c.args.form (seen c.cell.result)) low part_is in
    let cells : cells_len c.rows.built.cells ≡ cells_len (take c.rows.row (stored_column c.args.form [] c.args.table.now c.args.column)) = ap (λ (b : ColumnIn). cells_len b.cells) c.rows.invariant in
    omega (arith, room, cells, c.requires.room)

pub rows-preserved : goal.rows-preserved
rows-preserved c =
    let base_is : c.base_of-base.result ≡ base_at c.args.table.now.kind c.args.column = c.base_of-base.ensures ∙ ap (λ k. base_at k c.args.column) c.kind.ensures in
    let part_is : bytes_for c.base_of-base.result c.args.form (seen c.cell.result) ≡ stored_for (base_at c.args.table.now.kind c.args.column) c.args.form [] (cell_in c.args.table.now.rows c.args.column c.rows.row) =
    (λ i. bytes_for (base_is i) c.args.form (c.cell.ensures.value i))
    ∙ plain_stored (base_at c.args.table.now.kind c.args.column) c.args.form [] (cell_in c.args.table.now.rows c.args.column c.rows.row) c.requires.plain in
    let low : c.rows.row < length c.args.table.now.rows = omega (arith, c.set_rows-count.ensures.within) in
    let more = stored_more c.args.form [] c.args.table.now c.args.column c.rows.row (bytes_for c.base_of-base.result c.args.form (seen c.cell.result)) low part_is in
    c.in_ok-push_value.ensures ∙ (λ i. record { width = (c.rows.invariant i).width; cells = (c.rows.invariant i).cells ++ bytes_for c.base_of-base.result c.args.form (seen c.cell.result) ∷ [] })
    ∙ (λ i. record { width = width_for (base_at c.args.table.now.kind c.args.column) c.args.form; cells = more i })

pub returns : goal.returns
returns c =
    let whole = stored_to_last c.args.form c.args.table.now c.args.column c.rows.row c.requires.plain (λ row le. c.set_rows-count.ensures.null row (omega (arith, le, c.rows-test.false)))
    (c.rows-rows.result - c.set_rows-count.result) (omega (arith, c.rows-rows.ensures.count, c.set_rows-count.ensures.within, c.rows-test.false)) in
    c.in_ok-push_nulls-2.ensures.ok
    ∙ (λ i. record { width = (c.rows.invariant i).width; cells = (c.rows.invariant i).cells ++ replicate (c.rows-rows.result - c.set_rows-count.result) None })
    ∙ (λ i. record { width = width_for (base_at c.args.table.now.kind c.args.column) c.args.form; cells = whole i })
