use Rattle.std.proofs.Common.{◌<◌, [], length, get_or, sym, ap, ◌∙◌, arith}
use Rattle.otap_cells.specs.Columns.{width_of}
use Rattle.otap_cells.proofs.Rowwise.{fill_begins, fill_ends, fill_goes_on, fill_passes}
use Rattle.otap_columns.proofs.PlainForms.{row_width}
use Rattle.otap_columns.proofs.plain.copy_row.Goals as goal

pub cells-init : goal.cells-init
cells-init g c =
    let t = g.R.Rows.table c.args.rows.now in
    fill_begins _ _ _ c.in_ok-push_row.ensures.ok (row_width t c.args.row c.requires.sound c.requires.row ∙ ap width_of (sym c.requires.kind))

pub cells-preserved : goal.cells-preserved
cells-preserved g c =
    let t = g.R.Rows.table c.args.rows.now in
    let within : c.cells.column < length (get_or t.rows c.args.row []) =
    omega (arith, c.cells-test.true, c.columns.ensures.width, ap width_of c.kind.ensures, row_width t c.args.row c.requires.sound c.requires.row) in
    fill_goes_on c.args.table.now _ _ _ _ _ _ c.cells.invariant within c.cell-cell.ensures.value c.in_ok-set.ensures.ok

pub returns : goal.returns
returns g c =
    let t = g.R.Rows.table c.args.rows.now in
    fill_ends c.args.table.now _ _ (get_or t.rows c.args.row []) c.cells.column c.cells.invariant
    (omega (arith, c.cells-test.false, c.columns.ensures.width, ap width_of c.kind.ensures, row_width t c.args.row c.requires.sound c.requires.row))

pub cells-preserved-then-is_null : goal.cells-preserved-then-is_null
cells-preserved-then-is_null g c =
    let t = g.R.Rows.table c.args.rows.now in
    let within : c.cells.column < length (get_or t.rows c.args.row []) =
    omega (arith, c.cells-test.true, c.columns.ensures.width, ap width_of c.kind.ensures, row_width t c.args.row c.requires.sound c.requires.row) in
    fill_passes c.args.table.now _ _ _ _ c.cells.invariant within (sym c.cell-cell.ensures.value ∙ c.is_null.ensures c.if-is_null.true)
