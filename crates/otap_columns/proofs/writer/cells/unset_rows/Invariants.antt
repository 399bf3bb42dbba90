use Rattle.std.proofs.Common.{◌≡◌, ◌<◌, ℕ}
use Rattle.otap_cells.specs.Cells.{null}
use Rattle.otap_cells.specs.Tables.{cell_in}
use Rattle.otap_columns.proofs.writer.cells.unset_rows.Given as goal

abbrev pub invariant-rows : goal.invariant-rows
invariant-rows l = (k : ℕ) → k < l.row → cell_in l.fn.table.rows l.fn.column k ≡ null
