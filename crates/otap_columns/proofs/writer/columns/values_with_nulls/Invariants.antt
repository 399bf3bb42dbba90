use Rattle.std.proofs.Common.{◌≡◌, [], take}
use Rattle.otap_cells.specs.Columns.{base_at}
use Rattle.otap_columns.specs.WrittenCells.{stored_column}
use Rattle.otap_columns.specs.BuiltCells.{width_for}
use Rattle.otap_columns.proofs.writer.columns.values_with_nulls.Given as goal

abbrev pub invariant-rows : goal.invariant-rows
invariant-rows l = l.built ≡ record { width = width_for (base_at l.fn.table.kind l.fn.column) l.fn.form; cells = take l.row (stored_column l.fn.form [] l.fn.table l.fn.column) }
