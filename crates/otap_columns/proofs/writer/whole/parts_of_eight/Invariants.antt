use Rattle.std.proofs.Common.{[], take}
use Rattle.otap_columns.specs.BuiltCells.{AreParts}
use Rattle.otap_columns.specs.WrittenCells.{stored_column}
use Rattle.otap_columns.proofs.writer.whole.parts_of_eight.Given as goal

abbrev pub invariant-rows : goal.invariant-rows
invariant-rows l = AreParts 8 (take l.row (stored_column l.fn.form [] l.fn.table l.fn.column)) l.values.items
