use Rattle.std.proofs.Common.{map, take}
use Rattle.otap_columns.specs.BuiltCells.{AreParts, index_of, index_size}
use Rattle.otap_columns.proofs.writer.whole.wide_bytes.Given as goal

abbrev pub invariant-rows : goal.invariant-rows
invariant-rows l = AreParts (index_size l.fn.form) (take l.row (map (index_of l.fn.form) l.fn.places)) l.values.items
