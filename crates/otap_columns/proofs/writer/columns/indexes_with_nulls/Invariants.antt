use Rattle.std.proofs.Common.{◌≡◌, map, take}
use Rattle.arrow_buffers.specs.declared.width.Width.TheVariants.{Fixed}
use Rattle.otap_columns.specs.BuiltCells.{index_of, index_size}
use Rattle.otap_columns.proofs.writer.columns.indexes_with_nulls.Given as goal

abbrev pub invariant-rows : goal.invariant-rows
invariant-rows l = l.built ≡ record { width = Fixed (index_size l.fn.form); cells = map (index_of l.fn.form) (take l.row l.fn.places) }
