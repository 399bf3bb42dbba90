use Rattle.std.proofs.Common.{◌≡◌, true}
use Rattle.arrow_buffers.specs.Below.{all_below}
use Rattle.arrow_arrays.specs.Views.{cell_seen}
use Rattle.otap_columns.specs.Substreams.{is_index_below}
use Rattle.otap_columns.proofs.reader.indexes.are_below.Given as goal

abbrev pub invariant-rows : goal.invariant-rows
invariant-rows l = all_below (λ row. is_index_below l.count (cell_seen l.column row)) l.row ≡ true
