use Rattle.std.proofs.Common.{◌≡◌, true}
use Rattle.arrow_buffers.specs.Below.{all_below}
use Rattle.arrow_buffers.specs.Lists.{is_full_at}
use Rattle.arrow_buffers.proofs.list_cells.Lists.check_nulls.Given as goal

abbrev pub invariant-rows : goal.invariant-rows
invariant-rows l = all_below (is_full_at l.self l.valid l.elements) l.row ≡ true
