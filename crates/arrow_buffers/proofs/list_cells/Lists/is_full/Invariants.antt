use Rattle.std.proofs.Common.{◌≡◌, ◌+◌, true, not}
use Rattle.arrow_buffers.specs.Below.{all_below}
use Rattle.arrow_buffers.specs.Bits.{flag_of}
use Rattle.arrow_buffers.specs.Lists.{is_null}
use Rattle.arrow_buffers.proofs.list_cells.Lists.is_full.Given as goal

abbrev pub invariant-elements : goal.invariant-elements
invariant-elements l = all_below (λ k. not (is_null (flag_of l.elements (l.start + k)))) l.k ≡ true
