use Rattle.std.proofs.Common.{◌≡◌, true}
use Rattle.arrow_buffers.specs.Below.{all_below}
use Rattle.arrow_buffers.specs.Offsets.{is_fine_at, offset_before}
use Rattle.arrow_buffers.proofs.offsets.check.Given as goal

abbrev pub invariant-places : goal.invariant-places
invariant-places l = record {
  before : l.before ≡ offset_before l.offsets l.place;
  fine : all_below (is_fine_at l.width l.offsets l.values) l.place ≡ true;
}
