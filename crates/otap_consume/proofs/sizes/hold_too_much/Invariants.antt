use Rattle.std.proofs.Common.{◌≡◌, ◌^◌, min, take}
use Rattle.std.specs.Prelude.{sum_by}
use Rattle.otap_consume.specs.StreamSteps.{held_of}
use Rattle.otap_consume.proofs.sizes.hold_too_much.Given as goal

abbrev pub invariant-streams : goal.invariant-streams
invariant-streams l = l.total ≡ min (sum_by held_of (take l.stream-index l.streams)) (2 ^ 63)
