use Rattle.std.proofs.Common.{◌≡◌, ◌^◌, max, min, map, drop}
use Rattle.otlp_model.specs.Depth.{depth_of, greatest}
use Rattle.otlp_model.specs.PairDepth.{depth_of_pair}
use Rattle.otlp_model.proofs.depths.+depth.Given as goal

abbrev pub invariant-deepest_member-loop-member : goal.invariant-deepest_member-loop-member
invariant-deepest_member-loop-member l =
    max l.deepest (min (greatest (map depth_of (drop l.member-index l.members))) (2 ^ 63))
    ≡ min (greatest (map depth_of l.members)) (2 ^ 63)

abbrev pub invariant-deepest_pair-loop-pair : goal.invariant-deepest_pair-loop-pair
invariant-deepest_pair-loop-pair l =
    max l.deepest (min (greatest (map depth_of_pair (drop l.pair-index l.pairs))) (2 ^ 63))
    ≡ min (greatest (map depth_of_pair l.pairs)) (2 ^ 63)
