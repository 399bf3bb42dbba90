use Rattle.std.proofs.Common.{◌≡◌, ◌+◌, ◌≤◌, ◌^◌, min, drop, take}
use Rattle.std.specs.List.{All}
use Rattle.otlp_model.specs.Weight.{total}
use Rattle.otlp_model.proofs.weights.parts_weight.Given as goal

abbrev pub invariant-loop-part : goal.invariant-loop-part
invariant-loop-part g l = record {
  capped : l.weight ≤ 2 ^ 63;
  weight : min (l.weight + total l.each g.P.HasWeight.weight_of (drop l.part-index l.parts)) (2 ^ 63)
      ≡ min (total l.each g.P.HasWeight.weight_of l.parts) (2 ^ 63);
  real : All g.P.HasWeight.is_real (take l.part-index l.parts);
}
