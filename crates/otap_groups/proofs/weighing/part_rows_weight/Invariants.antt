use Rattle.std.proofs.Common.{◌≡◌, ◌^◌, take}
use Rattle.std.specs.Prelude.{min, sum_by}
use Rattle.otap_groups.proofs.weighing.part_rows_weight.Given as goal

abbrev pub invariant-parts : goal.invariant-parts
invariant-parts g l = l.weight ≡ min (sum_by g.W.PartWeights.of_part (take l.part-index l.parts)) (2 ^ 63)
