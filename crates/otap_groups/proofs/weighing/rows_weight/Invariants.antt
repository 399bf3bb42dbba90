use Rattle.std.proofs.Common.{◌≡◌, ◌+◌, ◌≤◌, ◌^◌, drop, min}
use Rattle.otap_groups.specs.Weighing.{rows_of_groups}
use Rattle.otap_groups.proofs.weighing.rows_weight.Given as goal

abbrev pub invariant-groups : goal.invariant-groups
invariant-groups g l = record {
  capped : l.weight ≤ 2 ^ 63;
  so_far : min (l.weight + rows_of_groups g.W.RowWeights.of_resource g.W.RowWeights.of_scope g.W.RowWeights.of_item (drop l.group-index l.groups)) (2 ^ 63)
      ≡ min (rows_of_groups g.W.RowWeights.of_resource g.W.RowWeights.of_scope g.W.RowWeights.of_item l.groups) (2 ^ 63);
}
