use Rattle.std.proofs.Common.{◌≡◌, ◌+◌, ◌≤◌, ◌^◌, drop, min}
use Rattle.std.specs.Prelude.{sum_by}
use Rattle.otap_groups.specs.Weighing.{front_weight}
use Rattle.otap_groups.proofs.weighing.scope_weight.Given as goal

abbrev pub invariant-items : goal.invariant-items
invariant-items g l = record {
  capped : l.weight ≤ 2 ^ 63;
  so_far : min (l.weight + sum_by (λ item. front_weight l.resource l.group.scope + g.W.RowWeights.of_item item) (drop l.item-index l.item-items)) (2 ^ 63)
      ≡ min (g.W.RowWeights.of_scope l.group.scope + sum_by (λ item. front_weight l.resource l.group.scope + g.W.RowWeights.of_item item) l.item-items) (2 ^ 63);
}
