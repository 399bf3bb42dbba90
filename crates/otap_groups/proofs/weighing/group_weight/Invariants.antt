use Rattle.std.proofs.Common.{◌≡◌, ◌+◌, ◌≤◌, ◌^◌, drop, length, min}
use Rattle.std.specs.Prelude.{◌||◌, filter, nat_lt, sum_by}
use Rattle.otap_groups.specs.Weighing.{rows_of_scope}
use Rattle.otap_groups.proofs.weighing.group_weight.Given as goal

abbrev pub invariant-scopes : goal.invariant-scopes
invariant-scopes g l = record {
  capped : l.weight ≤ 2 ^ 63;
  so_far : min (l.weight + sum_by (rows_of_scope g.W.RowWeights.of_scope g.W.RowWeights.of_item l.group.resource)
      (filter (λ scope. nat_lt 0 (length scope.items)) (drop l.scope-index l.scope-items))) (2 ^ 63)
      ≡ min (sum_by (rows_of_scope g.W.RowWeights.of_scope g.W.RowWeights.of_item l.group.resource) (filter (λ scope. nat_lt 0 (length scope.items)) l.scope-items)) (2 ^ 63);
  some : (l.some || nat_lt 0 (length (filter (λ scope. nat_lt 0 (length scope.items)) (drop l.scope-index l.scope-items))))
      ≡ nat_lt 0 (length (filter (λ scope. nat_lt 0 (length scope.items)) l.scope-items));
}
