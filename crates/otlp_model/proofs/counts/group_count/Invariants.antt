use Rattle.std.proofs.Common.{◌≡◌, ◌+◌, ◌≤◌, ◌^◌, min, drop, length}
use Rattle.std.specs.List.{flat_map}
use Rattle.otlp_model.specs.Telemetry.{entries_of_scope_group}
use Rattle.otlp_model.proofs.counts.group_count.Given as goal

abbrev pub invariant-loop-scope : goal.invariant-loop-scope
invariant-loop-scope g l = record {
  capped : l.count ≤ 2 ^ 63;
  counted : min (l.count + length (flat_map (entries_of_scope_group l.group.resource) (drop l.scope-index l.scope-items))) (2 ^ 63)
      ≡ min (length (flat_map (entries_of_scope_group l.group.resource) l.scope-items)) (2 ^ 63);
}
