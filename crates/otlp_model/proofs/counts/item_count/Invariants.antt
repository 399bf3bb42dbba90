use Rattle.std.proofs.Common.{◌≡◌, ◌+◌, ◌≤◌, ◌^◌, min, drop, length}
use Rattle.otlp_model.specs.Telemetry.{item_entries}
use Rattle.otlp_model.proofs.counts.item_count.Given as goal

abbrev pub invariant-loop-group : goal.invariant-loop-group
invariant-loop-group g l = record {
  capped : l.count ≤ 2 ^ 63;
  counted : min (l.count + length (item_entries (drop l.group-index l.groups))) (2 ^ 63)
      ≡ min (length (item_entries l.groups)) (2 ^ 63);
}
