use Rattle.std.proofs.Common.{◌≡◌, ◌+◌, ◌≤◌, ◌^◌, min, drop, get_or}
use Rattle.otlp_model.specs.Weight.{total}
use Rattle.otap_groups.specs.declared.entry.ChildEntry.{ChildEntry}
use Rattle.otap_attrs.proofs.index.PairIndex.weight_of.Given as goal

abbrev pub invariant-entries : goal.invariant-entries
invariant-entries l = record {
  capped : l.weight ≤ 2 ^ 63;
  so_far : min (l.weight + total 32 (λ (e : ChildEntry). get_or l.self-inside.weights.items e.place 0) (drop l.entry-index l.entries)) (2 ^ 63)
      ≡ min (total 32 (λ (e : ChildEntry). get_or l.self-inside.weights.items e.place 0) l.entries) (2 ^ 63);
}
