use Rattle.std.proofs.Common.{◌≡◌, ◌+◌, ◌≤◌, ◌^◌, drop, min}
use Rattle.otlp_model.specs.Limits.{weight_limit}
use Rattle.otlp_model.specs.Weight.{total, weight_of_pair}
use Rattle.otap_groups.specs.Weighing.{parts_weight}
use Rattle.otap_attrs.specs.Values.{pair_cells}
use Rattle.otap_attrs.proofs.written.attributes_weight.Given as goal

abbrev pub invariant-pairs : goal.invariant-pairs
invariant-pairs l = record {
  capped : l.weight ≤ 2 ^ 63;
  so_far : min (l.weight + parts_weight pair_cells (drop l.pair-index l.pair-items)) (2 ^ 63) ≡ min (parts_weight pair_cells l.pair-items) (2 ^ 63);
  few : total 32 weight_of_pair (drop l.pair-index l.pair-items) ≤ weight_limit;
}
