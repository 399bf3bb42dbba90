use Rattle.std.proofs.Common.{◌≡◌, ◌+◌, ◌≤◌, ◌^◌, min, drop}
use Rattle.std.specs.List.{list_all}
use Rattle.otlp_model.specs.Weight.{weight_of_value, weight_of_pair, total}
use Rattle.otlp_model.specs.Real.{is_real_value, is_real_pair}
use Rattle.otlp_model.proofs.weights.+weight.Given as goal

abbrev pub invariant-members_weight-loop-member : goal.invariant-members_weight-loop-member
invariant-members_weight-loop-member l = record {
  capped : l.weight ≤ 2 ^ 63;
  weight : min (l.weight + total 32 weight_of_value (drop l.member-index l.members)) (2 ^ 63)
      ≡ min (total 32 weight_of_value l.members) (2 ^ 63);
  real : list_all is_real_value (drop l.member-index l.members) ≡ list_all is_real_value l.members;
}

abbrev pub invariant-pairs_weight-loop-pair : goal.invariant-pairs_weight-loop-pair
invariant-pairs_weight-loop-pair l = record {
  capped : l.weight ≤ 2 ^ 63;
  weight : min (l.weight + total 32 weight_of_pair (drop l.pair-index l.pairs)) (2 ^ 63)
      ≡ min (total 32 weight_of_pair l.pairs) (2 ^ 63);
  real : list_all is_real_pair (drop l.pair-index l.pairs) ≡ list_all is_real_pair l.pairs;
}
