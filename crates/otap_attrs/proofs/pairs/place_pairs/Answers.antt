use Rattle.std.proofs.Common.{◌≤◌, List, subst, sym, arith}
use Rattle.otlp_model.specs.declared.value.Pair.{Pair}
use Rattle.otlp_model.specs.Limits.{weight_limit}
use Rattle.otlp_model.specs.Weight.{total, weight_of_pair, weight_of_value}
use Rattle.otap_attrs.proofs.PairRows.{value_weight}
use Rattle.otap_attrs.proofs.pairs.place_pairs.Goals as goal

pub place_pair-requires : goal.place_pair-requires
place_pair-requires c =
    subst (λ (pair : Pair). weight_of_value pair.value ≤ weight_limit) (sym c.pair-item.is)
    (value_weight c.as_slice-pair-items.result.now c.pairs.pair-index weight_limit c.pair-item.result
    (subst (λ (pairs : List Pair). total 32 weight_of_pair pairs ≤ weight_limit) (sym c.as_slice-pair-items.ensures) c.requires.weight) (omega arith))
