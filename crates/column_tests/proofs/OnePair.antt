-- What a pair alone weighs.
use Rattle.std.proofs.Common.{◌≡◌, ◌≤◌, List, [], ◌∷◌, length, arith}
use Rattle.otlp_model.specs.declared.value.Pair.{Pair}
use Rattle.otlp_model.specs.Limits.{weight_limit}
use Rattle.otlp_model.specs.Weight.{total, weight_of_pair, weight_of_value}

-- one that weighs little is far below the limit
pub one_pair : (pairs : List Pair) (pair : Pair) → pairs ≡ pair ∷ [] → length pair.key ≤ 1000 → weight_of_value pair.value ≤ 1000
    → total 32 weight_of_pair pairs ≤ weight_limit
one_pair pairs pair is short light = rw is (omega arith)
