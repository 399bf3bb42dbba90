-- How deep values nest.
use Rattle.std.specs.Prelude.{ℕ, ◌+◌, max, List, [], ◌∷◌}
use Rattle.otlp_model.specs.declared.value.Value.{Value, fold-Value}
use Rattle.otlp_model.specs.declared.value.Value.TheOpen.{Value-F}

-- the greatest of some numbers, and 0 of none
abbrev pub greatest : List ℕ → ℕ
greatest [] = 0
greatest (n ∷ ns) = max n (greatest ns)

-- the depth of a value whose members have these depths
abbrev pub depth_step : Value-F ℕ ℕ → ℕ
depth_step (Value-F.Array members) = greatest members + 1
depth_step (Value-F.Map pairs) = greatest pairs + 1
depth_step _ = 1

-- 1, and for an array or a key-value list 1 more than its deepest member
abbrev pub depth_of : Value → ℕ
depth_of = fold-Value ℕ ℕ depth_step (λ pair. pair.value)
