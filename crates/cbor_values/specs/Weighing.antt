-- What weighing a value returns: whether it holds others, and its weight.
use Rattle.std.specs.Prelude.{◌≡◌, ℕ, min, List, Some}
use Rattle.otlp_model.specs.Limits.{count_cap}
use Rattle.otlp_model.specs.declared.value.Value.{Value, out-Value}
use Rattle.otlp_model.specs.declared.value.Value.TheOpen.{Value-F}
use Rattle.otlp_model.specs.declared.value.Pair.{Pair}
use Rattle.otlp_model.specs.Weight.{weight_of_value}
use Rattle.cbor_values.specs.declared.weighing.Nesting.{Nesting}
use Rattle.cbor_values.specs.declared.weighing.Nesting.TheVariants as nesting
use Rattle.cbor_values.specs.declared.weighing.WeighedValue.{WeighedValue}
use Rattle.cbor_values.specs.Values.{value_of}

-- whether a value holds others
abbrev pub nesting_step : Value-F Value Pair → Nesting
nesting_step (Value-F.Map pairs) = nesting.Map
nesting_step (Value-F.Array members) = nesting.Array
nesting_step _ = nesting.Plain

abbrev pub nesting_of : Value → Nesting
nesting_of value = nesting_step (out-Value value)

-- whether a value holds others, and what it weighs, up to 2^63
abbrev pub weighed : Value → WeighedValue
weighed value = record { nesting = nesting_of value; weight = min (weight_of_value value) count_cap }

-- this is what weighing the value of these bytes returns
pub record IsWeighed (bytes : List ℕ) (told : WeighedValue) : Type 0 where
  pub value : Value
  pub is : value_of bytes ≡ Some value
  pub of : told ≡ weighed value
