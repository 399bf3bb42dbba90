-- The value of bytes, and what a reader returns.
use Rattle.std.specs.Prelude.{◌≡◌, ℕ, List, Option, Some, None, Result, Ok, Err}
use Rattle.otlp_model.specs.declared.value.Value.{Value}
use Rattle.cbor_values.specs.declared.refusal.CborRefusal.{CborRefusal}
use Rattle.cbor_values.specs.declared.refusal.CborRefusal.TheVariants.{Memory}
use Rattle.cbor_values.specs.Reading.{all_at}

abbrev pub value_if : Result Value CborRefusal → Option Value
value_if (Ok value) = Some value
value_if (Err refusal) = None

-- the value of the bytes, where they are one item that isn't too deep
unfoldable pub value_of : List ℕ → Option Value
value_of bytes = value_if (all_at bytes)

-- the result is that value, or a refusal where there is none, unless memory ran out
abbrev pub GivesValue : Result Value CborRefusal → Option Value → Type 0
GivesValue (Ok value) found = found ≡ Some value
GivesValue (Err (Memory error)) found = Unit {0}
GivesValue (Err refusal) found = found ≡ None
