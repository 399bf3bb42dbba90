-- What private calls return of what reading gives: words of private contracts.
use Rattle.std.specs.Prelude.{◌≡◌, ℕ, min, List, length, Result, Ok, Err, ℤ, pos}
use Rattle.otlp_model.specs.Limits.{count_cap, part_weight}
use Rattle.otlp_model.specs.declared.value.Value.{Value}
use Rattle.otlp_model.specs.declared.value.Pair.{Pair}
use Rattle.otlp_model.specs.Weight.{weight_of_value, weight_of_pair, total}
use Rattle.cbor_values.specs.declared.refusal.CborRefusal.{CborRefusal}
use Rattle.cbor_values.specs.declared.weighing.Nesting.{Nesting}
use Rattle.cbor_values.specs.declared.weighing.Nesting.TheVariants as nesting
use Rattle.cbor_values.specs.declared.weighing.WeighedValue.{WeighedValue}
use Rattle.lists.specs.Results.{◌>>=◌}
use Rattle.cbor_values.specs.Reading.{ValueReading, whole_of}
use Rattle.cbor_values.specs.declared.refusal.CborRefusal.TheVariants.{Memory}

-- what the code returns of a value, and of its parts
abbrev pub told_of : Nesting → ℕ → WeighedValue
told_of nested weight = record { nesting = nested; weight = weight }

abbrev pub long : List ℕ → ℕ
long part = min (length part) count_cap

abbrev pub weight_of_members : List Value → ℕ
weight_of_members members = min (total part_weight weight_of_value members) count_cap

abbrev pub weight_of_pairs : List Pair → ℕ
weight_of_pairs pairs = min (total part_weight weight_of_pair pairs) count_cap

abbrev pub pair_weighed : Pair → ℕ
pair_weighed pair = min (weight_of_pair pair) count_cap

-- something is read, of which the code returns this, and these bytes are left
pub record IsTold {X Y : Type 0} (tell : Y → X) (reading : ValueReading Y) (told : X) (rest : List ℕ) : Type 0 where
  pub value : Y
  pub is : reading ≡ Ok (value, rest)
  pub of : told ≡ tell value

-- a result of the code agrees with what reading gives
abbrev pub TellsReading : {R X Y : Type 0} → (R → X × List ℕ) → (Y → X) → Result R CborRefusal → ValueReading Y → Type 0
TellsReading view tell (Ok found) reading = IsTold tell reading (view found).0 (view found).1
TellsReading view tell (Err refusal) reading = reading ≡ Err refusal

-- the same of all bytes
abbrev pub TellsAll : {X Y : Type 0} → (Y → X) → Result X CborRefusal → Result Y CborRefusal → Type 0
TellsAll {X} {Y} tell (Ok told) reading = (value : Y) × (reading ≡ Ok value) × (told ≡ tell value)
TellsAll tell (Err refusal) reading = reading ≡ Err refusal

-- a refusal of the code: the one that is met first, or that memory ran out
abbrev pub Fails : {Y : Type 0} → CborRefusal → Result Y CborRefusal → Type 0
Fails (Memory error) reading = Unit {0}
Fails refusal reading = reading ≡ Err refusal

-- a result of the code, seen by view, is what reading gives, unless memory ran out
abbrev pub ReturnsReading : {X Y : Type 0} → (X → Y) → Result X CborRefusal → Result Y CborRefusal → Type 0
ReturnsReading view (Ok x) reading = reading ≡ Ok (view x)
ReturnsReading view (Err refusal) reading = Fails refusal reading

-- an integer, where it is in range
abbrev pub int_of : ℕ → Result ℤ CborRefusal
int_of n = whole_of n >>= λ n. Ok (pos n)
