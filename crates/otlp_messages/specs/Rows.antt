-- What the fields of a number say: their values from the left, each over what was read before.
use Rattle.std.specs.Prelude.{ℕ, ◌/◌, ◌%◌, ◌^◌, List, [], ◌∷◌, ◌++◌, length, map, filter, fold, ◌==◌, if◌then◌else◌, Option, Some, Bool, not, ℤ}
use Rattle.std.specs.Int.{w32, w64, cast_signed}
use Rattle.lists.specs.Numbers.{little_numbers}
use Rattle.otlp_wire.specs.Wire.{FieldValue, Varint, Fixed64, Bytes, Fixed32, Entry}
use Rattle.otlp_wire.specs.Fields.{fields_of}

-- the values of the fields with this number
abbrev pub only : ℕ → List Entry → List FieldValue
only n fs = map (λ f. f.value) (filter (λ f. f.number == n) fs)

-- what the fields with this number say, where `none` is what it is without any
abbrev pub said : {A : Type 0} → ℕ → (A → FieldValue → A) → A → List ℕ → A
said n read none bytes = fold read none (only n (fields_of bytes))

-- one field of a reader that looks at each field in turn
abbrev pub at : {A : Type 0} → ℕ → (A → FieldValue → A) → A → Entry → A
at n read old f = if f.number == n then read old f.value else old

-- A value of each kind, read over an old one. A value of another wire type says nothing.
abbrev pub fixed64_in : ℕ → FieldValue → ℕ
fixed64_in old (Fixed64 n) = n
fixed64_in old value = old

abbrev pub fixed32_in : ℕ → FieldValue → ℕ
fixed32_in old (Fixed32 n) = n
fixed32_in old value = old

-- a varint of a narrower type has its low bits
abbrev pub uint32_in : ℕ → FieldValue → ℕ
uint32_in old (Varint n) = n % 2 ^ 32
uint32_in old value = old

abbrev pub int32_in : ℤ → FieldValue → ℤ
int32_in old (Varint n) = cast_signed w32 (n % 2 ^ 32)
int32_in old value = old

abbrev pub int64_in : ℤ → FieldValue → ℤ
int64_in old (Varint n) = cast_signed w64 n
int64_in old value = old

abbrev pub bool_in : Bool → FieldValue → Bool
bool_in old (Varint n) = not (n == 0)
bool_in old value = old

-- 64 bits that are there, also where they are zero, or not there
abbrev pub optional_in : Option ℕ → FieldValue → Option ℕ
optional_in old (Fixed64 n) = Some n
optional_in old value = old

-- one more number, or more packed numbers
abbrev pub packed_in : List ℕ → FieldValue → List ℕ
packed_in old (Fixed64 n) = old ++ n ∷ []
packed_in old (Bytes part) = old ++ little_numbers (length part / 8) part
packed_in old value = old

-- a text or bytes
abbrev pub bytes_in : List ℕ → FieldValue → List ℕ
bytes_in old (Bytes part) = part
bytes_in old value = old

-- a message, and one more message
abbrev pub embedded_in : {A : Type 0} → (List ℕ → A) → A → FieldValue → A
embedded_in read old (Bytes part) = read part
embedded_in read old value = old

abbrev pub many_in : {A : Type 0} → (List ℕ → A) → List A → FieldValue → List A
many_in read old (Bytes part) = old ++ read part ∷ []
many_in read old value = old

-- the messages among the values, in order
abbrev pub parts_of : List FieldValue → List (List ℕ)
parts_of [] = []
parts_of (Bytes part ∷ values) = part ∷ parts_of values
parts_of (value ∷ values) = parts_of values
