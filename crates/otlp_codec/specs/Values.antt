-- What the messages of values say: AnyValue, ArrayValue, KeyValueList and KeyValue (OTLP, common.proto).
use Rattle.std.specs.Prelude.{ℕ, zero, suc, List, [], fold, ◌==◌, not}
use Rattle.std.specs.Int.{w64, cast_signed}
use Rattle.otlp_wire.specs.Wire as wire
use Rattle.otlp_wire.specs.Wire.{FieldValue, Entry}
use Rattle.otlp_wire.specs.Fields.{fields_of}
use Rattle.otlp_messages.specs.Rows.{said, at, bytes_in, embedded_in, many_in}
use Rattle.otlp_model.specs.declared.value.Value.{Value}
use Rattle.otlp_model.specs.declared.value.Value.TheVariants.{Empty, Str, Bool, Int, Double, Array, Map, Bytes}
use Rattle.otlp_model.specs.declared.value.Pair.{Pair}

-- the members of AnyValue's oneof; a field of another wire type says nothing
abbrev pub string_in : Value → FieldValue → Value
string_in old (wire.Bytes part) = Str part
string_in old value = old

abbrev pub bool_value_in : Value → FieldValue → Value
bool_value_in old (wire.Varint n) = Bool (not (n == 0))
bool_value_in old value = old

abbrev pub int_value_in : Value → FieldValue → Value
int_value_in old (wire.Varint n) = Int (cast_signed w64 n)
int_value_in old value = old

abbrev pub double_value_in : Value → FieldValue → Value
double_value_in old (wire.Fixed64 n) = Double n
double_value_in old value = old

abbrev pub array_value_in : (List ℕ → List Value) → Value → FieldValue → Value
array_value_in array old (wire.Bytes part) = Array (array part)
array_value_in array old value = old

abbrev pub kvlist_value_in : (List ℕ → List Pair) → Value → FieldValue → Value
kvlist_value_in map old (wire.Bytes part) = Map (map part)
kvlist_value_in map old value = old

abbrev pub bytes_value_in : Value → FieldValue → Value
bytes_value_in old (wire.Bytes part) = Bytes part
bytes_value_in old value = old

-- AnyValue, a line for each member: the member that is there
abbrev pub any_in : (List ℕ → List Value) → (List ℕ → List Pair) → Value → Entry → Value
any_in array map old f =
    at 1 string_in
    (at 2 bool_value_in
    (at 3 int_value_in
    (at 4 double_value_in
    (at 5 (array_value_in array)
    (at 6 (kvlist_value_in map)
    (at 7 bytes_value_in old f) f) f) f) f) f) f

abbrev pub any_of : (List ℕ → List Value) → (List ℕ → List Pair) → List ℕ → Value
any_of array map bytes = fold (any_in array map) Empty (fields_of bytes)

-- KeyValue
abbrev pub pair_of : (List ℕ → Value) → List ℕ → Pair
pair_of value bytes = record {
  key = said 1 bytes_in [] bytes;
  value = said 2 (embedded_in value) Empty bytes;
}

-- the members of ArrayValue and of KeyValueList
abbrev pub members_of : {A : Type 0} → (List ℕ → A) → List ℕ → List A
members_of member bytes = said 1 (many_in member) [] bytes

-- what an AnyValue says below which this number of levels of members may be
unfoldable pub any_value_at : ℕ → List ℕ → Value
any_value_at zero = any_of (λ part. []) (λ part. [])
any_value_at (suc levels) = any_of (members_of (any_value_at levels)) (members_of (pair_of (any_value_at levels)))

unfoldable pub key_value_at : ℕ → List ℕ → Pair
key_value_at levels = pair_of (any_value_at levels)
