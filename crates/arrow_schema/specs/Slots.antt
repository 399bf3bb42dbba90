-- What the tables of a field say, slot by slot (Arrow's Schema.fbs: `Field`, `DictionaryEncoding`, `KeyValue` and the tables of types).
use Rattle.std.specs.Prelude.{ℕ, ◌==◌, not, Bool, List, [], Result, Ok, Option, None, Some, ℤ, pos}
use Rattle.std.specs.Int.{Width, w16, w32, w64}
use Rattle.flat_tables.specs.declared.fault.FlatFault.{FlatFault}
use Rattle.lists.specs.Results.{◌>>=◌}
use Rattle.flat_tables.specs.Tables.{TableIn, byte_slot, signed_slot, table_slot, text_slot, or_default}

-- the name of a field: an absent one is empty
abbrev pub name_slot : TableIn → Result (List ℕ) FlatFault
name_slot t = or_default [] (text_slot t 0)

-- the number of its type
abbrev pub kind_slot : TableIn → Result ℕ FlatFault
kind_slot t = or_default 0 (byte_slot t 2)

-- a number of the type's table. Where the table is absent, each number in it has its default
abbrev pub in_type : {A : Type 0} → A → (TableIn → Result A FlatFault) → Option TableIn → Result A FlatFault
in_type default read None = Ok default
in_type default read (Some t) = read t

abbrev pub type_slot : Width → ℕ → ℤ → TableIn → Result ℤ FlatFault
type_slot w n default t = table_slot t 3 >>= in_type default (λ u. or_default default (signed_slot w n u 0))

-- `bitWidth`, `is_signed`, `precision`, `unit` and `byteWidth`. The unit of a Duration is 1, milliseconds, where it is absent
abbrev pub int_width : TableIn → Result ℤ FlatFault
int_width t = type_slot w32 4 (pos 0) t

abbrev pub is_set : ℕ → Bool
is_set n = not (n == 0)

abbrev pub int_sign : TableIn → Result Bool FlatFault
int_sign t = table_slot t 3 >>= in_type 0 (λ u. or_default 0 (byte_slot u 1)) >>= λ n. Ok (is_set n)

abbrev pub precision : TableIn → Result ℤ FlatFault
precision t = type_slot w16 2 (pos 0) t

abbrev pub timestamp_unit : TableIn → Result ℤ FlatFault
timestamp_unit t = type_slot w16 2 (pos 0) t

abbrev pub duration_unit : TableIn → Result ℤ FlatFault
duration_unit t = type_slot w16 2 (pos 1) t

abbrev pub byte_width : TableIn → Result ℤ FlatFault
byte_width t = type_slot w32 4 (pos 0) t

-- the dictionary of a field, its number, and the type of its indexes
abbrev pub dictionary_slot : TableIn → Result (Option TableIn) FlatFault
dictionary_slot t = table_slot t 4

abbrev pub dictionary_id : TableIn → Result ℤ FlatFault
dictionary_id d = or_default (pos 0) (signed_slot w64 8 d 0)

abbrev pub index_slot : TableIn → Result (Option TableIn) FlatFault
index_slot d = table_slot d 1

abbrev pub index_width : TableIn → Result ℤ FlatFault
index_width u = or_default (pos 0) (signed_slot w32 4 u 0)

abbrev pub index_sign : TableIn → Result Bool FlatFault
index_sign u = or_default 0 (byte_slot u 1) >>= λ n. Ok (is_set n)

-- the byte order of a schema, and the vectors of a schema's fields and of a field's children
abbrev pub byte_order : TableIn → Result ℤ FlatFault
byte_order t = or_default (pos 0) (signed_slot w16 2 t 0)

abbrev pub fields_slot : ℕ
fields_slot = 1

abbrev pub children_slot : ℕ
children_slot = 5

-- the vector of a field's custom metadata, and the key and the value of a pair in it
abbrev pub metadata_slot : ℕ
metadata_slot = 6

abbrev pub key_slot : TableIn → Result (Option (List ℕ)) FlatFault
key_slot pair = text_slot pair 0

abbrev pub value_slot : TableIn → Result (Option (List ℕ)) FlatFault
value_slot pair = text_slot pair 1
