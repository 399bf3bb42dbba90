-- The canonical spelling of a message: its fields by ascending number, each in its shortest encoding,
-- and none that holds its default.
use Rattle.std.specs.Prelude.{◌≡◌, ℕ, ◌<◌, ◌≤◌, ◌^◌, List, [], ◌∷◌, length, map, ◌==◌, ◌&&◌, ◌||◌, not, nat_lt, if◌then◌else◌, Bool, true, false, ℤ, Option, None, Some, ⊤, ◌⊎◌}
use Rattle.std.specs.List.{flat_map, AllByRecursion, list_all}
use Rattle.std.specs.Int.{w64, cast_unsigned}
use Rattle.byteorder.specs.Endian.{little_bytes}
use Rattle.otlp_messages.specs.declared.messages.Message.{Message}
use Rattle.otlp_wire.specs.Wire.{FieldValue, Varint, Fixed64, Bytes, Fixed32, Entry, Fits, spelling}
use Rattle.otlp_messages.specs.Table.{kind_of, mark_of}
use Rattle.otlp_wire.specs.Fields.{fields_of}
use Rattle.otlp_wire.specs.Limits.{number_limit}
use Rattle.otlp_messages.specs.Defects.{IsFine}
use Rattle.otlp_messages.specs.Fine.{FineValue}
use Rattle.otlp_messages.specs.Rows.{only}

-- the values of one field number, in order
pub record Filled : Type 0 where
  pub number : ℕ
  pub values : List FieldValue

abbrev pub row : ℕ → List FieldValue → Filled
row number values = record { number = number; values = values }

-- the fields of a message
abbrev pub entries_of : Filled → List Entry
entries_of r = map (λ v. record { number = r.number; value = v }) r.values

abbrev pub entries : List Filled → List Entry
entries rows = flat_map entries_of rows

abbrev pub canon_row : ℕ → List FieldValue → List ℕ
canon_row number values = flat_map (λ v. spelling (record { number = number; value = v })) values

abbrev pub canon : List Filled → List ℕ
canon rows = flat_map (λ r. canon_row r.number r.values) rows

-- the values of a field number, where the default is not written
abbrev pub varint_row : ℕ → List FieldValue
varint_row n = if n == 0 then [] else Varint n ∷ []

-- a signed number is written with its 64 bits
abbrev pub signed_row : ℤ → List FieldValue
signed_row z = varint_row (cast_unsigned w64 z)

abbrev pub bool_row : Bool → List FieldValue
bool_row b = if b then Varint 1 ∷ [] else []

abbrev pub fixed64_row : ℕ → List FieldValue
fixed64_row n = if n == 0 then [] else Fixed64 n ∷ []

abbrev pub fixed32_row : ℕ → List FieldValue
fixed32_row n = if n == 0 then [] else Fixed32 n ∷ []

-- 64 bits that are written where they are there
abbrev pub optional_row : Option ℕ → List FieldValue
optional_row None = []
optional_row (Some n) = Fixed64 n ∷ []

-- numbers of 64 bits, packed
abbrev pub packed_row : List ℕ → List FieldValue
packed_row [] = []
packed_row (n ∷ ns) = Bytes (flat_map (little_bytes 8) (n ∷ ns)) ∷ []

-- a text, bytes, or the canonical spelling of a message that occurs once
abbrev pub bytes_row : List ℕ → List FieldValue
bytes_row [] = []
bytes_row (byte ∷ bytes) = Bytes (byte ∷ bytes) ∷ []

-- the canonical spellings of messages that occur any number of times
abbrev pub many_row : List (List ℕ) → List FieldValue
many_row parts = map (λ part. Bytes part) parts

abbrev pub no_values : List FieldValue → Bool
no_values [] = true
no_values (value ∷ values) = false

-- the numbers of the rows ascend, are field numbers, and of two rows with one mark one is empty
abbrev pub one_mark_each : Message → Filled → Filled → Bool
one_mark_each m r s = mark_of m r.number == 0 || not (mark_of m r.number == mark_of m s.number) || no_values r.values || no_values s.values

abbrev pub apart : Message → Filled → Filled → Bool
apart m r s = nat_lt r.number s.number && one_mark_each m r s

abbrev pub is_laid_out : Message → List Filled → Bool
is_laid_out m [] = true
is_laid_out m (r ∷ rows) = nat_lt 0 r.number && nat_lt r.number number_limit && list_all (apart m r) rows && is_laid_out m rows

-- bytes whose length fits 64 bits; it follows for each part from the length of the whole
abbrev pub FitsLength : FieldValue → Type 0
FitsLength (Bytes part) = length part < 2 ^ 64
FitsLength value = ⊤

-- the values of the row have no defect
pub record RowFits (m : Message) (levels : ℕ) (r : Filled) : Type 0 where
  pub few : (mark_of m r.number ≡ 0) ⊎ (length r.values ≤ 1)
  pub fine : AllByRecursion (λ v. FitsLength v → Fits v × FineValue (kind_of m r.number) levels v) r.values

-- the values of the row with this number
abbrev pub values_at : ℕ → List Filled → List FieldValue
values_at n [] = []
values_at n (r ∷ rows) = if r.number == n then r.values else values_at n rows

-- what is written of the rows is read as the rows, and has no defect
pub record IsReadBack (m : Message) (levels : ℕ) (rows : List Filled) : Type 0 where
  pub fine : IsFine m levels (canon rows)
  pub fields : fields_of (canon rows) ≡ entries rows
  pub only : (n : ℕ) → only n (fields_of (canon rows)) ≡ values_at n rows
