-- A field and its encodings (protobuf encoding, "Message Structure").
use Rattle.std.specs.Prelude.{◌≡◌, ℕ, ◌+◌, ◌*◌, ◌^◌, ◌<◌, List, ◌++◌, length}
use Rattle.byteorder.specs.Endian.{little_number, little_bytes}
use Rattle.otlp_wire.specs.declared.parts.Wire.{Wire}
use Rattle.otlp_wire.specs.declared.parts.Wire.TheVariants as wire
use Rattle.otlp_wire.specs.declared.parts.Field.{Field}
use Rattle.otlp_wire.specs.Varint.{IsVarint, varint}
use Rattle.otlp_wire.specs.Limits.{number_limit}

-- the value of a field, by its wire type
pub data FieldValue : Type 0 where
  Varint : ℕ → FieldValue
  Fixed64 : ℕ → FieldValue
  Bytes : List ℕ → FieldValue
  Fixed32 : ℕ → FieldValue

-- a field: its number and its value
pub record Entry : Type 0 where
  pub number : ℕ
  pub value : FieldValue

-- the values and fields of the code, without where the bytes lie in memory
abbrev pub value_of : Wire → FieldValue
value_of (wire.Varint n) = Varint n
value_of (wire.Fixed64 n) = Fixed64 n
value_of (wire.Bytes part) = Bytes part.now
value_of (wire.Fixed32 n) = Fixed32 n

abbrev pub entry : Field → Entry
entry f = record { number = f.number; value = value_of f.value }

-- the three low bits of a tag
abbrev pub wire_type : FieldValue → ℕ
wire_type (Varint n) = 0
wire_type (Fixed64 n) = 1
wire_type (Bytes part) = 2
wire_type (Fixed32 n) = 5

-- a field number is above 0 and below the limit
abbrev pub IsNumber : ℕ → Type 0
IsNumber n = (0 < n) × (n < number_limit)

-- the bytes are a value
abbrev pub IsValue : List ℕ → FieldValue → Type 0
IsValue bytes (Varint n) = IsVarint bytes n
IsValue bytes (Fixed64 n) = (length bytes ≡ 8) × (n ≡ little_number 8 bytes)
IsValue bytes (Bytes part) = (size : List ℕ) × IsVarint size (length part) × (bytes ≡ size ++ part)
IsValue bytes (Fixed32 n) = (length bytes ≡ 4) × (n ≡ little_number 4 bytes)

-- the bytes are a field: a tag, and a value
pub record IsField (bytes : List ℕ) (f : Entry) : Type 0 where
  pub tag : List ℕ
  pub value : List ℕ
  pub whole : bytes ≡ tag ++ value
  pub number : IsNumber f.number
  pub is_tag : IsVarint tag (8 * f.number + wire_type f.value)
  pub is_value : IsValue value f.value

-- a value that 64 bits hold, or 32 of a fixed 32 bit number
abbrev pub Fits : FieldValue → Type 0
Fits (Varint n) = n < 2 ^ 64
Fits (Fixed64 n) = n < 2 ^ 64
Fits (Bytes part) = length part < 2 ^ 64
Fits (Fixed32 n) = n < 2 ^ 32

-- the shortest encoding of a value, and of a field
abbrev pub value_spelling : FieldValue → List ℕ
value_spelling (Varint n) = varint n
value_spelling (Fixed64 n) = little_bytes 8 n
value_spelling (Bytes part) = varint (length part) ++ part
value_spelling (Fixed32 n) = little_bytes 4 n

abbrev pub spelling : Entry → List ℕ
spelling f = varint (8 * f.number + wire_type f.value) ++ value_spelling f.value
