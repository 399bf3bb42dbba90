-- The one reading of bytes, from the left: each reader takes what is at the front off, or names what
-- is wrong with it.
use Rattle.std.specs.Prelude.{◌≡◌, ℕ, zero, suc, ◌+◌, ◌/◌, ◌%◌, ◌==◌, ◌&&◌, nat_lt, if◌then◌else◌, List, [], ◌∷◌, length, take, drop, slice_index, Option, Some, None, Result, Ok, Err, MatchOption, MatchResult}
use Rattle.byteorder.specs.Endian.{little_number}
use Rattle.otlp_wire.specs.declared.parts.WireError.{WireError}
use Rattle.otlp_wire.specs.declared.parts.WireError.TheVariants.{Cut, BadVarint, BadWireType, BadTag}
use Rattle.otlp_wire.specs.declared.parts.Field.{Field}
use Rattle.otlp_wire.specs.Varint.{sevens}
use Rattle.otlp_wire.specs.Limits.{number_limit}
use Rattle.otlp_wire.specs.Wire.{FieldValue, Varint, Fixed64, Bytes, Fixed32, Entry, entry}

-- what a reader takes, and the bytes after it; or what is wrong
abbrev pub WireRead : Type 0 → Type 0
WireRead X = Result (X × List ℕ) WireError

-- how many bytes say that another byte follows, before the first that doesn't
abbrev pub going_on : List ℕ → ℕ
going_on [] = 0
going_on (byte ∷ bytes) = if nat_lt byte 128 then 0 else suc (going_on bytes)

-- a varint: a tenth byte is at most 1
unfoldable pub first_varint : List ℕ → WireRead ℕ
first_varint bytes =
    let last = going_on bytes in
    if nat_lt 8 last && nat_lt 1 (slice_index bytes 9) then Err BadVarint
    else if nat_lt last (length bytes) then Ok (sevens (take (last + 1) bytes), drop (last + 1) bytes)
    else Err Cut

-- a value of each wire type
abbrev pub as_varint : WireRead ℕ → WireRead FieldValue
as_varint (Ok x) = Ok (Varint x.0, x.1)
as_varint (Err e) = Err e

abbrev pub as_part : WireRead ℕ → WireRead FieldValue
as_part (Ok x) = if nat_lt (length x.1) x.0 then Err Cut else Ok (Bytes (take x.0 x.1), drop x.0 x.1)
as_part (Err e) = Err e

abbrev pub as_fixed : ℕ → (ℕ → FieldValue) → List ℕ → WireRead FieldValue
as_fixed size value bytes = if nat_lt (length bytes) size then Err Cut else Ok (value (little_number size (take size bytes)), drop size bytes)

abbrev pub first_value : ℕ → List ℕ → WireRead FieldValue
first_value t bytes =
    if t == 0 then as_varint (first_varint bytes)
    else if t == 1 then as_fixed 8 (λ n. Fixed64 n) bytes
    else if t == 2 then as_part (first_varint bytes)
    else if t == 5 then as_fixed 4 (λ n. Fixed32 n) bytes
    else Err BadWireType

-- a field: its tag, and its value
abbrev pub with_number : ℕ → WireRead FieldValue → WireRead Entry
with_number n (Ok x) = Ok (record { number = n; value = x.0 }, x.1)
with_number n (Err e) = Err e

abbrev pub after_tag : WireRead ℕ → WireRead Entry
after_tag (Ok x) = if nat_lt 0 (x.0 / 8) && nat_lt (x.0 / 8) number_limit then with_number (x.0 / 8) (first_value (x.0 % 8) x.1) else Err BadTag
after_tag (Err e) = Err e

unfoldable pub first_field : List ℕ → WireRead Entry
first_field bytes = after_tag (first_varint bytes)

-- all fields, and then nothing or an error
pub record FieldsReading : Type 0 where
  pub fields : List Entry
  pub end : Option WireError

abbrev pub and_then : (List ℕ → FieldsReading) → WireRead Entry → FieldsReading
and_then read (Ok x) = record { fields = x.0 ∷ (read x.1).fields; end = (read x.1).end }
and_then read (Err e) = record { fields = []; end = Some e }

-- the first number only bounds the recursion
abbrev pub reading_in : ℕ → List ℕ → FieldsReading
reading_in most [] = record { fields = []; end = None }
reading_in zero (byte ∷ bytes) = record { fields = []; end = None }
reading_in (suc most) (byte ∷ bytes) = and_then (λ rest. reading_in most rest) (first_field (byte ∷ bytes))

-- the fields of the longest front of the bytes that encodes fields
unfoldable pub fields_of : List ℕ → List Entry
fields_of bytes = (reading_in (length bytes) bytes).fields

-- what comes after them: nothing, or an error
unfoldable pub end_of : List ℕ → Option WireError
end_of bytes = (reading_in (length bytes) bytes).end

-- one call takes the first field off, or comes to the end or to the error, after which nothing is left
abbrev pub TakesFirst : List ℕ → Option (Result Field WireError) → List ℕ → Type 0
TakesFirst old result new = MatchOption result
    ((fields_of old ≡ []) × (end_of old ≡ None) × (new ≡ []))
    (λ r. MatchResult r
    (λ f. (fields_of old ≡ entry f ∷ fields_of new) × (end_of old ≡ end_of new))
    (λ e. (fields_of old ≡ []) × (end_of old ≡ Some e) × (new ≡ [])))
