-- Offsets into values whose elements have one width (Arrow columnar format, "Variable-size binary
-- layout" and "Variable-size list layout"). An offset counts elements.
use Rattle.std.specs.Prelude.{◌≡◌, ℕ, ◌+◌, ◌-◌, ◌*◌, ◌<◌, ◌≤◌, ◌==◌, ◌⊎◌, nat_lt, nat_le, Bool, ◌&&◌, if◌then◌else◌, List, length, drop, slice_range, Result, Ok, Err}
use Rattle.byteorder.specs.Endian.{little_bytes, little_number}
use Rattle.arrow_buffers.specs.declared.fault.BufferFault.{BufferFault}
use Rattle.arrow_buffers.specs.declared.fault.BufferFault.TheVariants.{Short, BadOffsets}
use Rattle.arrow_buffers.specs.Below.{all_below}
use Rattle.arrow_buffers.specs.Limits.{max_values}

-- the offset at an index: 32 bits, little-endian
unfoldable pub offset_at : List ℕ → ℕ → ℕ
offset_at offsets place = little_number 4 (drop (4 * place) offsets)

-- an offset as bytes
unfoldable pub offset_bytes : ℕ → List ℕ
offset_bytes offset = little_bytes 4 offset

-- a row's bytes: from its offset to the next one
abbrev pub span_at : ℕ → List ℕ → List ℕ → ℕ → List ℕ
span_at width offsets values row =
    slice_range values (offset_at offsets row * width) (offset_at offsets (row + 1) * width)

-- an offset is fine that is not negative, not less than the one before, and not past the values
abbrev pub is_fine : ℕ → ℕ → ℕ → ℕ → Bool
is_fine before offset width len =
    nat_lt offset max_values && (nat_le before offset && nat_le (offset * width) len)

-- the offset before an index, or 0 at the first
abbrev pub offset_before : List ℕ → ℕ → ℕ
offset_before offsets place = if place == 0 then 0 else offset_at offsets (place - 1)

-- whether the offset at an index is fine
abbrev pub is_fine_at : ℕ → List ℕ → List ℕ → ℕ → Bool
is_fine_at width offsets values place =
    is_fine (offset_before offsets place) (offset_at offsets place) width (length values)

-- the offsets are one more than the rows, and each is fine; where there are no rows
-- they may be left out
unfoldable pub offsets_check : ℕ → List ℕ → List ℕ → ℕ → Result (Unit {0}) BufferFault
offsets_check width offsets values rows =
    if rows == 0 && length offsets == 0
    then Ok tt
    else (if nat_lt (length offsets) (4 * (rows + 1))
    then Err Short
    else (if all_below (is_fine_at width offsets values) (rows + 1) then Ok tt else Err BadOffsets))

-- there are no rows and no offsets
abbrev pub AreNone : List ℕ → ℕ → Type 0
AreNone offsets rows = (rows ≡ 0) × (length offsets ≡ 0)

-- offsets as the format wants them: at least one more than the rows, not negative, none less than
-- the one before, and the last within the values
pub record AreOffsets (width : ℕ) (offsets values : List ℕ) (rows : ℕ) : Type 0 where
  pub enough : 4 * (rows + 1) ≤ length offsets
  pub not_negative : (place : ℕ) → place ≤ rows → offset_at offsets place < max_values
  pub rising : (row : ℕ) → row < rows → offset_at offsets row ≤ offset_at offsets (row + 1)
  pub within : offset_at offsets rows * width ≤ length values

-- there are too few for the rows
abbrev pub AreTooFew : List ℕ → ℕ → Type 0
AreTooFew offsets rows = (AreNone offsets rows → ⊥) × (length offsets < 4 * (rows + 1))

-- an offset that is negative, less than the one before, or past values of this length
abbrev pub IsBadIn : ℕ → ℕ → List ℕ → ℕ → Type 0
IsBadIn width len offsets place =
    (max_values ≤ offset_at offsets place) ⊎ ((offset_at offsets place < offset_before offsets place)
    ⊎ (len < offset_at offsets place * width))

abbrev pub IsBad : ℕ → List ℕ → List ℕ → ℕ → Type 0
IsBad width offsets values place = IsBadIn width (length values) offsets place
