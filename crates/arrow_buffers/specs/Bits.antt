-- One bit a row (Arrow columnar format, "Validity bitmaps" and "Fixed-size primitive layout").
use Rattle.std.specs.Prelude.{ℕ, ◌*◌, ◌/◌, ◌%◌, ◌^◌, ◌==◌, ℤ, pos, int_lt, nat_lt, Bool, true, false, if◌then◌else◌, List, length, slice_index, Option, Some, None, Result, Ok, Err}
use Rattle.arrow_buffers.specs.declared.fault.BufferFault.{BufferFault}
use Rattle.arrow_buffers.specs.declared.fault.BufferFault.TheVariants.{Short, BadNulls}

-- the bits of some rows; no bytes mean that each bit is 1
pub record BitsIn : Type 0 where
  pub bytes : List ℕ
  pub rows : ℕ

-- a row's bit: bit row % 8 of byte row / 8, the lowest first
unfoldable pub bit_at : List ℕ → ℕ → Bool
bit_at bytes row = slice_index bytes (row / 8) / 2 ^ (row % 8) % 2 == 1

-- a row's bit in a validity bitmap, which may be left out where each row is valid
abbrev pub is_valid : List ℕ → ℕ → Bool
is_valid bytes row = if length bytes == 0 then true else bit_at bytes row

-- the bits of a boolean column: there is one for each row
unfoldable pub bits_of : List ℕ → ℕ → Result BitsIn BufferFault
bits_of bytes rows =
    if nat_lt (length bytes * 8) rows then Err Short else Ok (record { bytes = bytes; rows = rows })

-- a validity bitmap: one that is left out goes with no nulls
unfoldable pub validity_of : List ℕ → ℕ → ℤ → Result BitsIn BufferFault
validity_of bytes rows nulls =
    if length bytes == 0
    then (if int_lt (pos 0) nulls then Err BadNulls else Ok (record { bytes = bytes; rows = rows }))
    else bits_of bytes rows

-- what is returned for a row
unfoldable pub flag_of : BitsIn → ℕ → Option Bool
flag_of b row = if nat_lt row b.rows then Some (is_valid b.bytes row) else None

-- a row's cell: null where its flag is not set
abbrev pub cell_where : Option Bool → Option (List ℕ) → Option (List ℕ)
cell_where None value = None
cell_where (Some false) value = None
cell_where (Some true) value = value
