-- A column that is resolved: the bytes that its cells are found in. An offset outside these bytes gives no cell.
use Rattle.std.specs.Prelude.{◌≡◌, ℕ, ◌+◌, ◌*◌, ◌<◌, ⊤, ◌⊎◌, option_map, nat_lt, nat_le, ◌==◌, Bool, ◌&&◌, if◌then◌else◌, List, [], length, slice_range, Option, None, Some}
use Rattle.byteorder.specs.Endian.{little_number}
use Rattle.arrow_buffers.specs.Bits.{is_valid}
use Rattle.arrow_buffers.specs.Columns.{bit_byte}
use Rattle.arrow_buffers.specs.Offsets.{offset_at}
use Rattle.arrow_arrays.specs.declared.column.Stored.{Stored}
use Rattle.arrow_arrays.specs.declared.column.Stored.TheVariants as stored
use Rattle.arrow_arrays.specs.declared.column.ColumnView.{ColumnView}

-- the bytes between two offsets
abbrev pub part_between : List ℕ → ℕ → ℕ → Option (List ℕ)
part_between bytes start end =
    if nat_le start end && nat_le end (length bytes) then Some (slice_range bytes start end) else None

-- the bytes from a row's offset to the next one, which count elements of a width
abbrev pub span_between : List ℕ → List ℕ → ℕ → ℕ → Option (List ℕ)
span_between offsets values width row =
    if nat_le (4 * (row + 2)) (length offsets)
    then part_between values (offset_at offsets row * width) (offset_at offsets (row + 1) * width)
    else None

-- a row's value, whether it is null or not
unfoldable pub value_seen : Stored → ℕ → Option (List ℕ)
value_seen (stored.Bits bytes) row = Some (bit_byte (is_valid bytes.now row))
value_seen (stored.Fixed bytes width) row = part_between bytes.now (row * width) ((row + 1) * width)
value_seen (stored.Spans offsets values width) row = span_between offsets.now values.now width row

-- whether a row is null in none of the bitmaps; in a column without any no row is
abbrev pub is_valid_in : ColumnView → ℕ → Bool
is_valid_in v row = is_valid v.own.now row && (is_valid v.above.now row && is_valid v.top.now row)

abbrev pub has_no_bitmap : ColumnView → Bool
has_no_bitmap v = length v.own.now == 0 && (length v.above.now == 0 && length v.top.now == 0)

-- whether a row is there, and null in none of the bitmaps
unfoldable pub is_there : ColumnView → ℕ → Bool
is_there v row = nat_lt row v.rows && is_valid_in v row

-- THE CELL OF A ROW in a column that is resolved
unfoldable pub cell_seen : ColumnView → ℕ → Option (List ℕ)
cell_seen v row = if is_there v row then value_seen v.stored row else None

-- the number that a cell holds, low byte first
abbrev pub number_in : Option (List ℕ) → Option ℕ
number_in cell = option_map (λ bytes. little_number (length bytes) bytes) cell

-- a number of one byte or two
abbrev pub IsIndexSize : List ℕ → Type 0
IsIndexSize index = (length index ≡ 1) ⊎ (length index ≡ 2)

-- the number that a cell holds is below another; null holds none
abbrev pub HoldsBelow : ℕ → Option (List ℕ) → Type 0
HoldsBelow count None = ⊤
HoldsBelow count (Some cell) = little_number (length cell) cell < count
