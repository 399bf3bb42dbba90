-- The columns of a kind's tables among the fields of a schema: by their paths, their types, and how their ids are stored.
use Rattle.std.specs.Prelude.{ℕ, ◌+◌, ◌*◌, ◌%◌, ◌^◌, ◌==◌, ◌&&◌, ◌||◌, not, Bool, true, false, if◌then◌else◌, List, length, map, slice_get, slice_index, Option, Some, None, option_map}
use Rattle.std.specs.Prelude.{position, ℤ, pos}
use Rattle.std.specs.List.{range_with_len}
use Rattle.std.specs.Int.{w32, w64, cast_signed}
use Rattle.byteorder.specs.Endian.{little_number}
use Rattle.arrow_schema.specs.declared.spec.ArrowType.{ArrowType}
use Rattle.arrow_schema.specs.declared.spec.ArrowType.TheVariants as arrow
use Rattle.arrow_schema.specs.declared.spec.Encoding.{Encoding}
use Rattle.arrow_schema.specs.declared.spec.Encoding.TheVariants as encoding
use Rattle.arrow_schema.specs.Types.{same_type}
use Rattle.arrow_buffers.specs.Below.{all_below}
use Rattle.arrow_arrays.specs.declared.spec.ArraySpec.{ArraySpec}
use Rattle.arrow_arrays.specs.Arrays.{path_of}
use Rattle.otap_cells.specs.declared.payload.Kind.{Kind}
use Rattle.otap_cells.specs.declared.profile.Base.{Base}
use Rattle.otap_cells.specs.declared.profile.Base.TheVariants as base
use Rattle.otap_cells.specs.declared.profile.Coding.{Coding}
use Rattle.otap_cells.specs.declared.profile.Coding.TheVariants as coding
use Rattle.otap_cells.specs.Bases.{is_id}
use Rattle.otap_cells.specs.Cells.{Cell, null, number, bits, flag, bytes}
use Rattle.otap_cells.specs.Columns.{ColumnSpec, columns_of, column_at, base_at, coding_at, allows, place_of_path}
use Rattle.otap_cells.specs.Tables.{greatest_wide, greatest_narrow}

-- ---- types

-- a list of these elements
abbrev pub is_list_of : ArrowType → ArrowType → Option ArrowType → Bool
is_list_of element type None = false
is_list_of element type (Some own) = same_type arrow.List type && same_type element own

-- THE TYPES THAT STORE A BASE; the type of a list's elements is given beside it
abbrev pub stores : Base → ArrowType → Option ArrowType → Bool
stores base.U8 type elements = same_type (arrow.Int 8 false) type
stores base.U16 type elements = same_type (arrow.Int 16 false) type
stores base.U32 type elements = same_type (arrow.Int 32 false) type
stores base.U64 type elements = same_type (arrow.Int 64 false) type
stores base.I32 type elements = same_type (arrow.Int 32 true) type
stores base.I64 type elements = same_type (arrow.Int 64 true) type
stores base.Double type elements = same_type arrow.Double type
stores base.Bool type elements = same_type arrow.Bool type
stores base.Utf8 type elements = same_type arrow.Utf8 type
stores base.Binary type elements = same_type arrow.Binary type
stores base.Fixed16 type elements = same_type (arrow.Fixed 16) type
stores base.Fixed8 type elements = same_type (arrow.Fixed 8) type
stores base.Timestamp type elements = same_type arrow.Timestamp type
stores base.Duration type elements = same_type arrow.Duration type
stores base.ListU64 type elements = is_list_of (arrow.Int 64 false) type elements
stores base.ListF64 type elements = is_list_of arrow.Double type elements
stores (base.Id wide) type elements = same_type (arrow.Int 16 false) type || same_type (arrow.Int 32 false) type

-- the type of the elements of the list whose array is at an index: that of the next array
abbrev pub elements_at : List ArraySpec → ℕ → Option ArrowType
elements_at arrays place = option_map (λ (a : ArraySpec). a.kind) (slice_get arrays (place + 1))

-- ---- how ids are stored

-- the encodings that a column of ids allows: none, or one by which it may be stored
abbrev pub is_allowed : ColumnSpec → Encoding → Bool
is_allowed c encoding.None = true
is_allowed c encoding.Plain = allows c coding.Plain
is_allowed c encoding.Delta = allows c coding.Delta
is_allowed c encoding.Run = allows c coding.Run
is_allowed c encoding.Other = false

-- elsewhere encodings aren't looked at
abbrev pub fits_encoding : ColumnSpec → Encoding → Bool
fits_encoding c named = not (is_id c.base) || is_allowed c named

-- as the field names it, else as the profile says
abbrev pub coding_named : Encoding → Coding → Coding
coding_named encoding.None own = own
coding_named encoding.Plain own = coding.Plain
coding_named encoding.Delta own = coding.Delta
coding_named encoding.Run own = coding.Run
coding_named encoding.Other own = own

-- the greatest number of a type
abbrev pub greatest_of : ArrowType → ℕ
greatest_of (arrow.Int width signed) = if width == 16 then greatest_narrow else greatest_wide
greatest_of type = greatest_wide

-- ---- columns and arrays

-- the column that the array at an index is, by its path of names
abbrev pub known_column : Kind → List ArraySpec → ℕ → Option ℕ
known_column kind arrays place = place_of_path (columns_of kind) (path_of arrays place)

unfoldable pub known_columns : Kind → List ArraySpec → List (Option ℕ)
known_columns kind arrays = map (known_column kind arrays) (range_with_len 0 (length arrays))

abbrev pub is_column : ℕ → Option ℕ → Bool
is_column column None = false
is_column column (Some known) = known == column

-- the index of the array of a column, if it has one
unfoldable pub place_in : List (Option ℕ) → ℕ → Option ℕ
place_in known column = position (is_column column) known

abbrev pub place_at : Kind → List ArraySpec → ℕ → Option ℕ
place_at kind arrays column = place_in (known_columns kind arrays) column

-- the array of a column
abbrev pub array_of_column : List ArraySpec → Option ℕ → Option ArraySpec
array_of_column arrays None = None
array_of_column arrays (Some place) = slice_get arrays place

unfoldable pub array_of : Kind → List ArraySpec → ℕ → Option ArraySpec
array_of kind arrays column = array_of_column arrays (place_at kind arrays column)

-- a known column has a type that stores its base, that of the values where it has a dictionary; and where it holds ids, an
-- encoding that it allows
abbrev pub fits_as : Kind → ArrowType → Encoding → Option ArrowType → Option ℕ → Bool
fits_as kind type named elements None = true
fits_as kind type named elements (Some column) = stores (base_at kind column) type elements && fits_encoding (column_at kind column) named

abbrev pub fits_column : Kind → Option ArraySpec → Option ArrowType → Option ℕ → Bool
fits_column kind None elements column = true
fits_column kind (Some a) elements column = fits_as kind a.kind a.encoding elements column

abbrev pub fits_at : Kind → List ArraySpec → ℕ → Bool
fits_at kind arrays place = fits_column kind (slice_get arrays place) (elements_at arrays place) (known_column kind arrays place)

-- each known column does
unfoldable pub columns_fit : Kind → List ArraySpec → Bool
columns_fit kind arrays = all_below (fits_at kind arrays) (length arrays)

-- HOW THE IDS OF A COLUMN ARE STORED, and the greatest number that it may hold
abbrev pub coding_if : Coding → Option ArraySpec → Coding
coding_if own None = own
coding_if own (Some a) = coding_named a.encoding own

abbrev pub column_coding : Kind → List ArraySpec → ℕ → Coding
column_coding kind arrays column = coding_if (coding_at kind column) (array_of kind arrays column)

abbrev pub greatest_if : Option ArraySpec → ℕ
greatest_if None = greatest_wide
greatest_if (Some a) = greatest_of a.kind

abbrev pub column_greatest : Kind → List ArraySpec → ℕ → ℕ
column_greatest kind arrays column = greatest_if (array_of kind arrays column)

-- ---- cells

-- a number by its little-endian bytes; its width is that of the bytes
abbrev pub unsigned : List ℕ → ℕ
unsigned value = little_number (length value) value % 2 ^ (8 * length value)

abbrev pub signed : List ℕ → ℤ
signed value = if length value == 4 then cast_signed w32 (little_number (length value) value) else cast_signed w64 (little_number (length value) value)

-- THE CELL of a base that is stored in bytes
abbrev pub stored : Base → List ℕ → Cell
stored base.U8 value = number (pos (unsigned value))
stored base.U16 value = number (pos (unsigned value))
stored base.U32 value = number (pos (unsigned value))
stored base.U64 value = bits (unsigned value)
stored base.I32 value = number (signed value)
stored base.I64 value = number (signed value)
stored base.Double value = bits (unsigned value)
stored base.Bool value = flag (slice_index value 0 == 1)
stored base.Utf8 value = bytes value
stored base.Binary value = bytes value
stored base.Fixed16 value = bytes value
stored base.Fixed8 value = bytes value
stored base.Timestamp value = bits (unsigned value)
stored base.Duration value = bits (unsigned value)
stored base.ListU64 value = bytes value
stored base.ListF64 value = bytes value
stored (base.Id wide) value = number (pos (unsigned value))

unfoldable pub stored_cell : Base → Option (List ℕ) → Cell
stored_cell holds None = null
stored_cell holds (Some value) = stored holds value
