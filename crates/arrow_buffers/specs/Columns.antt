-- A column of cells, and how its buffers hold them (Arrow columnar format, "Physical memory
-- layout").
use Rattle.std.specs.Prelude.{◌≡◌, ℕ, ◌+◌, ◌*◌, ◌/◌, ◌%◌, ◌<◌, ◌≤◌, ◌==◌, Bool, ⊤, if◌then◌else◌, List, [], ◌∷◌, length, map, sum_by, slice_index, Option, Some, None, Ok, ◌++◌}
use Rattle.std.specs.List.{AllByRecursion, flat_map, range_with_len}
use Rattle.arrow_buffers.specs.declared.width.Width.{Width}
use Rattle.arrow_buffers.specs.declared.width.Width.TheVariants.{Bit, Fixed, Var}
use Rattle.arrow_buffers.specs.declared.width.Width.TheVariants as width
use Rattle.arrow_buffers.specs.Bits.{bit_at, is_valid, bits_of}
use Rattle.arrow_buffers.specs.Fixed.{row_part, fixed_of}
use Rattle.arrow_buffers.specs.Offsets.{span_at, offset_bytes}
use Rattle.arrow_buffers.specs.Vars.{vars_of}
use Rattle.arrow_buffers.specs.Lists.{lists_of}

-- the cells of a column in the order of its rows; null is None
pub record ColumnIn : Type 0 where
  pub width : Width
  pub cells : List (Option (List ℕ))

-- an element of a list has at least one byte
abbrev pub HasElementSize : Width → Type 0
HasElementSize (width.List element) = 1 ≤ element
HasElementSize other = ⊤

-- a value has the column's width: for bits it is one byte, 0 or 1, and for lists whole elements
abbrev pub HasWidth : Width → List ℕ → Type 0
HasWidth Bit value = (length value ≡ 1) × (slice_index value 0 < 2)
HasWidth (Fixed width) value = length value ≡ width
HasWidth Var value = ⊤
HasWidth (width.List element) value = length value % element ≡ 0

-- the bytes of a cell, and of all cells that are not null
abbrev pub cell_len : Option (List ℕ) → ℕ
cell_len None = 0
cell_len (Some value) = length value

abbrev pub cells_len : List (Option (List ℕ)) → ℕ
cells_len cells = sum_by cell_len cells

-- the byte that a bit is given as
abbrev pub bit_byte : Bool → List ℕ
bit_byte bit = (if bit then 1 else 0) ∷ []

-- none of the cells is null, and together they have these bytes: wherever the bytes of some parts of one width are these, the
-- cells are the parts
abbrev pub HoldsParts : ℕ → ℕ → List ℕ → ColumnIn → Type 0
HoldsParts width rows values column = (parts : List (List ℕ)) → AllByRecursion (λ part. length part ≡ width) parts → length parts ≡ rows → flat_map (λ part. part) parts ≡ values
    → column ≡ record { width = Fixed width; cells = map (λ part. Some part) parts }

-- a row's value by its index in the buffers
abbrev pub value_at : Width → List ℕ → List ℕ → ℕ → List ℕ
value_at Bit offsets values row = bit_byte (bit_at values row)
value_at (Fixed width) offsets values row = row_part width values row
value_at Var offsets values row = span_at 1 offsets values row
value_at (width.List element) offsets values row = span_at element offsets values row

-- a row's cell: null where its bit in the validity bitmap is 0
abbrev pub cell_at : Width → List ℕ → List ℕ → List ℕ → ℕ → Option (List ℕ)
cell_at width validity offsets values row =
    if is_valid validity row then Some (value_at width offsets values row) else None

-- the cells that the buffers of some rows read as
unfoldable pub cells_of : Width → List ℕ → List ℕ → List ℕ → ℕ → List (Option (List ℕ))
cells_of width validity offsets values rows = map (cell_at width validity offsets values) (range_with_len 0 rows)

-- the offsets and values of the rows have no fault
abbrev pub HasNoFault : Width → List ℕ → List ℕ → ℕ → Type 0
HasNoFault Bit offsets values rows = bits_of values rows ≡ Ok (record { bytes = values; rows = rows })
HasNoFault (Fixed width) offsets values rows =
    fixed_of values width rows ≡ Ok (record { bytes = values; width = width; rows = rows })
HasNoFault Var offsets values rows =
    vars_of offsets values rows ≡ Ok (record { offsets = offsets; values = values; rows = rows })
HasNoFault (width.List element) offsets values rows =
    lists_of offsets values element rows ≡ Ok (record { offsets = offsets; values = values; width = element; rows = rows })

-- how long the buffers of a column are: the bitmap is left out where nothing is null
abbrev pub validity_len : ℕ → ℕ → ℕ
validity_len nulls rows = if nulls == 0 then 0 else (rows + 7) / 8

abbrev pub offsets_len : Width → ℕ → ℕ
offsets_len Bit rows = 0
offsets_len (Fixed width) rows = 0
offsets_len Var rows = 4 * (rows + 1)
offsets_len (width.List element) rows = 4 * (rows + 1)

abbrev pub values_len : Width → List (Option (List ℕ)) → ℕ
values_len Bit cells = (length cells + 7) / 8
values_len (Fixed width) cells = length cells * width
values_len Var cells = cells_len cells
values_len (width.List element) cells = cells_len cells

-- ---- a column that grows has its buffers but for the last offset

-- the offsets with one more, which counts the elements so far
abbrev pub ended : ℕ → List ℕ → List ℕ → List ℕ
ended element offsets values = offsets ++ offset_bytes (length values / element)

-- the offsets as they are when the column ends here
abbrev pub ended_offsets : Width → List ℕ → List ℕ → List ℕ
ended_offsets Bit offsets values = offsets
ended_offsets (Fixed width) offsets values = offsets
ended_offsets Var offsets values = ended 1 offsets values
ended_offsets (width.List element) offsets values = ended element offsets values

-- the cells so far
abbrev pub cells_so_far : Width → List ℕ → List ℕ → List ℕ → ℕ → List (Option (List ℕ))
cells_so_far width validity offsets values rows =
    cells_of width validity (ended_offsets width offsets values) values rows
