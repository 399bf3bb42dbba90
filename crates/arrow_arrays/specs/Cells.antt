-- An array of a record batch, the first fault that a reader meets in it, and its cells (Arrow columnar format,
-- "RecordBatch message" and "Physical memory layout"). All faults that it may have are those of Faults.
use Rattle.std.specs.Prelude.{ℕ, ◌+◌, ◌*◌, ◌==◌, ℤ, pos, negsuc, false, nat_lt, if◌then◌else◌, List, [], length, take, slice_get, Option, None, Some, option_map, Result, Ok, Err}
use Rattle.lists.specs.Results.{◌>>=◌}
use Rattle.arrow_schema.specs.declared.spec.ArrowType.{ArrowType}
use Rattle.arrow_schema.specs.Types.{is_number}
use Rattle.arrow_buffers.specs.declared.fault.BufferFault.{BufferFault}
use Rattle.arrow_buffers.specs.declared.fault.BufferFault.TheVariants.{Short}
use Rattle.arrow_buffers.specs.Bits.{BitsIn, bits_of, validity_of, flag_of, cell_where}
use Rattle.arrow_buffers.specs.Fixed.{fixed_of, part_of}
use Rattle.arrow_buffers.specs.Vars.{vars_of, row_span, utf8_check}
use Rattle.arrow_buffers.specs.Lists.{lists_of, nulls_check}
use Rattle.arrow_buffers.specs.Lists as lists
use Rattle.arrow_buffers.specs.Columns.{bit_byte}
use Rattle.arrow_ipc.specs.Batches.{BatchIn}
use Rattle.arrow_arrays.specs.declared.layout.Layout.{Layout}
use Rattle.arrow_arrays.specs.declared.layout.Layout.TheVariants as layout
use Rattle.arrow_arrays.specs.declared.place.ArrayPlace.{ArrayPlace}
use Rattle.arrow_arrays.specs.declared.view.RowValues.{RowValues}
use Rattle.arrow_arrays.specs.declared.view.RowValues.TheVariants.{Nothing, Bits, Fixed, Vars, Lists}
use Rattle.arrow_arrays.specs.declared.view.ArrayView.{ArrayView}
use Rattle.arrow_arrays.specs.Layouts.{layout_of_values, element_len}

-- a part that is missing is too short
abbrev pub or_short : {A : Type 0} → Option A → Result A BufferFault
or_short None = Err Short
or_short (Some x) = Ok x

-- the length of a node isn't negative
abbrev pub length_from : ℤ → Result ℕ BufferFault
length_from (pos n) = Ok n
length_from (negsuc n) = Err Short

unfoldable pub length_in : BatchIn → ℕ → Result ℕ BufferFault
length_in batch place = or_short (slice_get batch.nodes place) >>= λ node. length_from node.0

-- THE ROWS OF AN ARRAY: those of the batch. The elements of lists are as many as their own node counts.
unfoldable pub rows_in : BatchIn → ArrayPlace → Result ℕ BufferFault
rows_in batch a = if a.element then length_in batch a.node else Ok batch.rows

-- the null count of the node at an index, which counts the rows
abbrev pub nulls_if : ℕ → ℤ × ℤ → Result ℤ BufferFault
nulls_if rows node = if is_number rows node.0 then Ok node.1 else Err Short

unfoldable pub nulls_in : BatchIn → ℕ → ℕ → Result ℤ BufferFault
nulls_in batch rows place = or_short (slice_get batch.nodes place) >>= nulls_if rows

abbrev pub buffer_in : BatchIn → ℕ → Result (List ℕ) BufferFault
buffer_in batch place = or_short (slice_get batch.buffers place)

-- which rows of an array are valid, by its own node and bitmap
unfoldable pub validity_in : BatchIn → ℕ → ℕ → ℕ → Result BitsIn BufferFault
validity_in batch rows node buffer =
    nulls_in batch rows node >>= λ nulls. buffer_in batch buffer >>= λ bytes. validity_of bytes rows nulls

-- its values, whose first buffer has this index
unfoldable pub bit_values : BatchIn → ℕ → ℕ → Result RowValues BufferFault
bit_values batch rows place = buffer_in batch place >>= λ bytes. bits_of bytes rows >>= λ bits. Ok (Bits bits)

unfoldable pub fixed_in : BatchIn → ℕ → ℕ → ℕ → Result RowValues BufferFault
fixed_in batch rows place width =
    buffer_in batch place >>= λ bytes.
    if width == 0 then Ok Nothing else (fixed_of bytes width rows >>= λ parts. Ok (Fixed parts))

unfoldable pub vars_in : BatchIn → ℕ → ℕ → Result RowValues BufferFault
vars_in batch rows place =
    buffer_in batch place >>= λ offsets. buffer_in batch (place + 1) >>= λ values.
    vars_of offsets values rows >>= λ parts. Ok (Vars parts)

-- the bytes of the elements of lists: none of those after them
abbrev pub element_bytes : List ℕ → ℕ → Result (List ℕ) BufferFault
element_bytes bytes count =
    if nat_lt (length bytes) (count * element_len) then Err Short else Ok (take (count * element_len) bytes)

-- the elements of lists, whose array has this node and this first buffer: their bytes, and which of them are valid
unfoldable pub elements_in : BatchIn → ℕ → ℕ → Result (List ℕ × BitsIn) BufferFault
elements_in batch node buffer =
    length_in batch node >>= λ count. validity_in batch count node buffer >>= λ there. buffer_in batch (buffer + 1) >>= λ bytes.
    element_bytes bytes count >>= λ elements. Ok (elements, there)

-- lists: after their own validity bitmap come the offsets, and then their elements, which are the next array
unfoldable pub lists_in : BatchIn → ℕ → ArrayPlace → Result RowValues BufferFault
lists_in batch rows a =
    buffer_in batch (a.buffer + 1) >>= λ offsets. elements_in batch (a.node + 1) (a.buffer + 2) >>= λ elements.
    lists_of offsets elements.0 element_len rows >>= λ all. Ok (Lists all elements.1)

-- its values come after its validity bitmap; a struct has none of its own
abbrev pub values_by : BatchIn → ℕ → ArrayPlace → Layout → Result RowValues BufferFault
values_by batch rows a layout.Struct = Ok Nothing
values_by batch rows a layout.Bits = bit_values batch rows (a.buffer + 1)
values_by batch rows a (layout.Fixed width) = fixed_in batch rows (a.buffer + 1) width
values_by batch rows a layout.Binary = vars_in batch rows (a.buffer + 1)
values_by batch rows a layout.Text = vars_in batch rows (a.buffer + 1)
values_by batch rows a layout.List = lists_in batch rows a

unfoldable pub values_in : BatchIn → ℕ → ArrayPlace → Result RowValues BufferFault
values_in batch rows a = values_by batch rows a a.layout

-- THE ARRAY AT A PLACE, or the first fault in the order of its parts: node, validity, values
unfoldable pub array_in : BatchIn → ArrayPlace → Result ArrayView BufferFault
array_in batch a =
    rows_in batch a >>= λ rows. validity_in batch rows a.node a.buffer >>= λ valid. values_in batch rows a >>= λ values.
    Ok (record { valid = valid; values = values })

-- Where the values are texts, each that is valid in the array's own bitmap is UTF-8. Where they are lists, none that is valid
-- there has a null among its elements.
abbrev pub content_in : Layout → BitsIn → RowValues → Result (Unit {0}) BufferFault
content_in layout.Text valid (Vars parts) = utf8_check parts valid
content_in layout.List valid (Lists all there) = nulls_check all valid there
content_in other valid values = Ok tt

abbrev pub content_check : Layout → ArrayView → Result (Unit {0}) BufferFault
content_check layout array = content_in layout array.valid array.values

-- the first fault of an array, if it has one
unfoldable pub array_check : BatchIn → ArrayPlace → Result (Unit {0}) BufferFault
array_check batch a = array_in batch a >>= content_check a.layout

-- a row's value, whether it is null or not
abbrev pub value_in : RowValues → ℕ → Option (List ℕ)
value_in Nothing row = Some []
value_in (Bits bits) row = option_map bit_byte (flag_of bits row)
value_in (Fixed parts) row = part_of parts row
value_in (Vars parts) row = row_span parts row
value_in (Lists all there) row = lists.elements_of all row

-- a row's cell: null where the array's own bitmap says so
abbrev pub cell_in : ArrayView → ℕ → Option (List ℕ)
cell_in array row = cell_where (flag_of array.valid row) (value_in array.values row)

abbrev pub cell_if : Result ArrayView BufferFault → ℕ → Option (List ℕ)
cell_if (Ok array) row = cell_in array row
cell_if (Err e) row = None

-- A ROW'S CELL by the array's own buffers
unfoldable pub own_cell : BatchIn → ArrayPlace → ℕ → Option (List ℕ)
own_cell batch a row = cell_if (array_in batch a) row

-- the one array of a dictionary batch
abbrev pub place_of_values : ArrowType → ArrayPlace
place_of_values kind = record { layout = layout_of_values kind; node = 0; buffer = 0; element = false }
