-- The cells of arrays are bytes where those of a record batch's buffers are.
use Rattle.std.proofs.Common.{◌+◌, ◌*◌, ℕ, zero, suc, Bool, true, false, List, Option, Some, None, Result, Ok, Err, IfOk, option_map, arith}
use Rattle.std.specs.Prelude.{nat_lt, ◌==◌, if◌then◌else◌, IfSome, slice_get, take}
use Rattle.std.specs.List.{AllByRecursion}
use Rattle.std.specs.Result.{result_and}
use Rattle.lists.proofs.AllBytes.{IsBytes, IsBytes-nil, IsBytes-drop, IsBytes-take}
use Rattle.arrow_buffers.specs.declared.fault.BufferFault.TheVariants.{Short}
use Rattle.arrow_buffers.specs.Bits.{BitsIn, bits_of, flag_of, cell_where}
use Rattle.arrow_buffers.specs.Columns.{bit_byte}
use Rattle.arrow_buffers.specs.Fixed.{FixedIn, fixed_of, part_of, row_part}
use Rattle.arrow_buffers.specs.Lists.{ListsIn, lists_of}
use Rattle.arrow_buffers.specs.Lists as lists
use Rattle.arrow_buffers.specs.Offsets.{span_at, offset_at, offsets_check}
use Rattle.arrow_buffers.specs.Vars.{VarsIn, vars_of, row_span}
use Rattle.arrow_ipc.specs.Batches.{BatchIn}
use Rattle.arrow_arrays.specs.declared.layout.Layout.{Layout}
use Rattle.arrow_arrays.specs.declared.layout.Layout.TheVariants as layout
use Rattle.arrow_arrays.specs.declared.place.ArrayPlace.{ArrayPlace}
use Rattle.arrow_arrays.specs.declared.spec.ArraySpec.{ArraySpec}
use Rattle.arrow_arrays.specs.Arrays.{cell_above, cell_below, cell_in_array, cell_within, array_place}
use Rattle.arrow_arrays.specs.Cells.{or_short, buffer_in, length_in, rows_in, validity_in, bit_values, fixed_in, vars_in, element_bytes}
use Rattle.arrow_arrays.specs.Cells.{elements_in, lists_in, values_by, values_in, array_in, value_in, cell_in, cell_if, own_cell}
use Rattle.arrow_arrays.specs.Layouts.{element_len}
use Rattle.otap_consume.proofs.ByteLists.{IfBytes, each_get, bind_if, bind_any, either_or, ok_or}

-- ---- a row's value

one_byte : (b : Bool) → IsBytes (bit_byte b)
one_byte true zero = omega arith
one_byte true (suc i) = IsBytes-nil i
one_byte false zero = omega arith
one_byte false (suc i) = IsBytes-nil i

bit_is_byte : (o : Option Bool) → IfBytes (option_map bit_byte o)
bit_is_byte None = tt
bit_is_byte (Some b) = one_byte b

some_if : (b : Bool) (bytes : List ℕ) → IsBytes bytes → IfBytes (if b then Some bytes else None)
some_if true bytes fits = fits
some_if false bytes fits = tt

span_bytes : (width : ℕ) (offsets values : List ℕ) (row : ℕ) → IsBytes values → IsBytes (span_at width offsets values row)
span_bytes width offsets values row fits = IsBytes-take _ _ (IsBytes-drop (offset_at offsets row * width) values fits)

where_bytes : (flag : Option Bool) (value : Option (List ℕ)) → IfBytes value → IfBytes (cell_where flag value)
where_bytes None value fits = tt
where_bytes (Some false) value fits = tt
where_bytes (Some true) value fits = fits

-- ---- what is read of buffers

fixed_bytes : (bytes : List ℕ) (width rows : ℕ) → IsBytes bytes → IfOk (fixed_of bytes width rows) (λ parts. IsBytes parts.bytes)
unfolding fixed_of
fixed_bytes bytes width rows fits = ok_or (λ (parts : FixedIn). IsBytes parts.bytes) (nat_lt _ (rows * width)) Short (Ok (record { bytes = bytes; width = width; rows = rows })) fits

and_bytes : {A B E : Type 0} (P : B → Type 0) (first : Result A E) (second : Result B E) → IfOk second P → IfOk (result_and first second) P
and_bytes P (Ok x) second fits = fits
and_bytes P (Err e) second fits = tt

vars_bytes : (offsets values : List ℕ) (rows : ℕ) → IsBytes values → IfOk (vars_of offsets values rows) (λ parts. IsBytes parts.values)
unfolding vars_of
vars_bytes offsets values rows fits =
    and_bytes (λ (parts : VarsIn). IsBytes parts.values) (offsets_check 1 offsets values rows) (Ok (record { offsets = offsets; values = values; rows = rows })) fits

lists_bytes : (offsets values : List ℕ) (width rows : ℕ) → IsBytes values → IfOk (lists_of offsets values width rows) (λ all. IsBytes all.values)
unfolding lists_of
lists_bytes offsets values width rows fits =
    and_bytes (λ (all : ListsIn). IsBytes all.values) (offsets_check width offsets values rows) (Ok (record { offsets = offsets; values = values; width = width; rows = rows })) fits

short_bytes : (o : Option (List ℕ)) → IfSome o IsBytes → IfOk (or_short o) IsBytes
short_bytes None fits = tt
short_bytes (Some bytes) fits = fits

taken_bytes : (bytes : List ℕ) (count : ℕ) → IsBytes bytes → IfOk (element_bytes bytes count) IsBytes
taken_bytes bytes count fits =
    ok_or IsBytes (nat_lt _ (count * element_len)) Short (Ok (take (count * element_len) bytes)) (IsBytes-take (count * element_len) bytes fits)

abbrev ElementBytes : List ℕ × BitsIn → Type 0
ElementBytes elements = IsBytes elements.0

-- ---- arrays: of their values, what is in each row

module _ (batch : BatchIn) (fits : AllByRecursion IsBytes batch.buffers) where
  buffer_bytes : (place : ℕ) → IfOk (buffer_in batch place) IsBytes
  buffer_bytes place = short_bytes (slice_get batch.buffers place) (each_get IsBytes batch.buffers place fits)

  bits_are : (rows place : ℕ) → IfOk (bit_values batch rows place) (λ values. (row : ℕ) → IfBytes (value_in values row))
  unfolding bit_values
  bits_are rows place =
      bind_any (λ values. (row : ℕ) → IfBytes (value_in values row)) (buffer_in batch place) _ (λ bytes.
      bind_any (λ values. (row : ℕ) → IfBytes (value_in values row)) (bits_of bytes rows) _ (λ bits row. bit_is_byte (flag_of bits row)))

  part_bytes : (parts : FixedIn) (row : ℕ) → IsBytes parts.bytes → IfBytes (part_of parts row)
  unfolding part_of
  part_bytes parts row own = some_if (nat_lt row parts.rows) (row_part parts.width parts.bytes row) (IsBytes-take parts.width _ (IsBytes-drop (row * parts.width) parts.bytes own))

  fixed_are : (rows place width : ℕ) → IfOk (fixed_in batch rows place width) (λ values. (row : ℕ) → IfBytes (value_in values row))
  unfolding fixed_in
  fixed_are rows place width =
      bind_if IsBytes (λ values. (row : ℕ) → IfBytes (value_in values row)) (buffer_in batch place) _ (buffer_bytes place) (λ bytes own.
      either_or (λ values. (row : ℕ) → IfBytes (value_in values row)) (width == 0) _ _ (λ row. IsBytes-nil) (
      bind_if (λ (parts : FixedIn). IsBytes parts.bytes) (λ values. (row : ℕ) → IfBytes (value_in values row)) (fixed_of bytes width rows) _ (fixed_bytes bytes width rows own)
      (λ parts fits row. part_bytes parts row fits)))

  text_bytes : (parts : VarsIn) (row : ℕ) → IsBytes parts.values → IfBytes (row_span parts row)
  unfolding row_span
  text_bytes parts row own = some_if (nat_lt row parts.rows) (span_at 1 parts.offsets parts.values row) (span_bytes 1 parts.offsets parts.values row own)

  vars_are : (rows place : ℕ) → IfOk (vars_in batch rows place) (λ values. (row : ℕ) → IfBytes (value_in values row))
  unfolding vars_in
  vars_are rows place =
      bind_any (λ values. (row : ℕ) → IfBytes (value_in values row)) (buffer_in batch place) _ (λ offsets.
      bind_if IsBytes (λ values. (row : ℕ) → IfBytes (value_in values row)) (buffer_in batch (place + 1)) _ (buffer_bytes (place + 1)) (λ values own.
      bind_if (λ (parts : VarsIn). IsBytes parts.values) (λ values. (row : ℕ) → IfBytes (value_in values row)) (vars_of offsets values rows) _ (vars_bytes offsets values rows own)
      (λ parts fits row. text_bytes parts row fits)))

  elements_are : (node buffer : ℕ) → IfOk (elements_in batch node buffer) ElementBytes
  unfolding elements_in
  elements_are node buffer =
      bind_any ElementBytes (length_in batch node) _ (λ count. bind_any ElementBytes (validity_in batch count node buffer) _ (λ there.
      bind_if IsBytes ElementBytes (buffer_in batch (buffer + 1)) _ (buffer_bytes (buffer + 1)) (λ bytes own.
      bind_if IsBytes ElementBytes (element_bytes bytes count) _ (taken_bytes bytes count own) (λ elements fits. fits))))

  list_bytes : (all : ListsIn) (row : ℕ) → IsBytes all.values → IfBytes (lists.elements_of all row)
  unfolding lists.elements_of
  list_bytes all row own = some_if (nat_lt row all.rows) (span_at all.width all.offsets all.values row) (span_bytes all.width all.offsets all.values row own)

  lists_are : (rows : ℕ) (a : ArrayPlace) → IfOk (lists_in batch rows a) (λ values. (row : ℕ) → IfBytes (value_in values row))
  unfolding lists_in
  lists_are rows a =
      bind_any (λ values. (row : ℕ) → IfBytes (value_in values row)) (buffer_in batch (a.buffer + 1)) _ (λ offsets.
      bind_if ElementBytes (λ values. (row : ℕ) → IfBytes (value_in values row)) (elements_in batch (a.node + 1) (a.buffer + 2)) _ (elements_are (a.node + 1) (a.buffer + 2)) (λ elements own.
      bind_if (λ (all : ListsIn). IsBytes all.values) (λ values. (row : ℕ) → IfBytes (value_in values row)) (lists_of offsets elements.0 element_len rows) _
      (lists_bytes offsets elements.0 element_len rows own) (λ all fits row. list_bytes all row fits)))

  by_layout : (rows : ℕ) (a : ArrayPlace) (l : Layout) → IfOk (values_by batch rows a l) (λ values. (row : ℕ) → IfBytes (value_in values row))
  by_layout rows a layout.Struct = λ row. IsBytes-nil
  by_layout rows a layout.Bits = bits_are rows (a.buffer + 1)
  by_layout rows a (layout.Fixed width) = fixed_are rows (a.buffer + 1) width
  by_layout rows a layout.Binary = vars_are rows (a.buffer + 1)
  by_layout rows a layout.Text = vars_are rows (a.buffer + 1)
  by_layout rows a layout.List = lists_are rows a

  array_are : (a : ArrayPlace) → IfOk (array_in batch a) (λ array. (row : ℕ) → IfBytes (cell_in array row))
  unfolding array_in values_in
  array_are a =
      bind_any (λ array. (row : ℕ) → IfBytes (cell_in array row)) (rows_in batch a) _ (λ rows.
      bind_any (λ array. (row : ℕ) → IfBytes (cell_in array row)) (validity_in batch rows a.node a.buffer) _ (λ valid.
      bind_if (λ values. (row : ℕ) → IfBytes (value_in values row)) (λ array. (row : ℕ) → IfBytes (cell_in array row)) (values_by batch rows a a.layout) _ (by_layout rows a a.layout)
      (λ values fits row. where_bytes (flag_of valid row) (value_in values row) (fits row))))

  -- A CELL by its own buffers
  pub own_cell_bytes : (a : ArrayPlace) (row : ℕ) → IfBytes (own_cell batch a row)
  unfolding own_cell
  own_cell_bytes a row = elim (array_in batch a) as (λ r. IfOk r (λ array. (row : ℕ) → IfBytes (cell_in array row)) → IfBytes (cell_if r row)) [
    | Ok array ↦ λ own. own row
    | Err e ↦ λ own. tt
  ] (array_are a)

  below_bytes : (above own : Option (List ℕ)) → IfBytes own → IfBytes (cell_below above own)
  below_bytes None own fits = tt
  below_bytes (Some value) own fits = fits

  array_bytes : (cell : ℕ → ℕ → Option (List ℕ)) (row : ℕ) (a : Option ArraySpec) → IfBytes (cell_in_array cell batch row a)
  array_bytes cell row None = tt
  array_bytes cell row (Some a) = below_bytes (cell_above cell a.above row) (own_cell batch (array_place a) row) (own_cell_bytes (array_place a) row)

  -- A CELL of an array of a schema
  pub cell_bytes : (depth : ℕ) (arrays : List ArraySpec) (place row : ℕ) → IfBytes (cell_within depth arrays batch place row)
  unfolding cell_within
  cell_bytes zero arrays place row = tt
  cell_bytes (suc depth) arrays place row = array_bytes (cell_within depth arrays batch) row (slice_get arrays place)
