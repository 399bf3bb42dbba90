-- What is wrong with an array of a record batch (Arrow columnar format, "RecordBatch message" and "Physical memory
-- layout"). There may be several faults side by side: each is judged by the parts that it needs, whatever is wrong with the others.
use Rattle.std.specs.Prelude.{◌≡◌, ℕ, ◌+◌, ◌*◌, ◌≤◌, ℤ, pos, List, length, slice_get, Option, None, Some, Result, Ok, Err}
use Rattle.lists.specs.Results.{◌>>=◌}
use Rattle.arrow_buffers.specs.declared.fault.BufferFault.{BufferFault}
use Rattle.arrow_buffers.specs.declared.fault.BufferFault.TheVariants.{Short, BadOffsets}
use Rattle.arrow_buffers.specs.Bits.{BitsIn, validity_of}
use Rattle.arrow_buffers.specs.Offsets.{AreTooFew, IsBadIn}
use Rattle.arrow_ipc.specs.Batches.{BatchIn}
use Rattle.arrow_arrays.specs.declared.layout.Layout.{Layout}
use Rattle.arrow_arrays.specs.declared.layout.Layout.TheVariants as layout
use Rattle.arrow_arrays.specs.declared.place.ArrayPlace.{ArrayPlace}
use Rattle.arrow_arrays.specs.declared.view.RowValues.{RowValues}
use Rattle.arrow_arrays.specs.Layouts.{element_len}
use Rattle.arrow_arrays.specs.Cells.{length_in, rows_in, nulls_in, buffer_in, bit_values, fixed_in, element_bytes, values_in, content_in}

-- how many nulls the node at an index counts, whatever rows it counts; none where it is missing
abbrev pub counted_nulls : Option (ℤ × ℤ) → ℤ
counted_nulls None = pos 0
counted_nulls (Some node) = node.1

-- the validity bitmap of some rows, with so many nulls
abbrev pub bitmap_in : BatchIn → ℕ → ℤ → ℕ → Result BitsIn BufferFault
bitmap_in batch rows nulls buffer = buffer_in batch buffer >>= λ bytes. validity_of bytes rows nulls

-- ---- by the parts of an array

pub data IsValidityFault (batch : BatchIn) (rows node buffer : ℕ) (fault : BufferFault) : Type 0 where
  -- its node is missing, or counts other rows
  bad_node : nulls_in batch rows node ≡ Err fault → IsValidityFault batch rows node buffer fault
  -- its bitmap is missing or too small, or it is left out and the node counts nulls
  bad_bitmap : bitmap_in batch rows (counted_nulls (slice_get batch.nodes node)) buffer ≡ Err fault → IsValidityFault batch rows node buffer fault

-- values that differ in length: the buffer at an index holds their offsets
pub data IsVarsFault (batch : BatchIn) (rows place : ℕ) : BufferFault → Type 0 where
  no_offsets : slice_get batch.buffers place ≡ None → IsVarsFault batch rows place Short
  no_values : slice_get batch.buffers (place + 1) ≡ None → IsVarsFault batch rows place Short
  few_offsets : (offsets : List ℕ) → slice_get batch.buffers place ≡ Some offsets → AreTooFew offsets rows → IsVarsFault batch rows place Short
  -- one of those that are there is bad
  bad_offset : (offsets values : List ℕ) (row : ℕ) → slice_get batch.buffers place ≡ Some offsets → slice_get batch.buffers (place + 1) ≡ Some values
      → row ≤ rows → 4 * (row + 1) ≤ length offsets → IsBadIn 1 (length values) offsets row → IsVarsFault batch rows place BadOffsets

-- the elements of lists, whose array has this node and this first buffer
pub data IsElementsFault (batch : BatchIn) (node buffer : ℕ) (fault : BufferFault) : Type 0 where
  -- their node is missing, or counts less than none
  no_count : length_in batch node ≡ Err fault → IsElementsFault batch node buffer fault
  invalid : (count : ℕ) → length_in batch node ≡ Ok count → IsValidityFault batch count node buffer fault → IsElementsFault batch node buffer fault
  few_bytes : (count : ℕ) → length_in batch node ≡ Ok count → (buffer_in batch (buffer + 1) >>= λ bytes. element_bytes bytes count) ≡ Err fault → IsElementsFault batch node buffer fault

-- lists: after their bitmap come the offsets, and then their elements, which are the next array
pub data IsListsFault (batch : BatchIn) (rows : ℕ) (a : ArrayPlace) : BufferFault → Type 0 where
  no_list_offsets : slice_get batch.buffers (a.buffer + 1) ≡ None → IsListsFault batch rows a Short
  few_list_offsets : (offsets : List ℕ) → slice_get batch.buffers (a.buffer + 1) ≡ Some offsets → AreTooFew offsets rows → IsListsFault batch rows a Short
  -- they aren't too few, and one is bad
  bad_list_offset : (offsets : List ℕ) (count row : ℕ) → slice_get batch.buffers (a.buffer + 1) ≡ Some offsets → length_in batch (a.node + 1) ≡ Ok count
      → row ≤ rows → 4 * (rows + 1) ≤ length offsets → IsBadIn element_len (count * element_len) offsets row → IsListsFault batch rows a BadOffsets
  bad_elements : (fault : BufferFault) → IsElementsFault batch (a.node + 1) (a.buffer + 2) fault → IsListsFault batch rows a fault

-- the values of an array come after its bitmap
abbrev pub IsValuesFault : BatchIn → ℕ → ArrayPlace → Layout → BufferFault → Type 0
IsValuesFault batch rows a layout.Struct fault = ⊥
IsValuesFault batch rows a layout.Bits fault = bit_values batch rows (a.buffer + 1) ≡ Err fault
IsValuesFault batch rows a (layout.Fixed width) fault = fixed_in batch rows (a.buffer + 1) width ≡ Err fault
IsValuesFault batch rows a layout.Binary fault = IsVarsFault batch rows (a.buffer + 1) fault
IsValuesFault batch rows a layout.Text fault = IsVarsFault batch rows (a.buffer + 1) fault
IsValuesFault batch rows a layout.List fault = IsListsFault batch rows a fault

-- ---- THE FAULTS OF AN ARRAY

pub data IsArrayFault (batch : BatchIn) (a : ArrayPlace) (fault : BufferFault) : Type 0 where
  -- it holds the elements of lists, and its node is missing or counts less than none
  no_rows : rows_in batch a ≡ Err fault → IsArrayFault batch a fault
  bad_validity : (rows : ℕ) → rows_in batch a ≡ Ok rows → IsValidityFault batch rows a.node a.buffer fault → IsArrayFault batch a fault
  bad_values : (rows : ℕ) → rows_in batch a ≡ Ok rows → IsValuesFault batch rows a a.layout fault → IsArrayFault batch a fault
  -- a text that isn't null is not UTF-8, or a list that isn't null has an element that is: looked at where the values and the
  -- bitmap can be read, whatever the node counts
  bad_content : (rows : ℕ) (valid : BitsIn) (values : RowValues) → rows_in batch a ≡ Ok rows → bitmap_in batch rows (pos 0) a.buffer ≡ Ok valid
      → values_in batch rows a ≡ Ok values → content_in a.layout valid values ≡ Err fault → IsArrayFault batch a fault

-- it has none
abbrev pub HasNoArrayFault : BatchIn → ArrayPlace → Type 0
HasNoArrayFault batch a = (fault : BufferFault) → IsArrayFault batch a fault → ⊥
