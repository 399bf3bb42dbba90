-- The arrays of a schema's fields, and their faults and cells in a record batch (Arrow columnar format, "RecordBatch
-- message": nodes and buffers come depth first, a field before its children, and its own buffers before theirs).
use Rattle.std.specs.Prelude.{◌≡◌, ℕ, zero, suc, ◌+◌, Bool, true, false, List, [], ◌∷◌, ◌++◌, length, sum_by, slice_get, Option, None, Some, Result, Ok}
use Rattle.std.specs.Result.{result_and}
use Rattle.arrow_schema.specs.Limits.{max_depth}
use Rattle.arrow_schema.specs.declared.spec.ArrowType.{ArrowType}
use Rattle.arrow_schema.specs.declared.spec.ArrowType.TheVariants as kind
use Rattle.arrow_schema.specs.declared.spec.DictSpec.{DictSpec}
use Rattle.arrow_schema.specs.declared.spec.Encoding.{Encoding}
use Rattle.arrow_schema.specs.declared.spec.FieldSpec.{FieldSpec, fold-FieldSpec}
use Rattle.arrow_schema.specs.declared.spec.FieldSpec.TheOpen.{FieldSpec-F}
use Rattle.arrow_buffers.specs.declared.fault.BufferFault.{BufferFault}
use Rattle.arrow_ipc.specs.Batches.{BatchIn}
use Rattle.arrow_arrays.specs.declared.layout.Layout.TheVariants as layout
use Rattle.arrow_arrays.specs.declared.place.ArrayPlace.{ArrayPlace}
use Rattle.arrow_arrays.specs.declared.spec.Above.{Above}
use Rattle.arrow_arrays.specs.declared.spec.Above.TheVariants as parent
use Rattle.arrow_arrays.specs.declared.spec.ArraySpec.{ArraySpec}
use Rattle.arrow_arrays.specs.Layouts.{layout_of, own_buffers, element_len, FitsLayout}
use Rattle.arrow_arrays.specs.Cells.{array_check, own_cell}
use Rattle.arrow_arrays.specs.Faults.{IsArrayFault}

-- whether the parent is a list, whose elements the array holds then
abbrev pub is_below_list : Above → Bool
is_below_list parent.List = true
is_below_list other = false

-- where the array of a field is
abbrev pub array_place : ArraySpec → ArrayPlace
array_place a =
    record { layout = layout_of a.kind a.dict; node = a.node; buffer = a.buffer; element = is_below_list a.above }

-- where the elements of a list are: in the next array
abbrev pub place_of_elements : ArraySpec → ArrayPlace
place_of_elements a =
    record { layout = layout.Fixed element_len; node = a.node + 1; buffer = a.buffer + 2; element = true }

abbrev pub HoldsElements : List ArraySpec → ℕ → ArraySpec → Type 0
HoldsElements arrays place a = (e : ArraySpec) × (slice_get arrays (place + 1) ≡ Some e) × (array_place e ≡ place_of_elements a)

-- how many buffers arrays have
abbrev pub buffers_of : List ArraySpec → ℕ
buffers_of arrays = sum_by (λ a. own_buffers (layout_of a.kind a.dict)) arrays

-- the array of one more field after the arrays so far
abbrev pub array_after : List ArraySpec → Above → List ℕ → ArrowType → Option DictSpec → Encoding → ArraySpec
array_after arrays above name kind dict encoding = record {
  name = name;
  kind = kind;
  dict = dict;
  encoding = encoding;
  above = above;
  node = length arrays;
  buffer = buffers_of arrays;
}

-- what is above the children of a field whose array has this index
abbrev pub above_children : ArrowType → ℕ → Above
above_children kind.List place = parent.List
above_children other place = parent.Struct place

-- the arrays so far and those that are added, given what is above them
abbrev pub AddsArrays : Type 0
AddsArrays = Above → List ArraySpec → List ArraySpec

-- one after the other
abbrev pub add_each : List AddsArrays → AddsArrays
add_each [] above arrays = arrays
add_each (add ∷ adds) above arrays = add_each adds above (add above arrays)

-- a field, and then its children below it
abbrev pub add_step : FieldSpec-F AddsArrays → AddsArrays
add_step f above arrays =
    add_each f.children (above_children f.kind (length arrays))
    (arrays ++ array_after arrays above f.name f.kind f.dict f.encoding ∷ [])

abbrev pub add_field : FieldSpec → AddsArrays
add_field = fold-FieldSpec AddsArrays add_step

abbrev pub add_fields : List FieldSpec → AddsArrays
add_fields [] above arrays = arrays
add_fields (f ∷ fields) above arrays = add_fields fields above (add_field f above arrays)

-- THE ARRAYS OF A SCHEMA, depth first
unfoldable pub arrays_of : List FieldSpec → List ArraySpec
arrays_of fields = add_fields fields parent.Top []

-- the names that lead to an array, from those of what is above and its own name; none to what is a child of a list
abbrev pub path_below : (ℕ → List (List ℕ)) → Above → List ℕ → List (List ℕ)
path_below path parent.Top name = name ∷ []
path_below path (parent.Struct place) name = path place ++ name ∷ []
path_below path parent.List name = []

abbrev pub path_to : (ℕ → List (List ℕ)) → Option ArraySpec → List (List ℕ)
path_to path None = []
path_to path (Some a) = path_below path a.above a.name

-- the names that lead to an array at most so deep
unfoldable pub path_within : ℕ → List ArraySpec → ℕ → List (List ℕ)
path_within zero arrays place = []
path_within (suc depth) arrays place = path_to (path_within depth arrays) (slice_get arrays place)

-- THE PATH OF NAMES that leads through structs alone to the array at an index of the list
abbrev pub path_of : List ArraySpec → ℕ → List (List ℕ)
path_of arrays place = path_within max_depth arrays place

-- the first fault of arrays in a batch, depth first
unfoldable pub arrays_check : BatchIn → List ArraySpec → Result (Unit {0}) BufferFault
arrays_check batch [] = Ok tt
arrays_check batch (a ∷ arrays) = result_and (array_check batch (array_place a)) (arrays_check batch arrays)

-- one of the arrays has the fault
abbrev pub HasFault : BatchIn → List ArraySpec → BufferFault → Type 0
HasFault batch arrays fault = (place : ℕ) × (a : ArraySpec) × (slice_get arrays place ≡ Some a) × IsArrayFault batch (array_place a) fault

-- none of them has a fault
abbrev pub HasNoFault : BatchIn → List ArraySpec → Type 0
HasNoFault batch arrays = (fault : BufferFault) → HasFault batch arrays fault → ⊥

-- the cell of the struct above: where none is above, nothing is null by it
abbrev pub cell_above : (ℕ → ℕ → Option (List ℕ)) → Above → ℕ → Option (List ℕ)
cell_above cell (parent.Struct place) row = cell place row
cell_above cell other row = Some []

-- null where that is null
abbrev pub cell_below : Option (List ℕ) → Option (List ℕ) → Option (List ℕ)
cell_below None own = None
cell_below (Some value) own = own

abbrev pub cell_in_array : (ℕ → ℕ → Option (List ℕ)) → BatchIn → ℕ → Option ArraySpec → Option (List ℕ)
cell_in_array cell batch row None = None
cell_in_array cell batch row (Some a) = cell_below (cell_above cell a.above row) (own_cell batch (array_place a) row)

-- the cell of a row in an array at most so deep
unfoldable pub cell_within : ℕ → List ArraySpec → BatchIn → ℕ → ℕ → Option (List ℕ)
cell_within zero arrays batch place row = None
cell_within (suc depth) arrays batch place row = cell_in_array (cell_within depth arrays batch) batch row (slice_get arrays place)

-- THE CELL OF A ROW in the array at an index of the list: null where the array's own bitmap or that of a struct above says
-- so, else the bytes of its value
abbrev pub cell_of : List ArraySpec → BatchIn → ℕ → ℕ → Option (List ℕ)
cell_of arrays batch place row = cell_within max_depth arrays batch place row

-- the bytes fit the array at an index of the list
abbrev pub fits_if : Option ArraySpec → List ℕ → Type 0
fits_if None value = ⊥
fits_if (Some a) value = FitsLayout (layout_of a.kind a.dict) value

abbrev pub FitsArray : List ArraySpec → ℕ → List ℕ → Type 0
FitsArray arrays place value = fits_if (slice_get arrays place) value
