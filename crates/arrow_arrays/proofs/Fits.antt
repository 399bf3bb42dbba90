-- The cells of an array without a fault fit its layout.
use Rattle.std.proofs.Common.{◌≡◌, ℕ, zero, suc, ◌+◌, ◌-◌, ◌*◌, ◌%◌, ◌<◌, ◌≤◌, Bool, true, false, List, [], ◌∷◌, length, drop, slice_get, slice_range, Option, Some, None, Result, Ok, Err, IsOk, is_ok}
use Rattle.std.proofs.Common.{IfSome, option_map, nat_lt, if◌then◌else◌, refl, sym, ap, ◌∙◌, subst, inl, inr, arith, lit<}
use Rattle.std.specs.Str.{is_utf8}
use Rattle.std.proofs.lemmas.Bool.{ltb-true}
use Rattle.std.proofs.lemmas.List.{length-take-le, length-drop}
use Rattle.std.proofs.lemmas.Str.{IsUtf8-from_is_utf8}
use Rattle.std.proofs.Math.Nat.{mul_comm, mul-le-mul_right, mul-mod_left, mul-sub}
use Rattle.lists.proofs.Truths.{chosen}
use Rattle.lists.proofs.Equals.{ok_is}
use Rattle.arrow_schema.proofs.Steps.{bind_ok}
use Rattle.arrow_buffers.specs.declared.fault.BufferFault.{BufferFault}
use Rattle.arrow_buffers.specs.declared.fault.BufferFault.TheVariants.{BadUtf8}
use Rattle.arrow_buffers.specs.declared.width.Width.TheVariants.{Bit}
use Rattle.arrow_buffers.specs.Below.{all_below}
use Rattle.arrow_buffers.specs.Bits.{BitsIn, flag_of, cell_where}
use Rattle.arrow_buffers.specs.Columns.{HasWidth, bit_byte}
use Rattle.arrow_buffers.specs.Fixed.{part_of, row_part}
use Rattle.arrow_buffers.specs.Offsets.{offset_at, offsets_check, span_at}
use Rattle.arrow_buffers.specs.Vars.{VarsIn, row_span, is_text, is_text_at, utf8_check}
use Rattle.arrow_buffers.specs.Lists.{elements_of}
use Rattle.arrow_buffers.proofs.EachBelow.{all_below-at}
use Rattle.arrow_buffers.proofs.Spans.{span-fits}
use Rattle.arrow_ipc.specs.Batches.{BatchIn}
use Rattle.arrow_arrays.specs.declared.layout.Layout.{Layout}
use Rattle.arrow_arrays.specs.declared.layout.Layout.TheVariants as layout
use Rattle.arrow_arrays.specs.declared.place.ArrayPlace.{ArrayPlace}
use Rattle.arrow_arrays.specs.declared.spec.ArraySpec.{ArraySpec}
use Rattle.arrow_arrays.specs.declared.view.RowValues.{RowValues}
use Rattle.arrow_arrays.specs.declared.view.RowValues.TheVariants.{Nothing}
use Rattle.arrow_arrays.specs.declared.view.ArrayView.{ArrayView}
use Rattle.arrow_arrays.specs.Layouts.{FitsLayout, element_len}
use Rattle.arrow_arrays.specs.Cells.{values_by, array_in, content_in, content_check, array_check, value_in, cell_in, cell_if, own_cell}
use Rattle.arrow_arrays.specs.Arrays.{array_place, arrays_check, cell_above, cell_below, cell_in_array, cell_within, FitsArray}
use Rattle.arrow_arrays.specs.Found.{bytes_at}
use Rattle.arrow_arrays.proofs.Checked.{ok_value, check_at}
use Rattle.arrow_arrays.proofs.Parts.{none, some, IsRead, array_is, bits_are, fixed_are, vars_are, lists_are}

-- a cell that isn't null: its flag is set, and it is the value
cell_there : (flag : Option Bool) (own : Option (List ℕ)) (value : List ℕ) → cell_where flag own ≡ Some value → (flag ≡ Some true) × (own ≡ Some value)
cell_there None own value is = absurd (cc)
cell_there (Some false) own value is = absurd (cc)
cell_there (Some true) own value is = (refl, is)

-- an array without a fault can be read, and its contents are fine
pub record IsSound (batch : BatchIn) (a : ArrayPlace) (view : ArrayView) : Type 0 where
  pub is : array_in batch a ≡ Ok view
  pub read : IsRead batch a view
  pub content : content_check a.layout view ≡ Ok tt

pub sound : (batch : BatchIn) (a : ArrayPlace) → IsOk (array_check batch a) → (view : ArrayView) × IsSound batch a view
unfolding array_check
sound batch a ok =
    let r = ok_value (array_check batch a) ok in
    let v = bind_ok (array_in batch a) (content_check a.layout) r.0 r.1 in
    (v.0, record { is = v.1; read = array_is batch a v.0 v.1; content = v.2 })

-- the array of a check that is Ok can be read
pub check_reads : (batch : BatchIn) (a : ArrayPlace) → IsOk (array_check batch a) → IsOk (array_in batch a)
check_reads batch a ok = let v = sound batch a ok in ap (λ (r : Result ArrayView BufferFault). is_ok r) v.1.is

-- ---- by the layout

bit_fits : (flag : Option Bool) (value : List ℕ) → option_map bit_byte flag ≡ Some value → HasWidth Bit value
bit_fits None value is = absurd (cc)
bit_fits (Some true) value is = let e : 1 ∷ [] ≡ value = cc in subst (λ (v : List ℕ). HasWidth Bit v) e (refl, lit< tt)
bit_fits (Some false) value is = let e : 0 ∷ [] ≡ value = cc in subst (λ (v : List ℕ). HasWidth Bit v) e (refl, lit< tt)

-- what is given for a row below the rows
row_there : {A : Type 0} (row rows : ℕ) (x value : A) → (let found : Option A = if nat_lt row rows then Some x else None in found ≡ Some value) → (row < rows) × (x ≡ value)
row_there {A} row rows x value is =
    let none : Option A = None in
    elim (chosen (nat_lt row rows) (Some x) none (Some value) is) [
      | inl h ↦ (ltb-true row rows h.0, cc (h.1))
      | inr h ↦ absurd (cc (h.1))
    ]

part_long : (width rows row : ℕ) (bytes : List ℕ) → row < rows → rows * width ≤ length bytes → length (row_part width bytes row) ≡ width
part_long width rows row bytes below enough =
    let next : (row + 1) * width ≤ rows * width = mul-le-mul_right width (omega arith) in
    length-take-le width (drop (row * width) bytes) (simp length-drop (omega (arith, next)))

part_fits : (bytes : List ℕ) (width rows row : ℕ) (value : List ℕ) → rows * width ≤ length bytes → part_of (record { bytes = bytes; width = width; rows = rows }) row ≡ Some value → length value ≡ width
unfolding part_of
part_fits bytes width rows row value enough has =
    let there = row_there row rows (row_part width bytes row) value has in
    ap length (sym there.1) ∙ part_long width rows row bytes there.0 enough

text_fits : (valid : BitsIn) (parts : VarsIn) (row : ℕ) (value : List ℕ) → utf8_check parts valid ≡ Ok tt → flag_of valid row ≡ Some true → row_span parts row ≡ Some value → is_utf8 value ≡ true
unfolding utf8_check row_span
text_fits valid parts row value checked flag has =
    elim (chosen (all_below (is_text_at parts valid) parts.rows) (Ok tt) (Err BadUtf8) (Ok tt) checked) [
      | inr h ↦ absurd (cc (h.1))
      | inl h ↦
          let there = row_there row parts.rows (span_at 1 parts.offsets parts.values row) value has in
          let one : is_text_at parts valid row ≡ true = all_below-at (is_text_at parts valid) parts.rows row h.0 there.0 in
          let cell : cell_where (flag_of valid row) (row_span parts row) ≡ Some value = ap (λ (f : Option Bool). cell_where f (row_span parts row)) flag ∙ has in
          sym (ap is_text cell) ∙ one
    ]

-- from one offset to a later one the elements are whole
span_whole : (width : ℕ) (values : List ℕ) (a b : ℕ) → a ≤ b → b * width ≤ length values → length (slice_range values (a * width) (b * width)) % width ≡ 0
span_whole width values a b order within =
    let start : a * width ≤ b * width = mul-le-mul_right width order in
    let len : length (slice_range values (a * width) (b * width)) ≡ b * width - a * width = length-take-le (b * width - a * width) (drop (a * width) values) (simp length-drop (omega (arith, start, within))) in
    let times : b * width - a * width ≡ (b - a) * width = rw (mul_comm b width, mul_comm a width, mul_comm (b - a) width) (sym (mul-sub width b a)) in
    rw (len, times) (mul-mod_left (b - a) width)

list_fits : (offsets elements : List ℕ) (rows row : ℕ) (value : List ℕ) → IsOk (offsets_check element_len offsets elements rows)
    → elements_of (record { offsets = offsets; values = elements; width = element_len; rows = rows }) row ≡ Some value → length value % element_len ≡ 0
unfolding elements_of
list_fits offsets elements rows row value fine has =
    let there = row_there row rows (span_at element_len offsets elements row) value has in
    let fits = span-fits element_len offsets elements rows row there.0 fine in
    ap (λ (v : List ℕ). length v % element_len) (sym there.1) ∙ span_whole element_len elements (offset_at offsets row) (offset_at offsets (row + 1)) fits.order fits.within

values_fit : (kind : Layout) (batch : BatchIn) (a : ArrayPlace) (rows row : ℕ) (view : ArrayView) (value : List ℕ) → values_by batch rows a kind ≡ Ok view.values → content_check kind view ≡ Ok tt
    → flag_of view.valid row ≡ Some true → value_in view.values row ≡ Some value → FitsLayout kind value
values_fit layout.Struct batch a rows row view value is content flag has =
    let e : Nothing ≡ view.values = ok_is {E = BufferFault} Nothing view.values is in
    let none : Some [] ≡ Some value = ap (λ (v : RowValues). value_in v row) e ∙ has in
    cc (none)
values_fit layout.Bits batch a rows row view value is content flag has =
    let bits : BitsIn = record { bytes = bytes_at batch (a.buffer + 1); rows = rows } in
    let e = bits_are batch rows (a.buffer + 1) view.values is in
    bit_fits (flag_of bits row) value (ap (λ (v : RowValues). value_in v row) e ∙ has)
values_fit (layout.Fixed width) batch a rows row view value is content flag has =
    elim (fixed_are batch rows (a.buffer + 1) width view.values is) [
      | none zero_wide e ↦
          let nothing : Some [] ≡ Some value = ap (λ (v : RowValues). value_in v row) e ∙ has in
          let empty : [] ≡ value = cc (nothing) in
          ap length (sym empty) ∙ sym zero_wide
      | some enough e ↦ part_fits (bytes_at batch (a.buffer + 1)) width rows row value enough (ap (λ (v : RowValues). value_in v row) e ∙ has)
    ]
values_fit layout.Binary batch a rows row view value is content flag has = tt
values_fit layout.Text batch a rows row view value is content flag has =
    let v = vars_are batch rows (a.buffer + 1) view.values is in
    let parts : VarsIn = record { offsets = bytes_at batch (a.buffer + 1); values = bytes_at batch (a.buffer + 1 + 1); rows = rows } in
    IsUtf8-from_is_utf8 value (text_fits view.valid parts row value (ap (content_in layout.Text view.valid) v.are ∙ content) flag (ap (λ (w : RowValues). value_in w row) v.are ∙ has))
values_fit layout.List batch a rows row view value is content flag has =
    let l = lists_are batch rows a view.values is in
    list_fits (bytes_at batch (a.buffer + 1)) l.elements rows row value l.fine (ap (λ (w : RowValues). value_in w row) l.are ∙ has)

-- a cell of an array without a fault fits its layout
pub own_fits : (batch : BatchIn) (a : ArrayPlace) (row : ℕ) (value : List ℕ) → IsOk (array_check batch a) → own_cell batch a row ≡ Some value → FitsLayout a.layout value
unfolding own_cell
own_fits batch a row value ok has =
    let v = sound batch a ok in
    let view : ArrayView = v.0 in
    let there : cell_in view row ≡ Some value = ap (λ (r : Result ArrayView BufferFault). cell_if r row) (sym v.1.is) ∙ has in
    let parts = cell_there (flag_of view.valid row) (value_in view.values row) value there in
    values_fit a.layout batch a v.1.read.rows row view value v.1.read.values v.1.content parts.0 parts.1

-- ---- in a list of arrays

below_there : (above own : Option (List ℕ)) (value : List ℕ) → cell_below above own ≡ Some value → own ≡ Some value
below_there None own value is = absurd (cc)
below_there (Some x) own value is = is

found_fits : (batch : BatchIn) (arrays : List ArraySpec) (place row : ℕ) (cell : ℕ → ℕ → Option (List ℕ)) (value : List ℕ) → IsOk (arrays_check batch arrays) → (found : Option ArraySpec) → slice_get arrays place ≡ found
    → cell_in_array cell batch row found ≡ Some value → FitsArray arrays place value
found_fits batch arrays place row cell value ok None at has = absurd (cc)
found_fits batch arrays place row cell value ok (Some a) at has =
    rw at (own_fits batch (array_place a) row value (check_at batch arrays place a ok at) (below_there (cell_above cell a.above row) (own_cell batch (array_place a) row) value has))

-- a cell in a batch without a fault fits its array
pub cell_fits : (depth : ℕ) (arrays : List ArraySpec) (batch : BatchIn) (place row : ℕ) (value : List ℕ) → IsOk (arrays_check batch arrays) → cell_within depth arrays batch place row ≡ Some value
    → FitsArray arrays place value
unfolding cell_within
cell_fits zero arrays batch place row value ok has = absurd (cc)
cell_fits (suc depth) arrays batch place row value ok has =
    found_fits batch arrays place row (cell_within depth arrays batch) value ok (slice_get arrays place) refl has

pub if_some : {A : Type 0} (o : Option A) (P : A → Type 0) → ((x : A) → o ≡ Some x → P x) → IfSome o P
if_some None P each = tt
if_some (Some x) P each = each x refl

-- what is known to be a cell fits
pub own_if_fits : (batch : BatchIn) (a : ArrayPlace) (row : ℕ) (cell : Option (List ℕ)) → IsOk (array_check batch a) → cell ≡ own_cell batch a row → IfSome cell (FitsLayout a.layout)
own_if_fits batch a row cell ok is = if_some cell (FitsLayout a.layout) (λ value has. own_fits batch a row value ok (sym is ∙ has))

pub cell_if_fits : (depth : ℕ) (arrays : List ArraySpec) (batch : BatchIn) (place row : ℕ) (cell : Option (List ℕ)) → IsOk (arrays_check batch arrays) → cell ≡ cell_within depth arrays batch place row
    → IfSome cell (FitsArray arrays place)
cell_if_fits depth arrays batch place row cell ok is = if_some cell (FitsArray arrays place) (λ value has. cell_fits depth arrays batch place row value ok (sym is ∙ has))
