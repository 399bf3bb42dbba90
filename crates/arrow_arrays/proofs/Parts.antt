-- What an array is made of that has no fault: its buffers, by their indexes.
use Rattle.std.proofs.Common.{◌≡◌, ℕ, ◌+◌, ◌*◌, ◌≤◌, ◌==◌, nat_lt, ℤ, pos, int_lt, if◌then◌else◌, List, [], length, take, slice_get, Option, Some, None, unwrap_or, Result, Ok, Err, IsOk, refl, ap, ◌∙◌, inl, inr, arith}
use Rattle.std.specs.Result.{result_and}
use Rattle.std.proofs.lemmas.Bool.{eqb-true, ltb-false}
use Rattle.lists.proofs.Truths.{chosen}
use Rattle.lists.proofs.Equals.{ok_is}
use Rattle.lists.specs.Results.{◌>>=◌}
use Rattle.arrow_schema.proofs.Steps.{bind_ok}
use Rattle.arrow_buffers.specs.declared.fault.BufferFault.{BufferFault}
use Rattle.arrow_buffers.specs.declared.fault.BufferFault.TheVariants.{Short, BadNulls}
use Rattle.arrow_buffers.specs.Bits.{BitsIn, bits_of, validity_of}
use Rattle.arrow_buffers.specs.Fixed.{FixedIn, fixed_of}
use Rattle.arrow_buffers.specs.Offsets.{offsets_check}
use Rattle.arrow_buffers.specs.Vars.{VarsIn, vars_of}
use Rattle.arrow_buffers.specs.Lists.{ListsIn, lists_of}
use Rattle.arrow_ipc.specs.Batches.{BatchIn}
use Rattle.arrow_arrays.specs.declared.place.ArrayPlace.{ArrayPlace}
use Rattle.arrow_arrays.specs.declared.view.RowValues.{RowValues}
use Rattle.arrow_arrays.specs.declared.view.RowValues.TheVariants.{Nothing, Bits, Fixed, Vars, Lists}
use Rattle.arrow_arrays.specs.declared.view.ArrayView.{ArrayView}
use Rattle.arrow_arrays.specs.Layouts.{element_len}
use Rattle.arrow_arrays.specs.Cells.{or_short, length_in, rows_in, nulls_in, buffer_in, validity_in, bit_values, fixed_in, vars_in, element_bytes, elements_in, lists_in, values_by, values_in, array_in}
use Rattle.arrow_arrays.specs.Found.{bytes_at}

short_is : (found : Option (List ℕ)) (bytes : List ℕ) → or_short found ≡ Ok bytes → unwrap_or found [] ≡ bytes
short_is None bytes is = absurd (cc (is))
short_is (Some found) bytes is = ok_is {E = BufferFault} found bytes is

-- a buffer that is there
pub buffer_is : (batch : BatchIn) (place : ℕ) (bytes : List ℕ) → buffer_in batch place ≡ Ok bytes → bytes_at batch place ≡ bytes
buffer_is batch place bytes is = short_is (slice_get batch.buffers place) bytes is

-- ---- bitmaps

abbrev bits_with : List ℕ → ℕ → BitsIn
bits_with bytes rows = record { bytes = bytes; rows = rows }

bits_of_is : (bytes : List ℕ) (rows : ℕ) (bits : BitsIn) → bits_of bytes rows ≡ Ok bits → bits_with bytes rows ≡ bits
unfolding bits_of
bits_of_is bytes rows bits is =
    elim (chosen (nat_lt (length bytes * 8) rows) (Err Short) (Ok (bits_with bytes rows)) (Ok bits) is) [
      | inl h ↦ absurd (cc (h.1))
      | inr h ↦ ok_is {E = BufferFault} (bits_with bytes rows) bits h.1
    ]

validity_of_is : (bytes : List ℕ) (rows : ℕ) (nulls : ℤ) (bits : BitsIn) → validity_of bytes rows nulls ≡ Ok bits → bits_with bytes rows ≡ bits
unfolding validity_of
validity_of_is bytes rows nulls bits is =
    let all : Result BitsIn BufferFault = Ok (bits_with bytes rows) in
    let none : Result BitsIn BufferFault = if int_lt (pos 0) nulls then Err BadNulls else all in
    elim (chosen (length bytes == 0) none (bits_of bytes rows) (Ok bits) is) [
      | inl h ↦ elim (chosen (int_lt (pos 0) nulls) (Err BadNulls) all (Ok bits) h.1) [
        | inl g ↦ absurd (cc (g.1))
        | inr g ↦ ok_is {E = BufferFault} (bits_with bytes rows) bits g.1
      ]
      | inr h ↦ bits_of_is bytes rows bits h.1
    ]

-- the bitmap of an array is its first buffer
pub valid_is : (batch : BatchIn) (rows node buffer : ℕ) (bits : BitsIn) → validity_in batch rows node buffer ≡ Ok bits → bits_with (bytes_at batch buffer) rows ≡ bits
unfolding validity_in
valid_is batch rows node buffer bits is =
    let n = bind_ok (nulls_in batch rows node) (λ (nulls : ℤ). buffer_in batch buffer >>= λ (bytes : List ℕ). validity_of bytes rows nulls) bits is in
    let b = bind_ok (buffer_in batch buffer) (λ (bytes : List ℕ). validity_of bytes rows n.0) bits n.2 in
    ap (λ (bytes : List ℕ). bits_with bytes rows) (buffer_is batch buffer b.0 b.1) ∙ validity_of_is b.0 rows n.0 bits b.2

-- ---- values

pub bits_are : (batch : BatchIn) (rows place : ℕ) (values : RowValues) → bit_values batch rows place ≡ Ok values → Bits (bits_with (bytes_at batch place) rows) ≡ values
unfolding bit_values
bits_are batch rows place values is =
    let b = bind_ok (buffer_in batch place) (λ (bytes : List ℕ). bits_of bytes rows >>= λ (bits : BitsIn). Ok (Bits bits)) values is in
    let v = bind_ok (bits_of b.0 rows) (λ (bits : BitsIn). Ok (Bits bits)) values b.2 in
    ap (λ (bytes : List ℕ). Bits (bits_with bytes rows)) (buffer_is batch place b.0 b.1) ∙ ap Bits (bits_of_is b.0 rows v.0 v.1) ∙ ok_is {E = BufferFault} (Bits v.0) values v.2

abbrev fixed_with : List ℕ → ℕ → ℕ → FixedIn
fixed_with bytes width rows = record { bytes = bytes; width = width; rows = rows }

-- values of one width: none of width 0, else the parts of a buffer
pub data AreFixed (batch : BatchIn) (rows place width : ℕ) (values : RowValues) : Type 0 where
  none : width ≡ 0 → Nothing ≡ values → AreFixed batch rows place width values
  some : rows * width ≤ length (bytes_at batch place) → Fixed (fixed_with (bytes_at batch place) width rows) ≡ values → AreFixed batch rows place width values

fixed_of_is : (bytes : List ℕ) (width rows : ℕ) (parts : FixedIn) → fixed_of bytes width rows ≡ Ok parts → (rows * width ≤ length bytes) × (fixed_with bytes width rows ≡ parts)
unfolding fixed_of
fixed_of_is bytes width rows parts is =
    elim (chosen (nat_lt (length bytes) (rows * width)) (Err Short) (Ok (fixed_with bytes width rows)) (Ok parts) is) [
      | inl h ↦ absurd (cc (h.1))
      | inr h ↦ (ltb-false (length bytes) (rows * width) h.0, ok_is {E = BufferFault} (fixed_with bytes width rows) parts h.1)
    ]

pub fixed_are : (batch : BatchIn) (rows place width : ℕ) (values : RowValues) → fixed_in batch rows place width ≡ Ok values → AreFixed batch rows place width values
unfolding fixed_in
fixed_are batch rows place width values is =
    let rest : List ℕ → Result RowValues BufferFault = λ bytes. fixed_of bytes width rows >>= λ (parts : FixedIn). Ok (Fixed parts) in
    let b = bind_ok (buffer_in batch place) (λ (bytes : List ℕ). if width == 0 then Ok Nothing else rest bytes) values is in
    let at = buffer_is batch place b.0 b.1 in
    elim (chosen (width == 0) (Ok Nothing) (rest b.0) (Ok values) b.2) [
      | inl h ↦ none (eqb-true width 0 h.0) (ok_is {E = BufferFault} Nothing values h.1)
      | inr h ↦
          let v = bind_ok (fixed_of b.0 width rows) (λ (parts : FixedIn). Ok (Fixed parts)) values h.1 in
          let f = fixed_of_is b.0 width rows v.0 v.1 in
          some (rw at f.0) (ap (λ (bytes : List ℕ). Fixed (fixed_with bytes width rows)) at ∙ ap Fixed f.1 ∙ ok_is {E = BufferFault} (Fixed v.0) values v.2)
    ]

-- a check, and then a value that is made anyway
and_is : {A : Type 0} (r : Result (Unit {0}) BufferFault) (all found : A) → result_and r (Ok all) ≡ Ok found → IsOk r × (all ≡ found)
and_is (Ok x) all found is = (refl, ok_is {E = BufferFault} all found is)
and_is (Err e) all found is = absurd (cc (is))

abbrev vars_with : List ℕ → List ℕ → ℕ → VarsIn
vars_with offsets values rows = record { offsets = offsets; values = values; rows = rows }

-- values by offsets
pub record AreVars (batch : BatchIn) (rows place : ℕ) (values : RowValues) : Type 0 where
  pub fine : IsOk (offsets_check 1 (bytes_at batch place) (bytes_at batch (place + 1)) rows)
  pub are : Vars (vars_with (bytes_at batch place) (bytes_at batch (place + 1)) rows) ≡ values

vars_of_is : (offsets values : List ℕ) (rows : ℕ) (parts : VarsIn) → vars_of offsets values rows ≡ Ok parts → IsOk (offsets_check 1 offsets values rows) × (vars_with offsets values rows ≡ parts)
unfolding vars_of
vars_of_is offsets values rows parts is = and_is (offsets_check 1 offsets values rows) (vars_with offsets values rows) parts is

pub vars_are : (batch : BatchIn) (rows place : ℕ) (values : RowValues) → vars_in batch rows place ≡ Ok values → AreVars batch rows place values
unfolding vars_in
vars_are batch rows place values is =
    let last : List ℕ → List ℕ → Result RowValues BufferFault = λ offsets texts. vars_of offsets texts rows >>= λ (parts : VarsIn). Ok (Vars parts) in
    let o = bind_ok (buffer_in batch place) (λ (offsets : List ℕ). buffer_in batch (place + 1) >>= λ (texts : List ℕ). last offsets texts) values is in
    let t = bind_ok (buffer_in batch (place + 1)) (last o.0) values o.2 in
    let v = bind_ok (vars_of o.0 t.0 rows) (λ (parts : VarsIn). Ok (Vars parts)) values t.2 in
    let f = vars_of_is o.0 t.0 rows v.0 v.1 in
    let at = buffer_is batch place o.0 o.1 in
    let next = buffer_is batch (place + 1) t.0 t.1 in
    record {
      fine = rw (at, next) f.0;
      are = rw (at, next) (ap Vars f.1 ∙ ok_is {E = BufferFault} (Vars v.0) values v.2);
    }

abbrev lists_with : List ℕ → List ℕ → ℕ → ListsIn
lists_with offsets values rows = record { offsets = offsets; values = values; width = element_len; rows = rows }

-- lists: the offsets lead into the elements, which are the front of a buffer
pub record AreLists (batch : BatchIn) (rows place : ℕ) (values : RowValues) : Type 0 where
  pub elements : List ℕ
  pub there : BitsIn
  pub len : ℕ
  pub enough : len ≤ length (bytes_at batch (place + 2))
  pub front : take len (bytes_at batch (place + 2)) ≡ elements
  pub fine : IsOk (offsets_check element_len (bytes_at batch place) elements rows)
  pub are : Lists (lists_with (bytes_at batch place) elements rows) there ≡ values

lists_of_is : (offsets values : List ℕ) (rows : ℕ) (parts : ListsIn) → lists_of offsets values element_len rows ≡ Ok parts → IsOk (offsets_check element_len offsets values rows) × (lists_with offsets values rows ≡ parts)
unfolding lists_of
lists_of_is offsets values rows parts is = and_is (offsets_check element_len offsets values rows) (lists_with offsets values rows) parts is

-- the elements of lists: a front of the buffer after their bitmap
record AreElements (batch : BatchIn) (buffer : ℕ) (elements : List ℕ) : Type 0 where
  len : ℕ
  enough : len ≤ length (bytes_at batch (buffer + 1))
  front : take len (bytes_at batch (buffer + 1)) ≡ elements

elements_of_is : (bytes : List ℕ) (count : ℕ) (elements : List ℕ) → element_bytes bytes count ≡ Ok elements → (count * element_len ≤ length bytes) × (take (count * element_len) bytes ≡ elements)
elements_of_is bytes count elements is =
    elim (chosen (nat_lt (length bytes) (count * element_len)) (Err Short) (Ok (take (count * element_len) bytes)) (Ok elements) is) [
      | inl h ↦ absurd (cc (h.1))
      | inr h ↦ (ltb-false (length bytes) (count * element_len) h.0, ok_is {E = BufferFault} (take (count * element_len) bytes) elements h.1)
    ]

abbrev Elements : Type 0
Elements = List ℕ × BitsIn

elements_are : (batch : BatchIn) (node buffer : ℕ) (found : Elements) → elements_in batch node buffer ≡ Ok found → AreElements batch buffer found.0
unfolding elements_in
elements_are batch node buffer found is =
    let made : BitsIn → List ℕ → Result Elements BufferFault = λ there elements. Ok (elements, there) in
    let cut : ℕ → BitsIn → List ℕ → Result Elements BufferFault = λ count there bytes. element_bytes bytes count >>= made there in
    let bytes_then : ℕ → BitsIn → Result Elements BufferFault = λ count there. buffer_in batch (buffer + 1) >>= cut count there in
    let c = bind_ok (length_in batch node) (λ (count : ℕ). validity_in batch count node buffer >>= bytes_then count) found is in
    let t = bind_ok (validity_in batch c.0 node buffer) (bytes_then c.0) found c.2 in
    let b = bind_ok (buffer_in batch (buffer + 1)) (cut c.0 t.0) found t.2 in
    let e = bind_ok (element_bytes b.0 c.0) (made t.0) found b.2 in
    let f = elements_of_is b.0 c.0 e.0 e.1 in
    let at = buffer_is batch (buffer + 1) b.0 b.1 in
    let pair : (e.0, t.0) ≡ found = ok_is {E = BufferFault} (e.0, t.0) found e.2 in
    let first : Elements → List ℕ = λ p. p.0 in
    record { len = c.0 * element_len; enough = rw at f.0; front = rw at (f.1 ∙ ap first pair) }

pub lists_are : (batch : BatchIn) (rows : ℕ) (a : ArrayPlace) (values : RowValues) → lists_in batch rows a ≡ Ok values → AreLists batch rows (a.buffer + 1) values
unfolding lists_in
lists_are batch rows a values is =
    let made : BitsIn → ListsIn → Result RowValues BufferFault = λ there all. Ok (Lists all there) in
    let read : List ℕ → Elements → Result RowValues BufferFault = λ offsets elements. lists_of offsets elements.0 element_len rows >>= made elements.1 in
    let o = bind_ok (buffer_in batch (a.buffer + 1)) (λ (offsets : List ℕ). elements_in batch (a.node + 1) (a.buffer + 2) >>= read offsets) values is in
    let e = bind_ok (elements_in batch (a.node + 1) (a.buffer + 2)) (read o.0) values o.2 in
    let l = bind_ok (lists_of o.0 e.0.0 element_len rows) (made e.0.1) values e.2 in
    let f = lists_of_is o.0 e.0.0 rows l.0 l.1 in
    let at = buffer_is batch (a.buffer + 1) o.0 o.1 in
    let parts = elements_are batch (a.node + 1) (a.buffer + 2) e.0 e.1 in
    let third : a.buffer + 2 + 1 ≡ a.buffer + 1 + 2 = omega arith in
    record {
      elements = e.0.0;
      there = e.0.1;
      len = parts.len;
      enough = rw third at parts.enough;
      front = rw third at parts.front;
      fine = rw at f.0;
      are = rw at (ap (λ (all : ListsIn). Lists all e.0.1) f.1 ∙ ok_is {E = BufferFault} (Lists l.0 e.0.1) values l.2);
    }

-- ---- the array

view_with : BitsIn → RowValues → ArrayView
view_with valid values = record { valid = valid; values = values }

-- an array without a fault: how many rows it has, its bitmap and its values
pub record IsRead (batch : BatchIn) (a : ArrayPlace) (view : ArrayView) : Type 0 where
  pub rows : ℕ
  pub counted : rows_in batch a ≡ Ok rows
  pub valid : validity_in batch rows a.node a.buffer ≡ Ok view.valid
  pub values : values_by batch rows a a.layout ≡ Ok view.values

pub array_is : (batch : BatchIn) (a : ArrayPlace) (view : ArrayView) → array_in batch a ≡ Ok view → IsRead batch a view
unfolding array_in values_in view_with
array_is batch a view is =
    let made : BitsIn → RowValues → Result ArrayView BufferFault = λ valid values. Ok (view_with valid values) in
    let rest : ℕ → BitsIn → Result ArrayView BufferFault = λ rows valid. values_in batch rows a >>= made valid in
    let r = bind_ok (rows_in batch a) (λ (rows : ℕ). validity_in batch rows a.node a.buffer >>= rest rows) view is in
    let v = bind_ok (validity_in batch r.0 a.node a.buffer) (rest r.0) view r.2 in
    let w = bind_ok (values_in batch r.0 a) (made v.0) view v.2 in
    let same : view_with v.0 w.0 ≡ view = ok_is {E = BufferFault} (view_with v.0 w.0) view w.2 in
    let bits_in_view : ArrayView → Result BitsIn BufferFault = λ x. Ok x.valid in
    let values_in_view : ArrayView → Result RowValues BufferFault = λ x. Ok x.values in
    record { rows = r.0; counted = r.1; valid = v.1 ∙ ap bits_in_view same; values = w.1 ∙ ap values_in_view same }
