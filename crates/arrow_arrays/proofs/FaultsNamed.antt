-- The first fault of an array is among its faults, and where there is no first one it has none.
use Rattle.std.proofs.Common.{◌≡◌, ℕ, ◌+◌, ◌*◌, ◌≤◌, ◌⊎◌, ◌==◌, ◌&&◌, ℤ, pos, int_lt, nat_lt, Bool, true, false, if◌then◌else◌}
use Rattle.std.proofs.Common.{List, length, take, slice_get, Option, Some, None, Result, Ok, Err, IfErr, OnOk, refl, sym, ap, ◌∙◌, subst, inl, inr, arith}
use Rattle.std.specs.Result.{result_and}
use Rattle.lists.proofs.Truths.{chosen}
use Rattle.lists.proofs.Equals.{ok_is}
use Rattle.lists.specs.Results.{◌>>=◌}
use Rattle.std.proofs.lemmas.Bool.{cases_lt, ltb-false}
use Rattle.std.proofs.lemmas.List.{length-take-le}
use Rattle.arrow_schema.specs.Types.{is_number}
use Rattle.arrow_schema.proofs.Steps.{bind_ok, bind_err}
use Rattle.arrow_buffers.specs.declared.fault.BufferFault.{BufferFault}
use Rattle.arrow_buffers.specs.declared.fault.BufferFault.TheVariants.{Short, BadOffsets, BadNulls}
use Rattle.arrow_buffers.specs.Below.{all_below}
use Rattle.arrow_buffers.specs.Bits.{BitsIn, bits_of, validity_of}
use Rattle.arrow_buffers.specs.Lists.{ListsIn, lists_of}
use Rattle.arrow_buffers.specs.Offsets.{AreNone, AreTooFew, IsBad, IsBadIn, is_fine_at, offsets_check}
use Rattle.arrow_buffers.specs.Vars.{VarsIn, vars_of}
use Rattle.arrow_buffers.proofs.Faults.{short-law, bad-law}
use Rattle.arrow_ipc.specs.Batches.{BatchIn}
use Rattle.arrow_arrays.specs.declared.layout.Layout.{Layout}
use Rattle.arrow_arrays.specs.declared.layout.Layout.TheVariants as layout
use Rattle.arrow_arrays.specs.declared.place.ArrayPlace.{ArrayPlace}
use Rattle.arrow_arrays.specs.declared.view.RowValues.{RowValues}
use Rattle.arrow_arrays.specs.declared.view.RowValues.TheVariants.{Vars, Lists}
use Rattle.arrow_arrays.specs.declared.view.ArrayView.{ArrayView}
use Rattle.arrow_arrays.specs.Layouts.{element_len}
use Rattle.arrow_arrays.specs.Cells.{or_short, length_in, rows_in, nulls_if, nulls_in, buffer_in, validity_in, bit_values, fixed_in, vars_in, element_bytes, elements_in, lists_in, values_by}
use Rattle.arrow_arrays.specs.Cells.{values_in, array_in, content_in, content_check, array_check}
use Rattle.arrow_arrays.specs.Faults.{counted_nulls, bitmap_in, IsValidityFault, bad_node, bad_bitmap, IsVarsFault, no_offsets, no_values, few_offsets, bad_offset, IsElementsFault, no_count, invalid, few_bytes}
use Rattle.arrow_arrays.specs.Faults.{HasNoArrayFault, IsListsFault, no_list_offsets, few_list_offsets, bad_list_offset, bad_elements, IsValuesFault, IsArrayFault, no_rows, bad_validity, bad_values, bad_content}
use Rattle.arrow_arrays.proofs.Parts.{IsRead, array_is}

-- ---- results

-- what is read twice is read alike
never : {A : Type 0} (r : Result A BufferFault) (x : A) (e : BufferFault) → r ≡ Ok x → r ≡ Err e → ⊥
never r x e one other = cc

same_ok : {A : Type 0} (r : Result A BufferFault) (x y : A) → r ≡ Ok x → r ≡ Ok y → x ≡ y
same_ok r x y one other = ok_is {E = BufferFault} x y (sym one ∙ other)

short_some : {A : Type 0} (found : Option A) (x : A) → or_short found ≡ Ok x → found ≡ Some x
short_some None x is = absurd (cc (is))
short_some (Some y) x is = ap (λ z. Some z) (ok_is {E = BufferFault} y x is)

short_none : {A : Type 0} (found : Option A) (e : BufferFault) → or_short found ≡ Err e → (found ≡ None) × (Short ≡ e)
short_none None e is = (refl, cc (is))
short_none (Some y) e is = absurd (cc (is))

-- a part that is there isn't missing
there : {A : Type 0} (found : Option A) (x : A) → or_short found ≡ Ok x → found ≡ None → ⊥
there found x is none = cc (short_some found x is, none)

-- ---- validity

counted : (batch : BatchIn) (rows node : ℕ) (nulls : ℤ) → nulls_in batch rows node ≡ Ok nulls → counted_nulls (slice_get batch.nodes node) ≡ nulls
unfolding nulls_in
counted batch rows node nulls is =
    let n = bind_ok (or_short (slice_get batch.nodes node)) (nulls_if rows) nulls is in
    elim (chosen (is_number rows n.0.0) (Ok n.0.1) (Err Short) (Ok nulls) n.2) [
      | inl h ↦ ap counted_nulls (short_some (slice_get batch.nodes node) n.0 n.1) ∙ ok_is {E = BufferFault} n.0.1 nulls h.1
      | inr h ↦ absurd (cc (h.1))
    ]

named_validity : (batch : BatchIn) (rows node buffer : ℕ) (fault : BufferFault) → validity_in batch rows node buffer ≡ Err fault → IsValidityFault batch rows node buffer fault
unfolding validity_in
named_validity batch rows node buffer fault is =
    elim (bind_err (nulls_in batch rows node) (λ (nulls : ℤ). bitmap_in batch rows nulls buffer) fault is) [
      | inl node_fault ↦ bad_node node_fault
      | inr h ↦ bad_bitmap (ap (λ (nulls : ℤ). bitmap_in batch rows nulls buffer) (counted batch rows node h.0 h.1) ∙ h.2)
    ]

-- the parts of a bitmap that is read
record IsValid (batch : BatchIn) (rows node buffer : ℕ) (valid : BitsIn) : Type 0 where
  nulls : ℤ
  node_is : nulls_in batch rows node ≡ Ok nulls
  bitmap : bitmap_in batch rows nulls buffer ≡ Ok valid

valid_parts : (batch : BatchIn) (rows node buffer : ℕ) (valid : BitsIn) → validity_in batch rows node buffer ≡ Ok valid → IsValid batch rows node buffer valid
unfolding validity_in
valid_parts batch rows node buffer valid is =
    let n = bind_ok (nulls_in batch rows node) (λ (nulls : ℤ). bitmap_in batch rows nulls buffer) valid is in
    record { nulls = n.0; node_is = n.1; bitmap = n.2 }

never_validity : (batch : BatchIn) (rows node buffer : ℕ) (valid : BitsIn) (fault : BufferFault) → validity_in batch rows node buffer ≡ Ok valid → IsValidityFault batch rows node buffer fault → ⊥
never_validity batch rows node buffer valid fault is (bad_node bad) = let v = valid_parts batch rows node buffer valid is in never (nulls_in batch rows node) v.nulls fault v.node_is bad
never_validity batch rows node buffer valid fault is (bad_bitmap bad) =
    let v = valid_parts batch rows node buffer valid is in
    never (bitmap_in batch rows v.nulls buffer) valid fault v.bitmap (ap (λ (nulls : ℤ). bitmap_in batch rows nulls buffer) (sym (counted batch rows node v.nulls v.node_is)) ∙ bad)

-- a bitmap that is read with some nulls is read with none
whatever : (empty over : Bool) (bits : BitsIn) (other : Result BitsIn BufferFault) (valid : BitsIn) → (if empty then (if over then Err BadNulls else Ok bits) else other) ≡ Ok valid
    → (if empty then Ok bits else other) ≡ Ok valid
whatever true true bits other valid is = absurd (cc (is))
whatever true false bits other valid is = is
whatever false over bits other valid is = is

without_nulls : (bytes : List ℕ) (rows : ℕ) (nulls : ℤ) (valid : BitsIn) → validity_of bytes rows nulls ≡ Ok valid → validity_of bytes rows (pos 0) ≡ Ok valid
unfolding validity_of
without_nulls bytes rows nulls valid is = whatever (length bytes == 0) (int_lt (pos 0) nulls) (record { bytes = bytes; rows = rows }) (bits_of bytes rows) valid is

bitmap_anyway : (batch : BatchIn) (rows : ℕ) (nulls : ℤ) (buffer : ℕ) (valid : BitsIn) → bitmap_in batch rows nulls buffer ≡ Ok valid → bitmap_in batch rows (pos 0) buffer ≡ Ok valid
bitmap_anyway batch rows nulls buffer valid is =
    let b = bind_ok (buffer_in batch buffer) (λ (bytes : List ℕ). validity_of bytes rows nulls) valid is in
    ap (λ (r : Result (List ℕ) BufferFault). r >>= λ (bytes : List ℕ). validity_of bytes rows (pos 0)) b.1 ∙ without_nulls b.0 rows nulls valid b.2

-- ---- offsets

abbrev outcome : Bool → Bool → Bool → Result (Unit {0}) BufferFault
outcome none few all = if none then Ok tt else (if few then Err Short else (if all then Ok tt else Err BadOffsets))

only : (none few all : Bool) (fault : BufferFault) → outcome none few all ≡ Err fault → (Short ≡ fault) ⊎ (BadOffsets ≡ fault)
only true few all fault is = absurd (cc (is))
only false true all fault is = inl (cc (is))
only false false true fault is = absurd (cc (is))
only false false false fault is = inr (cc (is))

two_faults : (width : ℕ) (offsets values : List ℕ) (rows : ℕ) (fault : BufferFault) → offsets_check width offsets values rows ≡ Err fault → (Short ≡ fault) ⊎ (BadOffsets ≡ fault)
unfolding offsets_check
two_faults width offsets values rows fault is =
    only (rows == 0 && length offsets == 0) (nat_lt (length offsets) (4 * (rows + 1))) (all_below (is_fine_at width offsets values) (rows + 1)) fault is

checked_err : {A : Type 0} (r : Result (Unit {0}) BufferFault) (x : A) (fault : BufferFault) → result_and r (Ok x) ≡ Err fault → r ≡ Err fault
checked_err (Ok u) x fault is = absurd (cc (is))
checked_err (Err e) x fault is = let same : e ≡ fault = cc (is) in ap (λ (f : BufferFault). Err f) same

checked_ok : {A : Type 0} (r : Result (Unit {0}) BufferFault) (x y : A) → result_and r (Ok x) ≡ Ok y → r ≡ Ok tt
checked_ok (Ok u) x y is = refl
checked_ok (Err e) x y is = absurd (cc (is))

-- offsets that are checked are not too few, and none is bad
not_few : (width : ℕ) (offsets values : List ℕ) (rows : ℕ) → offsets_check width offsets values rows ≡ Ok tt → AreTooFew offsets rows → ⊥
not_few width offsets values rows fine few = never (offsets_check width offsets values rows) tt Short fine ((short-law width offsets values rows).1 few)

none_bad : (width : ℕ) (offsets values : List ℕ) (rows row : ℕ) → offsets_check width offsets values rows ≡ Ok tt → row ≤ rows → 4 * (rows + 1) ≤ length offsets → IsBad width offsets values row → ⊥
none_bad width offsets values rows row fine within enough bad =
    let some : AreNone offsets rows → ⊥ = λ none. omega (arith, none.1, enough) in
    never (offsets_check width offsets values rows) tt BadOffsets fine ((bad-law width offsets values rows).1 (some, enough, (row, within, bad)))

-- one of those that are there: then there are enough, since there aren't too few
enough_for : (offsets : List ℕ) (rows row : ℕ) → (AreTooFew offsets rows → ⊥) → 4 * (row + 1) ≤ length offsets → 4 * (rows + 1) ≤ length offsets
enough_for offsets rows row not_few there =
    elim (cases_lt (length offsets) (4 * (rows + 1))) [
      | inl few ↦ absurd (not_few (λ none. omega (arith, none.1, there), few))
      | inr enough ↦ enough
    ]

-- ---- values by offsets

module _ (batch : BatchIn) (rows place : ℕ) where
  abbrev made : VarsIn → Result RowValues BufferFault
  made parts = Ok (Vars parts)

  abbrev with_both : List ℕ → List ℕ → Result RowValues BufferFault
  with_both offsets values = vars_of offsets values rows >>= made

  abbrev with_offsets : List ℕ → Result RowValues BufferFault
  with_offsets offsets = buffer_in batch (place + 1) >>= with_both offsets

  named_offsets : (fault : BufferFault) (offsets values : List ℕ) → slice_get batch.buffers place ≡ Some offsets → slice_get batch.buffers (place + 1) ≡ Some values
      → offsets_check 1 offsets values rows ≡ Err fault → IsVarsFault batch rows place fault
  named_offsets fault offsets values at next is =
      elim (two_faults 1 offsets values rows fault is) [
        | inl short ↦ subst (λ (f : BufferFault). IsVarsFault batch rows place f) short
            (few_offsets offsets at ((short-law 1 offsets values rows).0 (is ∙ ap (λ (f : BufferFault). Err f) (sym short))))
        | inr bad ↦
            let h = (bad-law 1 offsets values rows).0 (is ∙ ap (λ (f : BufferFault). Err f) (sym bad)) in
            subst (λ (f : BufferFault). IsVarsFault batch rows place f) bad (bad_offset offsets values h.2.0 at next h.2.1 (omega (arith, h.1, h.2.1)) h.2.2)
      ]

  named_vars : (fault : BufferFault) → vars_in batch rows place ≡ Err fault → IsVarsFault batch rows place fault
  unfolding vars_in vars_of
  named_vars fault is =
      elim (bind_err (buffer_in batch place) with_offsets fault is) [
        | inl missing ↦ let h = short_none (slice_get batch.buffers place) fault missing in subst (λ (f : BufferFault). IsVarsFault batch rows place f) h.1 (no_offsets h.0)
        | inr o ↦ elim (bind_err (buffer_in batch (place + 1)) (with_both o.0) fault o.2) [
          | inl missing ↦ let h = short_none (slice_get batch.buffers (place + 1)) fault missing in subst (λ (f : BufferFault). IsVarsFault batch rows place f) h.1 (no_values h.0)
          | inr v ↦ elim (bind_err (vars_of o.0 v.0 rows) made fault v.2) [
            | inl bad ↦
                named_offsets fault o.0 v.0 (short_some (slice_get batch.buffers place) o.0 o.1) (short_some (slice_get batch.buffers (place + 1)) v.0 v.1)
                (checked_err (offsets_check 1 o.0 v.0 rows) (record { offsets = o.0; values = v.0; rows = rows }) fault bad)
            | inr made_is ↦ absurd (cc (made_is.2))
          ]
        ]
      ]

  -- the parts of values that are read
  record HasVars : Type 0 where
    offsets : List ℕ
    values : List ℕ
    at : slice_get batch.buffers place ≡ Some offsets
    next : slice_get batch.buffers (place + 1) ≡ Some values
    fine : offsets_check 1 offsets values rows ≡ Ok tt

  has_vars : (view : RowValues) → vars_in batch rows place ≡ Ok view → HasVars
  unfolding vars_in vars_of
  has_vars view is =
      let o = bind_ok (buffer_in batch place) with_offsets view is in
      let v = bind_ok (buffer_in batch (place + 1)) (with_both o.0) view o.2 in
      let m = bind_ok (vars_of o.0 v.0 rows) made view v.2 in
      record {
        offsets = o.0;
        values = v.0;
        at = short_some (slice_get batch.buffers place) o.0 o.1;
        next = short_some (slice_get batch.buffers (place + 1)) v.0 v.1;
        fine = checked_ok (offsets_check 1 o.0 v.0 rows) (record { offsets = o.0; values = v.0; rows = rows }) m.0 m.1;
      }

  never_vars : (fault : BufferFault) → HasVars → IsVarsFault batch rows place fault → ⊥
  never_vars fault h (no_offsets none) = cc (none, h.at)
  never_vars fault h (no_values none) = cc (none, h.next)
  never_vars fault h (few_offsets offsets at few) =
      let same : offsets ≡ h.offsets = cc (at, h.at) in
      not_few 1 h.offsets h.values rows h.fine (subst (λ (o : List ℕ). AreTooFew o rows) same few)
  never_vars fault h (bad_offset offsets values row at next within enough bad) =
      let same : offsets ≡ h.offsets = cc (at, h.at) in
      let same_values : values ≡ h.values = cc (next, h.next) in
      let here : 4 * (row + 1) ≤ length h.offsets = subst (λ (o : List ℕ). 4 * (row + 1) ≤ length o) same enough in
      none_bad 1 h.offsets h.values rows row h.fine within (enough_for h.offsets rows row (not_few 1 h.offsets h.values rows h.fine) here)
      (subst (λ (o : List ℕ). IsBad 1 o h.values row) same (subst (λ (v : List ℕ). IsBad 1 offsets v row) same_values bad))

-- ---- lists

module _ (batch : BatchIn) (node buffer : ℕ) where
  abbrev Elements : Type 0
  Elements = List ℕ × BitsIn

  abbrev paired : BitsIn → List ℕ → Result Elements BufferFault
  paired there elements = Ok (elements, there)

  abbrev bytes_of : ℕ → Result (List ℕ) BufferFault
  bytes_of count = buffer_in batch (buffer + 1) >>= λ (bytes : List ℕ). element_bytes bytes count

  abbrev with_bytes : ℕ → BitsIn → List ℕ → Result Elements BufferFault
  with_bytes count there bytes = element_bytes bytes count >>= paired there

  abbrev with_bits : ℕ → BitsIn → Result Elements BufferFault
  with_bits count there = buffer_in batch (buffer + 1) >>= with_bytes count there

  abbrev with_count : ℕ → Result Elements BufferFault
  with_count count = validity_in batch count node buffer >>= with_bits count

  found_bytes : (count : ℕ) (bytes : List ℕ) (r : Result (List ℕ) BufferFault) → buffer_in batch (buffer + 1) ≡ Ok bytes → element_bytes bytes count ≡ r → bytes_of count ≡ r
  found_bytes count bytes r at is = ap (λ (found : Result (List ℕ) BufferFault). found >>= λ (b : List ℕ). element_bytes b count) at ∙ is

  named_elements : (fault : BufferFault) → elements_in batch node buffer ≡ Err fault → IsElementsFault batch node buffer fault
  unfolding elements_in
  named_elements fault is =
      elim (bind_err (length_in batch node) with_count fault is) [
        | inl missing ↦ no_count missing
        | inr c ↦ elim (bind_err (validity_in batch c.0 node buffer) (with_bits c.0) fault c.2) [
          | inl bad ↦ invalid c.0 c.1 (named_validity batch c.0 node buffer fault bad)
          | inr t ↦ elim (bind_err (buffer_in batch (buffer + 1)) (with_bytes c.0 t.0) fault t.2) [
            | inl missing ↦ few_bytes c.0 c.1 (ap (λ (found : Result (List ℕ) BufferFault). found >>= λ (b : List ℕ). element_bytes b c.0) missing)
            | inr b ↦ elim (bind_err (element_bytes b.0 c.0) (paired t.0) fault b.2) [
              | inl few ↦ few_bytes c.0 c.1 (found_bytes c.0 b.0 (Err fault) b.1 few)
              | inr made ↦ absurd (cc (made.2))
            ]
          ]
        ]
      ]

  -- the parts of elements that are read
  pub record HasElements (elements : List ℕ) : Type 0 where
    count : ℕ
    counts : length_in batch node ≡ Ok count
    there : BitsIn
    valid : validity_in batch count node buffer ≡ Ok there
    bytes : bytes_of count ≡ Ok elements
    len : length elements ≡ count * element_len

  taken : (bytes : List ℕ) (count : ℕ) (elements : List ℕ) → element_bytes bytes count ≡ Ok elements → length elements ≡ count * element_len
  taken bytes count elements is =
      elim (chosen (nat_lt (length bytes) (count * element_len)) (Err Short) (Ok (take (count * element_len) bytes)) (Ok elements) is) [
        | inl h ↦ absurd (cc (h.1))
        | inr h ↦
            ap length (sym (ok_is {E = BufferFault} (take (count * element_len) bytes) elements h.1))
            ∙ length-take-le (count * element_len) bytes (ltb-false (length bytes) (count * element_len) h.0)
      ]

  has_elements : (found : Elements) → elements_in batch node buffer ≡ Ok found → HasElements found.0
  unfolding elements_in
  has_elements found is =
      let c = bind_ok (length_in batch node) with_count found is in
      let t = bind_ok (validity_in batch c.0 node buffer) (with_bits c.0) found c.2 in
      let b = bind_ok (buffer_in batch (buffer + 1)) (with_bytes c.0 t.0) found t.2 in
      let e = bind_ok (element_bytes b.0 c.0) (paired t.0) found b.2 in
      let first : Elements → List ℕ = λ p. p.0 in
      let same : e.0 ≡ found.0 = ap first (ok_is {E = BufferFault} (e.0, t.0) found e.2) in
      record {
        count = c.0;
        counts = c.1;
        there = t.0;
        valid = t.1;
        bytes = found_bytes c.0 b.0 (Ok found.0) b.1 (e.1 ∙ ap (λ (x : List ℕ). Ok x) same);
        len = ap length (sym same) ∙ taken b.0 c.0 e.0 e.1;
      }

  never_elements : (elements : List ℕ) (fault : BufferFault) → HasElements elements → IsElementsFault batch node buffer fault → ⊥
  never_elements elements fault h (no_count missing) = never (length_in batch node) h.count fault h.counts missing
  never_elements elements fault h (invalid count counts bad) =
      let same : count ≡ h.count = same_ok (length_in batch node) count h.count counts h.counts in
      never_validity batch h.count node buffer h.there fault h.valid (subst (λ (n : ℕ). IsValidityFault batch n node buffer fault) same bad)
  never_elements elements fault h (few_bytes count counts few) =
      let same : count ≡ h.count = same_ok (length_in batch node) count h.count counts h.counts in
      never (bytes_of h.count) elements fault h.bytes (subst (λ (n : ℕ). bytes_of n ≡ Err fault) same few)

module _ (batch : BatchIn) (rows : ℕ) (a : ArrayPlace) where
  abbrev as_lists : BitsIn → ListsIn → Result RowValues BufferFault
  as_lists there all = Ok (Lists all there)

  abbrev with_elements : List ℕ → (List ℕ × BitsIn) → Result RowValues BufferFault
  with_elements offsets elements = lists_of offsets elements.0 element_len rows >>= as_lists elements.1

  abbrev with_list_offsets : List ℕ → Result RowValues BufferFault
  with_list_offsets offsets = elements_in batch (a.node + 1) (a.buffer + 2) >>= with_elements offsets

  named_list_offsets : (fault : BufferFault) (offsets elements : List ℕ) → slice_get batch.buffers (a.buffer + 1) ≡ Some offsets → HasElements batch (a.node + 1) (a.buffer + 2) elements
      → offsets_check element_len offsets elements rows ≡ Err fault → IsListsFault batch rows a fault
  named_list_offsets fault offsets elements at h is =
      elim (two_faults element_len offsets elements rows fault is) [
        | inl short ↦ subst (λ (f : BufferFault). IsListsFault batch rows a f) short
            (few_list_offsets offsets at ((short-law element_len offsets elements rows).0 (is ∙ ap (λ (f : BufferFault). Err f) (sym short))))
        | inr bad ↦
            let l = (bad-law element_len offsets elements rows).0 (is ∙ ap (λ (f : BufferFault). Err f) (sym bad)) in
            subst (λ (f : BufferFault). IsListsFault batch rows a f) bad
            (bad_list_offset offsets h.count l.2.0 at h.counts l.2.1 l.1 (subst (λ (len : ℕ). IsBadIn element_len len offsets l.2.0) h.len l.2.2))
      ]

  named_lists : (fault : BufferFault) → lists_in batch rows a ≡ Err fault → IsListsFault batch rows a fault
  unfolding lists_in lists_of
  named_lists fault is =
      elim (bind_err (buffer_in batch (a.buffer + 1)) with_list_offsets fault is) [
        | inl missing ↦ let h = short_none (slice_get batch.buffers (a.buffer + 1)) fault missing in subst (λ (f : BufferFault). IsListsFault batch rows a f) h.1 (no_list_offsets h.0)
        | inr o ↦ elim (bind_err (elements_in batch (a.node + 1) (a.buffer + 2)) (with_elements o.0) fault o.2) [
          | inl bad ↦ bad_elements fault (named_elements batch (a.node + 1) (a.buffer + 2) fault bad)
          | inr e ↦ elim (bind_err (lists_of o.0 e.0.0 element_len rows) (as_lists e.0.1) fault e.2) [
            | inl bad ↦
                named_list_offsets fault o.0 e.0.0 (short_some (slice_get batch.buffers (a.buffer + 1)) o.0 o.1) (has_elements batch (a.node + 1) (a.buffer + 2) e.0 e.1)
                (checked_err (offsets_check element_len o.0 e.0.0 rows) (record { offsets = o.0; values = e.0.0; width = element_len; rows = rows }) fault bad)
            | inr made ↦ absurd (cc (made.2))
          ]
        ]
      ]

  -- the parts of lists that are read
  record HasLists : Type 0 where
    offsets : List ℕ
    elements : List ℕ
    at : slice_get batch.buffers (a.buffer + 1) ≡ Some offsets
    has : HasElements batch (a.node + 1) (a.buffer + 2) elements
    fine : offsets_check element_len offsets elements rows ≡ Ok tt

  has_lists : (view : RowValues) → lists_in batch rows a ≡ Ok view → HasLists
  unfolding lists_in lists_of
  has_lists view is =
      let o = bind_ok (buffer_in batch (a.buffer + 1)) with_list_offsets view is in
      let e = bind_ok (elements_in batch (a.node + 1) (a.buffer + 2)) (with_elements o.0) view o.2 in
      let m = bind_ok (lists_of o.0 e.0.0 element_len rows) (as_lists e.0.1) view e.2 in
      record {
        offsets = o.0;
        elements = e.0.0;
        at = short_some (slice_get batch.buffers (a.buffer + 1)) o.0 o.1;
        has = has_elements batch (a.node + 1) (a.buffer + 2) e.0 e.1;
        fine = checked_ok (offsets_check element_len o.0 e.0.0 rows) (record { offsets = o.0; values = e.0.0; width = element_len; rows = rows }) m.0 m.1;
      }

  never_lists : (fault : BufferFault) → HasLists → IsListsFault batch rows a fault → ⊥
  never_lists fault h (no_list_offsets none) = cc (none, h.at)
  never_lists fault h (few_list_offsets offsets at few) =
      let same : offsets ≡ h.offsets = cc (at, h.at) in
      not_few element_len h.offsets h.elements rows h.fine (subst (λ (o : List ℕ). AreTooFew o rows) same few)
  never_lists fault h (bad_list_offset offsets count row at counts within enough bad) =
      let same : offsets ≡ h.offsets = cc (at, h.at) in
      let len : count * element_len ≡ length h.elements = ap (λ n. n * element_len) (same_ok (length_in batch (a.node + 1)) count h.has.count counts h.has.counts) ∙ sym h.has.len in
      none_bad element_len h.offsets h.elements rows row h.fine within (subst (λ (o : List ℕ). 4 * (rows + 1) ≤ length o) same enough)
      (subst (λ (o : List ℕ). IsBad element_len o h.elements row) same (subst (λ (n : ℕ). IsBadIn element_len n offsets row) len bad))
  never_lists fault h (bad_elements e bad) = never_elements batch (a.node + 1) (a.buffer + 2) h.elements e h.has bad

-- ---- values of any layout

named_values : (batch : BatchIn) (rows : ℕ) (a : ArrayPlace) (kind : Layout) (fault : BufferFault) → values_by batch rows a kind ≡ Err fault → IsValuesFault batch rows a kind fault
named_values batch rows a layout.Struct fault is = absurd (cc (is))
named_values batch rows a layout.Bits fault is = is
named_values batch rows a (layout.Fixed width) fault is = is
named_values batch rows a layout.Binary fault is = named_vars batch rows (a.buffer + 1) fault is
named_values batch rows a layout.Text fault is = named_vars batch rows (a.buffer + 1) fault is
named_values batch rows a layout.List fault is = named_lists batch rows a fault is

never_values : (batch : BatchIn) (rows : ℕ) (a : ArrayPlace) (kind : Layout) (values : RowValues) (fault : BufferFault) → values_by batch rows a kind ≡ Ok values → IsValuesFault batch rows a kind fault → ⊥
never_values batch rows a layout.Struct values fault is bad = bad
never_values batch rows a layout.Bits values fault is bad = never (bit_values batch rows (a.buffer + 1)) values fault is bad
never_values batch rows a (layout.Fixed width) values fault is bad = never (fixed_in batch rows (a.buffer + 1) width) values fault is bad
never_values batch rows a layout.Binary values fault is bad = never_vars batch rows (a.buffer + 1) fault (has_vars batch rows (a.buffer + 1) values is) bad
never_values batch rows a layout.Text values fault is bad = never_vars batch rows (a.buffer + 1) fault (has_vars batch rows (a.buffer + 1) values is) bad
never_values batch rows a layout.List values fault is bad = never_lists batch rows a fault (has_lists batch rows a values is) bad

-- ---- the array

module _ (batch : BatchIn) (a : ArrayPlace) where
  abbrev viewed : BitsIn → RowValues → Result ArrayView BufferFault
  viewed valid values = Ok (record { valid = valid; values = values })

  abbrev with_valid : ℕ → BitsIn → Result ArrayView BufferFault
  with_valid rows valid = values_in batch rows a >>= viewed valid

  abbrev with_rows : ℕ → Result ArrayView BufferFault
  with_rows rows = validity_in batch rows a.node a.buffer >>= with_valid rows

  named_array : (fault : BufferFault) → array_in batch a ≡ Err fault → IsArrayFault batch a fault
  unfolding array_in values_in
  named_array fault is =
      elim (bind_err (rows_in batch a) with_rows fault is) [
        | inl missing ↦ no_rows missing
        | inr r ↦ elim (bind_err (validity_in batch r.0 a.node a.buffer) (with_valid r.0) fault r.2) [
          | inl bad ↦ bad_validity r.0 r.1 (named_validity batch r.0 a.node a.buffer fault bad)
          | inr v ↦ elim (bind_err (values_in batch r.0 a) (viewed v.0) fault v.2) [
            | inl bad ↦ bad_values r.0 r.1 (named_values batch r.0 a a.layout fault bad)
            | inr made ↦ absurd (cc (made.2))
          ]
        ]
      ]

  -- the bitmap of an array that is read
  bitmap_read : (view : ArrayView) (is : IsRead batch a view) → bitmap_in batch is.rows (pos 0) a.buffer ≡ Ok view.valid
  bitmap_read view is =
      let v = valid_parts batch is.rows a.node a.buffer view.valid is.valid in
      bitmap_anyway batch is.rows v.nulls a.buffer view.valid v.bitmap

  read_values : (view : ArrayView) (is : IsRead batch a view) → values_in batch is.rows a ≡ Ok view.values
  unfolding values_in
  read_values view is = is.values

  -- THE FIRST FAULT is among the faults
  pub named : (fault : BufferFault) → array_check batch a ≡ Err fault → IsArrayFault batch a fault
  unfolding array_check
  named fault is =
      elim (bind_err (array_in batch a) (content_check a.layout) fault is) [
        | inl bad ↦ named_array fault bad
        | inr h ↦
            let r : IsRead batch a h.0 = array_is batch a h.0 h.1 in
            bad_content r.rows h.0.valid h.0.values r.counted (bitmap_read h.0 r) (read_values h.0 r) h.2
      ]

  fine_view : array_check batch a ≡ Ok tt → (view : ArrayView) × IsRead batch a view × (content_check a.layout view ≡ Ok tt)
  unfolding array_check
  fine_view is = let v = bind_ok (array_in batch a) (content_check a.layout) tt is in (v.0, array_is batch a v.0 v.1, v.2)

  -- and without one there is no fault
  pub never_fault : (fault : BufferFault) → array_check batch a ≡ Ok tt → IsArrayFault batch a fault → ⊥
  never_fault fault is (no_rows missing) = let r = (fine_view is).1 in never (rows_in batch a) r.rows fault r.counted missing
  never_fault fault is (bad_validity rows counts bad) =
      let v = fine_view is in
      let same : rows ≡ v.1.rows = same_ok (rows_in batch a) rows v.1.rows counts v.1.counted in
      never_validity batch v.1.rows a.node a.buffer v.0.valid fault v.1.valid (subst (λ (n : ℕ). IsValidityFault batch n a.node a.buffer fault) same bad)
  never_fault fault is (bad_values rows counts bad) =
      let v = fine_view is in
      let same : rows ≡ v.1.rows = same_ok (rows_in batch a) rows v.1.rows counts v.1.counted in
      never_values batch v.1.rows a a.layout v.0.values fault v.1.values (subst (λ (n : ℕ). IsValuesFault batch n a a.layout fault) same bad)
  never_fault fault is (bad_content rows valid values counts bitmap values_are bad) =
      let v = fine_view is in
      let same : rows ≡ v.1.rows = same_ok (rows_in batch a) rows v.1.rows counts v.1.counted in
      let same_valid : valid ≡ v.0.valid =
      same_ok (bitmap_in batch v.1.rows (pos 0) a.buffer) valid v.0.valid (subst (λ (n : ℕ). bitmap_in batch n (pos 0) a.buffer ≡ Ok valid) same bitmap) (bitmap_read v.0 v.1) in
      let same_values : values ≡ v.0.values =
      same_ok (values_in batch v.1.rows a) values v.0.values (subst (λ (n : ℕ). values_in batch n a ≡ Ok values) same values_are) (read_values v.0 v.1) in
      never (content_in a.layout v.0.valid v.0.values) tt fault v.2 (sym (λ i. content_in a.layout (same_valid i) (same_values i)) ∙ bad)

-- the check that finds none
pub fine_where_none : (batch : BatchIn) (a : ArrayPlace) → HasNoArrayFault batch a → array_check batch a ≡ Ok tt
fine_where_none batch a none = by_check (array_check batch a) refl
  where
    by_check : (r : Result (Unit {0}) BufferFault) → array_check batch a ≡ r → array_check batch a ≡ Ok tt
    by_check (Ok x) is = is
    by_check (Err e) is = absurd (none e (named batch a e is))

-- and a result that is the check's
pub none_when_ok : (batch : BatchIn) (a : ArrayPlace) (r : Result (Unit {0}) BufferFault) → r ≡ array_check batch a → OnOk r (HasNoArrayFault batch a)
none_when_ok batch a (Ok x) is = λ fault bad. never_fault batch a fault (sym is) bad
none_when_ok batch a (Err e) is = tt

pub named_when_err : (batch : BatchIn) (a : ArrayPlace) (r : Result (Unit {0}) BufferFault) → r ≡ array_check batch a → IfErr r (IsArrayFault batch a)
named_when_err batch a (Ok x) is = tt
named_when_err batch a (Err e) is = named batch a e (sym is)
