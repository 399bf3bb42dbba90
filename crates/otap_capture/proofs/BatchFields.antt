-- What a loop over the fields of a batch keeps.
use Rattle.std.proofs.Common.{◌≡◌, ℕ, ◌+◌, ◌<◌, ◌≤◌, true, false, Bool, cond, List, ◌∷◌, length, map, replicate, set, pos, refl, sym, ap, ◌∙◌, arith, inl, inr, ◌⊎◌}
use Rattle.std.specs.Prelude.{nat_eq, is_some, fold, ◌||◌, ◌==◌, not, slice_index_or, ℤ}
use Rattle.std.proofs.lemmas.Bool.{cases_eq, cases_Bool, ne_eqb}
use Rattle.std.proofs.lemmas.List.{get_or-set_same, get_or-set_other}
use Rattle.std.proofs.Math.Bool.{or-true}
use Rattle.lists.proofs.Truths.{or_false}
use Rattle.lists.proofs.Parts.{same_all_over}
use Rattle.otlp_wire.specs.Wire as wire
use Rattle.otlp_wire.specs.Wire.{FieldValue, Entry}
use Rattle.otlp_wire.specs.Fields.{fields_of, end_of}
use Rattle.otlp_messages.specs.declared.messages.Message.TheVariants.{BatchArrowRecords}
use Rattle.otlp_messages.specs.Limits.{mark_limit}
use Rattle.otlp_messages.specs.Table.{kind_of, mark_of}
use Rattle.otlp_messages.specs.Fine.{FineValue}
use Rattle.otlp_messages.specs.Rows.{only, at, int64_in, parts_of, said}
use Rattle.otlp_messages.proofs.Steps.{checked_none, checked_more, first_occurs, value_stands, twice_stands, Checked}
use Rattle.otap_capture.specs.declared.batch.BatchRefusal.{BatchRefusal}
use Rattle.otap_capture.specs.declared.batch.Scan.{Scan}
use Rattle.otap_capture.specs.Batch.{defect_of, payload_in, payloads_in, RefusesBatch}
use Rattle.otap_capture.specs.BatchScanning.{SaysMore, FieldFaults, part_in, numbered_part}

-- the fields before the rest are looked at
pub record Scanned (bytes : List ℕ) (scan : Scan) (rest : List ℕ) : Type 0 where
  pub marks : List Bool
  pub checked : Checked BatchArrowRecords 0 bytes marks rest
  pub first : slice_index_or marks 1 false ≡ scan.seen
  pub id : fold int64_in scan.id (only 1 (fields_of rest)) ≡ said 1 int64_in (pos 0) bytes
  pub count : scan.count + length (payloads_in rest) ≡ length (payloads_in bytes)

-- the id alone has a mark
id_mark : (n : ℕ) → n ≡ 1 → mark_of BatchArrowRecords n ≡ 1
id_mark n is = rw is refl

no_mark : (n : ℕ) → (n ≡ 1 → ⊥) → mark_of BatchArrowRecords n ≡ 0
no_mark n other = by_number (cases_Bool (nat_eq n 2))
  where
    by_number : (nat_eq n 2 ≡ true) ⊎ (nat_eq n 2 ≡ false) → mark_of BatchArrowRecords n ≡ 0
    by_number (inl two) = rw (ne_eqb n 1 other, two, mark_of) refl
    by_number (inr not_two) = rw (ne_eqb n 1 other, not_two, mark_of) refl

pub scanned_none : (bytes : List ℕ) (scan : Scan) → scan.seen ≡ false → scan.id ≡ pos 0 → scan.count ≡ 0 → Scanned bytes scan bytes
scanned_none bytes scan seen id count = record {
  marks = replicate mark_limit false;
  checked = checked_none BatchArrowRecords 0 bytes (replicate mark_limit false) refl (same_all_over mark_limit false);
  first = sym seen;
  id = rw id refl;
  count = omega (arith, count);
}

-- the first field of a list, where its values are folded
fold_first : (x : ℤ) (f : Entry) (fs : List Entry) → fold int64_in x (only 1 (f ∷ fs)) ≡ fold int64_in (at 1 int64_in x f) (only 1 fs)
fold_first x f fs = by_number (cases_Bool (nat_eq f.number 1))
  where
    by_number : (nat_eq f.number 1 ≡ true) ⊎ (nat_eq f.number 1 ≡ false) → fold int64_in x (only 1 (f ∷ fs)) ≡ fold int64_in (at 1 int64_in x f) (only 1 fs)
    by_number (inl is) = rw (only, at, is) refl
    by_number (inr is) = rw (only, at, is) refl

part_first : (v : FieldValue) (vs : List FieldValue) → length (map payload_in (parts_of (v ∷ vs))) ≡ cond (is_some (part_in v)) 1 0 + length (map payload_in (parts_of vs))
part_first (wire.Varint n) vs = omega arith
part_first (wire.Fixed64 n) vs = omega arith
part_first (wire.Fixed32 n) vs = omega arith
part_first (wire.Bytes part) vs = omega arith

count_first : (f : Entry) (fs : List Entry)
    → length (map payload_in (parts_of (only 2 (f ∷ fs)))) ≡ cond (is_some (numbered_part 2 f)) 1 0 + length (map payload_in (parts_of (only 2 fs)))
count_first f fs = by_number (cases_Bool (nat_eq f.number 2))
  where
    by_number : (nat_eq f.number 2 ≡ true) ⊎ (nat_eq f.number 2 ≡ false)
        → length (map payload_in (parts_of (only 2 (f ∷ fs)))) ≡ cond (is_some (numbered_part 2 f)) 1 0 + length (map payload_in (parts_of (only 2 fs)))
    by_number (inl is) = rw (only, numbered_part, is) (part_first f.value (only 2 fs))
    by_number (inr is) = rw (only, numbered_part, is) (omega arith)

pub one_at_most : (b : Bool) → cond b 1 0 ≤ 1
one_at_most true = omega arith
one_at_most false = omega arith

-- the marks after one more field
marks_more : (marks : List Bool) (seen : Bool) (n : ℕ) → slice_index_or marks 1 false ≡ seen → 1 < length marks
    → slice_index_or (set marks (mark_of BatchArrowRecords n) (not (mark_of BatchArrowRecords n == 0))) 1 false ≡ (seen || n == 1)
marks_more marks seen n first room = elim (cases_eq n 1) [
  | inl one ↦ rw (one, mark_of) (get_or-set_same marks 1 true false room ∙ sym (or-true seen))
  | inr other ↦ rw (no_mark n other, ne_eqb n 1 other) (get_or-set_other marks 0 1 false false (λ e. omega (arith, e)) ∙ first ∙ sym (or_false seen))
]

fresh_mark : (marks : List Bool) (seen : Bool) (n : ℕ) → slice_index_or marks 1 false ≡ seen → slice_index_or marks 0 false ≡ false → (n ≡ 1 → seen ≡ false)
    → slice_index_or marks (mark_of BatchArrowRecords n) false ≡ false
fresh_mark marks seen n first none once = elim (cases_eq n 1) [
  | inl one ↦ rw (id_mark n one) (first ∙ once one)
  | inr other ↦ rw (no_mark n other) none
]

few_marks : (n : ℕ) → mark_of BatchArrowRecords n < mark_limit
few_marks n = elim (cases_eq n 1) [
  | inl one ↦ rw (id_mark n one) (omega arith)
  | inr other ↦ rw (no_mark n other) (omega arith)
]

pub scanned_more : (bytes rest new : List ℕ) (old next : Scan) (f : Entry) → Scanned bytes old rest → fields_of rest ≡ f ∷ fields_of new → end_of rest ≡ end_of new
    → FineValue (kind_of BatchArrowRecords f.number) 0 f.value → SaysMore old next f → Scanned bytes next new
scanned_more bytes rest new old next f h first end fine more =
    let size = h.checked.size in
    let fresh = fresh_mark h.marks old.seen f.number h.first h.checked.none more.once in
    let counted = count_first f (fields_of new) in
    let before : old.count + length (map payload_in (parts_of (only 2 (f ∷ fields_of new)))) ≡ length (payloads_in bytes) = rw first at h.count in
    record {
      marks = set h.marks (mark_of BatchArrowRecords f.number) (not (mark_of BatchArrowRecords f.number == 0));
      checked = checked_more BatchArrowRecords 0 bytes rest new h.marks f h.checked first end (few_marks f.number) fresh fine;
      first = marks_more h.marks old.seen f.number h.first (omega (arith, size)) ∙ sym more.seen;
      id = rw more.id (sym (fold_first old.id f (fields_of new)) ∙ ap (λ fs. fold int64_in old.id (only 1 fs)) (sym first) ∙ h.id);
      count = omega (arith, more.count, counted, before);
    }

-- what is wrong with a field is wrong with the batch
pub scanned_stands : (bytes rest new : List ℕ) (scan : Scan) (f : Entry) (refusal : BatchRefusal) → Scanned bytes scan rest → fields_of rest ≡ f ∷ fields_of new
    → FieldFaults scan.seen f refusal → RefusesBatch bytes refusal
scanned_stands bytes rest new scan f refusal h first (inl fault) =
    value_stands BatchArrowRecords 0 bytes f.number f.value (defect_of refusal) (first_occurs _ _ _ _ _ _ f h.checked first) fault
scanned_stands bytes rest new scan f refusal h first (inr again) =
    rw again.0 (twice_stands BatchArrowRecords 0 bytes rest new h.marks f h.checked first (rw (id_mark f.number again.2) (h.first ∙ again.1)))
