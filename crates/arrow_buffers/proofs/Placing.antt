-- Offsets and values with more after them: what was there is as it was.
use Rattle.std.proofs.Common.{◌≡◌, ℕ, ◌+◌, ◌-◌, ◌*◌, ◌/◌, ◌%◌, ◌^◌, ◌<◌, ◌≤◌, ◌==◌, if◌then◌else◌, true, false, List, [], ◌++◌, length, drop, slice_range, sym, ap, subst, ◌∙◌, inl, inr, arith}
use Rattle.std.proofs.lemmas.Bool.{cases_lt, ne_eqb}
use Rattle.std.proofs.lemmas.List.{append-nil, drop_at, drop-append-le, take-append-le, take_all, length-drop, length-append}
use Rattle.std.proofs.Math.Nat.{add-mod, zero-mod, div-add-mod', div-le_self, le_of_mul-le-mul_right, mul-le-mul_right}
use Rattle.byteorder.specs.Endian.{little_bytes, little_number}
use Rattle.byteorder.specs.Numbers.{length-bytes_low_first, little_from-append, little_number-reads_back}
use Rattle.arrow_buffers.specs.Limits.{max_values}
use Rattle.arrow_buffers.specs.Offsets.{offset_at, offset_bytes, offset_before, is_fine, is_fine_at, span_at}
use Rattle.arrow_buffers.specs.Building.{HasSpans}
use Rattle.arrow_buffers.specs.Columns.{ended}
use Rattle.arrow_buffers.proofs.EachBelow.{all_below-at, all_below-each}
use Rattle.arrow_buffers.proofs.Spans.{IsFine, AllFine, fine-parts, fine-from, span-among}

-- an offset that is there, and the one that comes after
pub offset_at-append : (offsets more : List ℕ) (place : ℕ) → 4 * (place + 1) ≤ length offsets → offset_at (offsets ++ more) place ≡ offset_at offsets place
unfolding offset_at
offset_at-append offsets more place there =
    rw (drop-append-le (4 * place) offsets more (omega arith)) (little_from-append 4 (drop (4 * place) offsets) more (rw (length-drop (4 * place) offsets) (omega arith)))

pub read-back : (n x : ℕ) → x < 256 ^ n → little_number n (little_bytes n x) ≡ x
read-back n x fits =
    ap (little_number n) (sym (append-nil (little_bytes n x))) ∙ little_number-reads_back n x [] fits

length-offset_bytes : (x : ℕ) → length (offset_bytes x) ≡ 4
unfolding offset_bytes
length-offset_bytes x = length-bytes_low_first 0 4 x

pub offset_at-end : (offsets : List ℕ) (place x : ℕ) → length offsets ≡ 4 * place → x < 2 ^ 32 → offset_at (offsets ++ offset_bytes x) place ≡ x
unfolding offset_at offset_bytes
offset_at-end offsets place x len fits =
    ap (little_number 4) (drop_at offsets (little_bytes 4 x) (4 * place) len) ∙ read-back 4 x fits

pub length-ended : (element : ℕ) (offsets values : List ℕ) → length (ended element offsets values) ≡ length offsets + 4
length-ended element offsets values =
    let at = length values / element in
    omega (arith, length-append offsets (offset_bytes at), length-offset_bytes at)

-- a part of the values that is there, and the one that comes after
pub slice_range-append : (values more : List ℕ) (a b : ℕ) → a ≤ b → b ≤ length values → slice_range (values ++ more) a b ≡ slice_range values a b
slice_range-append values more a b order within =
    rw (drop-append-le a values more (omega arith)) (take-append-le (b - a) (drop a values) more (rw (length-drop a values) (omega arith)))

pub slice_range-end : (values more : List ℕ) (a b : ℕ) → a ≡ length values → b ≡ length values + length more → slice_range (values ++ more) a b ≡ more
slice_range-end values more a b from to =
    rw (drop_at values more a (sym from)) (take_all (b - a) more (omega arith))

-- the last offset of values that are whole elements
pub whole-times : (element len : ℕ) → len % element ≡ 0 → len / element * element ≡ len
whole-times element len whole = let split = div-add-mod' len element in omega arith

pub whole-more : (element len more : ℕ) → len % element ≡ 0 → more % element ≡ 0 → (len + more) % element ≡ 0
whole-more element len more whole part = rw (add-mod len more element, whole, part) (zero-mod element)

-- the offsets of one more row
pub record IsNext (element rows : ℕ) (offsets values part : List ℕ) : Type 0 where
  pub now : HasSpans element (rows + 1) (ended element offsets values) (values ++ part)
  pub before : (k : ℕ) → k < rows → span_at element (ended element (ended element offsets values) (values ++ part)) (values ++ part) k ≡ span_at element (ended element offsets values) values k
  pub there : span_at element (ended element (ended element offsets values) (values ++ part)) (values ++ part) rows ≡ part

-- an offset known by its value
fine-at : (c p b o width len : ℕ) → c ≡ b → p ≡ o → IsFine b o width len → is_fine c p width len ≡ true
fine-at c p b o width len before at fine = rw (before, at) (fine-from b o width len fine)

-- an offset that is as it was, before more values
fine-as : (b c o p width len more : ℕ) → c ≡ b → p ≡ o → len ≤ more → is_fine b o width len ≡ true → is_fine c p width more ≡ true
fine-as b c o p width len more before at within fine =
    let was = fine-parts b o width len fine in
    let reach = was.within in
    fine-at c p b o width more before at (record { fits = was.fits; order = was.order; within = omega arith })

pub spans-next : (element rows : ℕ) (offsets values part : List ℕ) → 1 ≤ element → HasSpans element rows offsets values → length part % element ≡ 0 → length values + length part < max_values
    → IsNext element rows offsets values part
spans-next element rows offsets values part some has whole room =
    let old = ended element offsets values in
    let all = values ++ part in
    let new = ended element old all in
    let q = length values / element in
    let r = length all / element in
    let was_len : length offsets ≡ 4 * rows = has.offsets_len in
    let old_len : length old ≡ 4 * (rows + 1) = omega (arith, length-ended element offsets values) in
    let all_len : length all ≡ length values + length part = length-append values part in
    let all_whole : length all % element ≡ 0 = rw all_len (whole-more element (length values) (length part) has.whole whole) in
    let q_times : q * element ≡ length values = whole-times element (length values) has.whole in
    let r_times : r * element ≡ length all = whole-times element (length all) all_whole in
    let order : q ≤ r = le_of_mul-le-mul_right {m = q} {n = r} {k = element} (omega arith) some in
    let small : r ≤ length all = div-le_self (length all) element in
    let keep : (k : ℕ) → k ≤ rows → offset_at new k ≡ offset_at old k = λ k below. offset_at-append old (offset_bytes r) k (omega arith) in
    let at_rows : offset_at old rows ≡ q = offset_at-end offsets rows q was_len (omega arith) in
    let at_next : offset_at new (rows + 1) ≡ r = offset_at-end old (rows + 1) r old_len (omega arith) in
    let first : (rows + 1 == 0) ≡ false = ne_eqb (rows + 1) 0 (omega arith) in
    let back : rows + 1 - 1 ≡ rows = omega arith in
    let before_next : offset_before new (rows + 1) ≡ q = rw (first, back) (keep rows (omega arith) ∙ at_rows) in
    let last : is_fine_at element new all (rows + 1) ≡ true =
    fine-at (offset_before new (rows + 1)) (offset_at new (rows + 1)) q r element (length all) before_next at_next (record { fits = omega arith; order = order; within = omega arith }) in
    let fine : (i : ℕ) → i < rows + 1 + 1 → is_fine_at element new all i ≡ true =
    λ i below.
    elim (cases_lt i (rows + 1)) [
      | inl there ↦ fine-as (offset_before old i) (offset_before new i) (offset_at old i) (offset_at new i) element (length values) (length all)
          (ap (λ o. if i == 0 then 0 else o) (keep (i - 1) (omega arith))) (keep i (omega arith)) (omega arith) (all_below-at (is_fine_at element old values) (rows + 1) i has.fine there)
      | inr past ↦ let e : rows + 1 ≡ i = omega arith in subst (λ (j : ℕ). is_fine_at element new all j ≡ true) e last
    ] in
    let old_fine : AllFine element old values rows = record { enough = omega arith; fine = has.fine } in
    record {
      now = record { offsets_len = old_len; whole = all_whole; fits = omega arith; fine = all_below-each (is_fine_at element new all) (rows + 1 + 1) fine };
      before = λ k below.
          let span = span-among element old values rows k below old_fine in
          let a = offset_at old k * element in
          let b = offset_at old (k + 1) * element in
          let from : offset_at new k * element ≡ a = ap (λ o. o * element) (keep k (omega arith)) in
          let to : offset_at new (k + 1) * element ≡ b = ap (λ o. o * element) (keep (k + 1) (omega arith)) in
          rw (from, to) (slice_range-append values part a b (mul-le-mul_right element span.order) span.within);
      there =
          let from : offset_at new rows * element ≡ length values = ap (λ o. o * element) (keep rows (omega arith) ∙ at_rows) ∙ q_times in
          let to : offset_at new (rows + 1) * element ≡ length values + length part = ap (λ o. o * element) at_next ∙ r_times ∙ all_len in
          slice_range-end values part (offset_at new rows * element) (offset_at new (rows + 1) * element) from to;
    }
