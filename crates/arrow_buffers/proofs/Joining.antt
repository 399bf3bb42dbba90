-- The values of all rows, joined.
use Rattle.std.proofs.Common.{◌≡◌, ℕ, zero, suc, ◌+◌, ◌-◌, ◌*◌, ◌<◌, ◌≤◌, List, [], ◌∷◌, ◌++◌, take, drop, slice_range, IsOk, refl, sym, ap, ◌∙◌, inl, inr, arith}
use Rattle.std.specs.List.{flat_map, range_with_len}
use Rattle.std.proofs.lemmas.Grind.{flat_map-append}
use Rattle.std.proofs.lemmas.List.{append-nil, drop-drop, map-id}
use Rattle.std.proofs.lemmas.List.FromFn.{map-range_with_len_more}
use Rattle.std.proofs.Math.Nat.{mul-le-mul_right}
use Rattle.std.proofs.Math.Seq.{take-add}
use Rattle.arrow_buffers.specs.Fixed.{row_part}
use Rattle.arrow_buffers.specs.Offsets.{offset_at, offsets_check, span_at}
use Rattle.arrow_buffers.proofs.Spans.{check-cases}
use Rattle.arrow_buffers.proofs.Faults.{fine-offsets}

-- one more number
pub range-more : (n : ℕ) → range_with_len 0 (n + 1) ≡ range_with_len 0 n ++ n ∷ []
range-more n =
    sym (map-id (range_with_len 0 (n + 1))) ∙ map-range_with_len_more (λ (k : ℕ). k) 0 n n (omega arith) ∙ ap (λ ks. ks ++ n ∷ []) (map-id (range_with_len 0 n))

joined-more : (f : ℕ → List ℕ) (n : ℕ) → flat_map f (range_with_len 0 (n + 1)) ≡ flat_map f (range_with_len 0 n) ++ f n
joined-more f n =
    ap (flat_map f) (range-more n) ∙ flat_map-append f (range_with_len 0 n) (n ∷ []) ∙ ap (λ xs. flat_map f (range_with_len 0 n) ++ xs) (append-nil (f n))

-- parts that rise meet
slices-meet : (xs : List ℕ) (a b c : ℕ) → a ≤ b → b ≤ c → slice_range xs a b ++ slice_range xs b c ≡ slice_range xs a c
slices-meet xs a b c low high =
    let whole : b - a + (c - b) ≡ c - a = omega arith in
    let mid : a + (b - a) ≡ b = omega arith in
    let next : drop (b - a) (drop a xs) ≡ drop b xs = drop-drop (b - a) a xs ∙ ap (λ k. drop k xs) mid in
    ap (λ ys. take (b - a) (drop a xs) ++ take (c - b) ys) (sym next) ∙ sym (take-add (b - a) (c - b) (drop a xs)) ∙ ap (λ k. take k (drop a xs)) whole

-- what each step of a rising walk gives, joined
slices-join : (xs : List ℕ) (at : ℕ → ℕ) (n : ℕ) → ((k : ℕ) → k < n → at k ≤ at (k + 1)) → (at 0 ≤ at n) × (flat_map (λ k. slice_range xs (at k) (at (k + 1))) (range_with_len 0 n) ≡ slice_range xs (at 0) (at n))
slices-join xs at zero rising = (omega arith, let none : at 0 - at 0 ≡ 0 = omega arith in rw none refl)
slices-join xs at (suc n) rising =
    let next : n + 1 ≡ suc n = omega arith in
    let step : at n ≤ at (suc n) = rw next at (rising n (omega arith)) in
    let before = slices-join xs at n (λ k below. rising k (omega arith)) in
    let low = before.0 in
    let f : ℕ → List ℕ = λ k. slice_range xs (at k) (at (k + 1)) in (
      omega arith,
      ap (λ m. flat_map f (range_with_len 0 m)) (sym next) ∙ joined-more f n ∙ ap (λ ys. ys ++ slice_range xs (at n) (at (n + 1))) before.1
          ∙ ap (λ m. slice_range xs (at 0) (at n) ++ slice_range xs (at n) (at m)) next ∙ slices-meet xs (at 0) (at n) (at (suc n)) low step,
    )

pub spans-join : (width : ℕ) (offsets values : List ℕ) (rows : ℕ) → IsOk (offsets_check width offsets values rows)
    → flat_map (span_at width offsets values) (range_with_len 0 rows) ≡ slice_range values (offset_at offsets 0 * width) (offset_at offsets rows * width)
spans-join width offsets values rows ok =
    let at : ℕ → ℕ = λ k. offset_at offsets k * width in
    (slices-join values at rows (λ k below.
    elim (check-cases width offsets values rows ok) [
      | inl none ↦ absurd (omega (arith, none.0))
      | inr all ↦ mul-le-mul_right width ((fine-offsets width offsets values rows all).rising k below)
    ])).1

pub parts-join : (width : ℕ) (bytes : List ℕ) (rows : ℕ) → flat_map (row_part width bytes) (range_with_len 0 rows) ≡ take (rows * width) bytes
parts-join width bytes zero = let none : 0 * width ≡ 0 = omega arith in rw none refl
parts-join width bytes (suc n) =
    let next : n + 1 ≡ suc n = omega arith in
    let len : n * width + width ≡ suc n * width = omega arith in
    let f : ℕ → List ℕ = row_part width bytes in
    ap (λ m. flat_map f (range_with_len 0 m)) (sym next) ∙ joined-more f n ∙ ap (λ ys. ys ++ f n) (parts-join width bytes n) ∙ sym (take-add (n * width) width bytes) ∙ ap (λ k. take k bytes) len
