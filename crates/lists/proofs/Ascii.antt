-- Eight bytes whose highest bits are 0.
use Rattle.std.proofs.Common.{◌≡◌, ℕ, zero, suc, ◌+◌, ◌-◌, ◌*◌, ◌^◌, ◌<◌, ◌≤◌, List, drop, refl, sym, ap, ◌∙◌, arith, inl, inr}
use Rattle.std.specs.Prelude.{min, slice_index}
use Rattle.std.specs.Int.{bit_at}
use Rattle.std.specs.Int.Bits.{bit_and}
use Rattle.std.proofs.lemmas.Bool.{cases_lt}
use Rattle.std.proofs.lemmas.List.{get_or-drop}
use Rattle.std.proofs.lemmas.Nat.Bits.{bit_at_and, bit_at_cat_high, bit_at_cat_low, bit_at-zero}
use Rattle.byteorder.specs.Endian.{little_from, little_number}

-- a byte whose highest bit is 0
low_byte : (b : ℕ) → b < 256 → bit_at b 7 ≡ 0 → b < 128
low_byte b fits none = elim (cases_lt b 128) [
  | inl low ↦ low
  | inr high ↦ omega (arith, none, fits, high)
]

-- the highest bit of a byte of a number
high_bit : (xs : List ℕ) (i n j : ℕ) → ((k : ℕ) → slice_index xs k < 256) → j < n → bit_at (little_from i n xs) (8 * j + 7) ≡ bit_at (slice_index xs (i + j)) 7
high_bit xs i zero j fits below = absurd (omega (arith, below))
high_bit xs i (suc n) zero fits below =
    let same : slice_index xs i + 256 * little_from (suc i) n xs ≡ little_from (suc i) n xs * 2 ^ 8 + slice_index xs i = omega arith in
    let place : i + 0 ≡ i = omega arith in
    rw (same, place) (bit_at_cat_low (little_from (suc i) n xs) 8 (slice_index xs i) 7 (omega arith))
high_bit xs i (suc n) (suc j) fits below =
    let same : slice_index xs i + 256 * little_from (suc i) n xs ≡ little_from (suc i) n xs * 2 ^ 8 + slice_index xs i = omega arith in
    let place : i + suc j ≡ suc i + j = omega arith in
    let less : 8 * suc j + 7 - 8 ≡ 8 * j + 7 = omega arith in
    rw (same, place) (bit_at_cat_high (little_from (suc i) n xs) 8 (slice_index xs i) (8 * suc j + 7) (fits i) (omega arith)
    ∙ ap (bit_at (little_from (suc i) n xs)) less ∙ high_bit xs (suc i) n j fits (omega (arith, below)))

high_bits : (j : ℕ) → j < 8 → bit_at 9259542123273814144 (8 * j + 7) ≡ 1
high_bits zero below = refl
high_bits (suc zero) below = refl
high_bits (suc (suc zero)) below = refl
high_bits (suc (suc (suc zero))) below = refl
high_bits (suc (suc (suc (suc zero)))) below = refl
high_bits (suc (suc (suc (suc (suc zero))))) below = refl
high_bits (suc (suc (suc (suc (suc (suc zero)))))) below = refl
high_bits (suc (suc (suc (suc (suc (suc (suc zero))))))) below = refl
high_bits (suc (suc (suc (suc (suc (suc (suc (suc j)))))))) below = absurd (omega (arith, below))

pub eight_low : (xs : List ℕ) → ((k : ℕ) → slice_index xs k < 256) → bit_and (little_number 8 xs) 9259542123273814144 ≡ 0
    → (j : ℕ) → j < 8 → slice_index xs j < 128
eight_low xs fits none j below =
    let n = little_number 8 xs in
    let both : bit_at (bit_and n 9259542123273814144) (8 * j + 7) ≡ min (bit_at n (8 * j + 7)) (bit_at 9259542123273814144 (8 * j + 7)) =
    bit_at_and n 9259542123273814144 (8 * j + 7) in
    let zero_bit : bit_at (bit_and n 9259542123273814144) (8 * j + 7) ≡ 0 = ap (λ m. bit_at m (8 * j + 7)) none ∙ bit_at-zero (8 * j + 7) in
    let one : bit_at 9259542123273814144 (8 * j + 7) ≡ 1 = high_bits j below in
    let here : bit_at n (8 * j + 7) ≡ 0 = omega (arith, both, zero_bit, one) in
    let place : 0 + j ≡ j = omega arith in
    low_byte (slice_index xs j) (fits j) (ap (λ p. bit_at (slice_index xs p) 7) (sym place) ∙ sym (high_bit xs 0 8 j fits below) ∙ here)

-- the same of the bytes from a place on
pub low_from : (xs : List ℕ) (at : ℕ) → ((k : ℕ) → slice_index xs k < 256) → bit_and (little_number 8 (drop at xs)) 9259542123273814144 ≡ 0
    → (k : ℕ) → at ≤ k → k < at + 8 → slice_index xs k < 128
low_from xs at fits none k from below =
    let place : at + (k - at) ≡ k = omega (arith, from) in
    let there : (j : ℕ) → slice_index (drop at xs) j ≡ slice_index xs (at + j) = λ j. get_or-drop at xs j 0 in
    let low = eight_low (drop at xs) (λ j. let e = there j in let f = fits (at + j) in omega (arith, e, f)) none (k - at) (omega (arith, from, below)) in
    let e = there (k - at) ∙ ap (slice_index xs) place in
    omega (arith, low, e)
