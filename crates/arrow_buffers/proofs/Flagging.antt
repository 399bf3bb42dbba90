-- Bits that are all 1, zeros after bits, and the flags of nulls.
use Rattle.std.proofs.Common.{◌≡◌, ℕ, ◌+◌, ◌-◌, ◌*◌, ◌/◌, ◌%◌, ◌^◌, ◌<◌, ◌≤◌, true, false, List, [], ◌∷◌, ◌++◌, length, get_or, replicate, refl, sym, ap, ◌∙◌, inl, inr, arith}
use Rattle.std.proofs.lemmas.Bool.{cases_lt}
use Rattle.std.proofs.lemmas.List.{get_or_append_left, get_or_at, get_or_past, get_or-append_right, get_or-replicate, length-append, length-replicate, length_push}
use Rattle.std.proofs.lemmas.Nat.Bits.{bit_at_ones, bit_at_ones_above}
use Rattle.std.proofs.Math.Nat.{mod-eq_of_lt}
use Rattle.std.proofs.Math.Pow.{pow-lt}
use Rattle.arrow_buffers.specs.Bits.{bit_at}
use Rattle.arrow_buffers.specs.Packed.{IsPacked, PushesZeros}
use Rattle.arrow_buffers.proofs.BitPlaces.{bit_in, bit_at-in, bit_at-past, bit_at-same}

-- the lowest n bits of a byte
low-one : (n i : ℕ) → i < n → bit_in (2 ^ n - 1) i ≡ true
unfolding bit_in
low-one n i below = rw (bit_at_ones n i below) refl

low-zero : (n i : ℕ) → n ≤ i → bit_in (2 ^ n - 1) i ≡ false
unfolding bit_in
low-zero n i above = rw (bit_at_ones_above n i above) refl

-- bytes whose first count bits are 1 and whose others are 0
pub record AreOnes (count : ℕ) (bytes : List ℕ) : Type 0 where
  pub packed : IsPacked count bytes
  pub ones : (k : ℕ) → k < count → bit_at bytes k ≡ true

-- by their bytes
from-bytes : (count : ℕ) (bytes : List ℕ) → length bytes ≡ (count + 7) / 8 → ((j : ℕ) → j < count / 8 → get_or bytes j 0 ≡ 255) → get_or bytes (count / 8) 0 ≡ 2 ^ (count % 8) - 1
    → AreOnes count bytes
from-bytes count bytes len full last = record {
  packed = record {
    len = len;
    spare = λ k past.
        elim (cases_lt (count / 8) (k / 8)) [
          | inl after ↦ bit_at-past bytes k (omega arith)
          | inr within ↦
              let here : k / 8 ≡ count / 8 = omega arith in
              bit_at-in bytes k (2 ^ (count % 8) - 1) (ap (λ j. get_or bytes j 0) here ∙ last) ∙ low-zero (count % 8) (k % 8) (omega arith)
        ];
  };
  ones = λ k below.
      elim (cases_lt (k / 8) (count / 8)) [
        | inl before ↦ bit_at-in bytes k 255 (full (k / 8) before) ∙ low-one 8 (k % 8) (omega arith)
        | inr within ↦
            let here : k / 8 ≡ count / 8 = omega arith in
            bit_at-in bytes k (2 ^ (count % 8) - 1) (ap (λ j. get_or bytes j 0) here ∙ last) ∙ low-one (count % 8) (k % 8) (omega arith)
      ];
}

pub ones-whole : (count : ℕ) → count % 8 ≡ 0 → AreOnes count (replicate (count / 8) 255)
ones-whole count whole =
    let bytes : List ℕ = replicate (count / 8) 255 in
    let len = length-replicate {A = ℕ} (count / 8) 255 in
    from-bytes count bytes (omega arith) (λ j below. get_or-replicate (count / 8) j 255 0 below) (rw whole (get_or_past bytes (count / 8) 0 (omega arith)))

pub ones-part : (count : ℕ) → (count % 8 ≡ 0 → ⊥) → AreOnes count (replicate (count / 8) 255 ++ (2 ^ (count % 8) - 1) ∷ [])
ones-part count part =
    let whole : List ℕ = replicate (count / 8) 255 in
    let rest = 2 ^ (count % 8) - 1 in
    let len = length-replicate {A = ℕ} (count / 8) 255 in
    from-bytes count (whole ++ rest ∷ []) (omega (arith, length_push whole rest))
    (λ j below. get_or_append_left whole (rest ∷ []) 0 j (omega arith) ∙ get_or-replicate (count / 8) j 255 0 below)
    (get_or_at whole rest [] 0 (count / 8) len)

-- the byte of the bits that are left
pub rest-byte : (count : ℕ) → 1 * 2 ^ (count % 8) % 256 - 1 ≡ 2 ^ (count % 8) - 1
rest-byte count =
    let place : count % 8 < 8 = omega arith in
    let small : 1 * 2 ^ (count % 8) < 256 = omega (arith, pow-lt {i = count % 8} {j = 8} place) in
    let one : 1 * 2 ^ (count % 8) ≡ 2 ^ (count % 8) = omega arith in
    rw (mod-eq_of_lt {n = 1 * 2 ^ (count % 8)} {m = 256} small, one) refl

-- zeros after bits
pub zeros-after : (count all : ℕ) (old : List ℕ) → IsPacked count old → count ≤ all → PushesZeros all old (old ++ replicate ((all + 7) / 8 - length old) 0)
zeros-after count all old packed more =
    let n = (all + 7) / 8 - length old in
    let zeros : List ℕ = replicate n 0 in
    let new = old ++ zeros in
    let len = packed.len in
    let all_len = length-append old zeros in
    let zero_len = length-replicate {A = ℕ} n 0 in
    let same : (k : ℕ) → bit_at new k ≡ bit_at old k =
    λ k.
    elim (cases_lt (k / 8) (length old)) [
      | inl there ↦ bit_at-same new old k (get_or_append_left old zeros 0 (k / 8) there)
      | inr past ↦
          elim (cases_lt (k / 8) (length new)) [
            | inl within ↦
                bit_at-same new old k (get_or-append_right old zeros (length old) (k / 8) 0 refl past ∙ get_or-replicate n (k / 8 - length old) 0 0 (omega arith) ∙ sym (get_or_past old (k / 8) 0 past))
            | inr beyond ↦ bit_at-past new k beyond ∙ sym (bit_at-past old k past)
          ]
    ] in
    record {
      packed = record { len = omega arith; spare = λ k past. same k ∙ packed.spare k (omega arith) };
      bits = same;
    }
