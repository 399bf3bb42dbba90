-- Fractions of floats, and the position of their highest bit.
use Rattle.std.proofs.Common.{◌≡◌, ℕ, zero, suc, ◌+◌, ◌-◌, ◌*◌, ◌%◌, ◌^◌, ◌<◌, ◌≤◌, refl, ap, ◌∙◌, arith, inl, inr}
use Rattle.std.proofs.Math.Nat.{mul-le-mul_right, mod-eq_of_lt}
use Rattle.std.proofs.Math.Pow.{pow_mono}
use Rattle.std.proofs.lemmas.Bool.{cases_lt, le-leb, lt-leb, ne_eqb, lt-ltb, le-ltb}
use Rattle.std.proofs.lemmas.Nat.{pow-add, pow_pos}
use Rattle.cbor_values.specs.Floats.{double, highest_bit, widened}

pub aligned_below : (fraction bits : ℕ) → bits ≤ 52 → fraction < 2 ^ bits → fraction * 2 ^ (52 - bits) < 2 ^ 52
aligned_below fraction bits few fits =
    let parts : 52 ≡ bits + (52 - bits) = omega arith in
    let whole : 2 ^ 52 ≡ 2 ^ bits * 2 ^ (52 - bits) = ap (λ (n : ℕ). 2 ^ n) parts ∙ pow-add 2 bits (52 - bits) in
    let next : suc fraction * 2 ^ (52 - bits) ≤ 2 ^ bits * 2 ^ (52 - bits) = mul-le-mul_right (2 ^ (52 - bits)) (omega arith) in
    let some = pow_pos (52 - bits) in
    omega (arith, whole, next, some)

-- a shift that loses nothing
pub aligned_is : (fraction bits : ℕ) → bits ≤ 52 → fraction < 2 ^ bits
    → fraction * 2 ^ (52 - bits) % 18446744073709551616 ≡ fraction * 2 ^ (52 - bits)
aligned_is fraction bits few fits = mod-eq_of_lt (let below = aligned_below fraction bits few fits in omega (arith, below))

pub exponent_below : (i j n : ℕ) → 2 ^ i ≤ n → n < 2 ^ j → i < j
exponent_below i j n low high = elim (cases_lt i j) [
  | inl below ↦ below
  | inr above ↦ absurd (let more : 2 ^ j ≤ 2 ^ i = pow_mono above in omega arith)
]

pub highest_is : (width n top : ℕ) → 2 ^ top ≤ n → n < 2 * 2 ^ top → n < 2 ^ width → highest_bit width n ≡ top
unfolding highest_bit
highest_is zero n top low high fits = absurd (let some = pow_pos top in omega (arith, some))
highest_is (suc width) n top low high fits = elim (cases_lt n (2 ^ width)) [
  | inl below ↦ rw (lt-leb (2 ^ width) n below) (highest_is width n top low high below)
  | inr above ↦
      let sum : suc top ≡ 1 + top = omega arith in
      let next : 2 ^ suc top ≡ 2 * 2 ^ top = ap (λ (k : ℕ). 2 ^ k) sum ∙ pow-add 2 1 top in
      let under = exponent_below top (suc width) n low fits in
      let over = exponent_below width (suc top) n above (omega (arith, next)) in
      rw (le-leb (2 ^ width) n above) (omega (arith, under, over))
]

-- the power of a shift
pub power_is : (n : ℕ) → n ≤ 52 → 1 * 2 ^ n % 18446744073709551616 ≡ 2 ^ n
power_is n few =
    let below : 2 ^ n ≤ 2 ^ 52 = pow_mono few in
    let one : 1 * 2 ^ n ≡ 2 ^ n = omega arith in
    rw one (mod-eq_of_lt (omega (arith, below)))

pub widened_subnormal : (greatest w b sign exponent fraction top : ℕ) → (exponent ≡ greatest → ⊥) → exponent ≤ 0
    → 0 < fraction → 2 ^ top ≤ fraction → fraction < 2 * 2 ^ top → fraction < 2 ^ w
    → widened greatest w b sign exponent fraction ≡ double sign (top + 1024 - b - w) ((fraction - 2 ^ top) * 2 ^ (52 - top))
unfolding widened
widened_subnormal greatest w b sign exponent fraction top other none some low high fits =
    rw (ne_eqb exponent greatest other, le-ltb 0 exponent none, lt-ltb 0 fraction some, highest_is w fraction top low high fits) refl

-- the width of an argument
pub width_small : (info : ℕ) → info < 28 → 1 * 2 ^ (info - 24) % 18446744073709551616 ≤ 8
width_small info few =
    let short : info - 24 ≤ 3 = omega arith in
    let power = power_is (info - 24) (omega arith) in
    let below : 2 ^ (info - 24) ≤ 2 ^ 3 = pow_mono short in
    omega (arith, power, below)

pub width_is : (info : ℕ) → info < 28 → 1 * 2 ^ (info - 24) % 18446744073709551616 ≡ 2 ^ (info - 24)
width_is info few = power_is (info - 24) (omega arith)
