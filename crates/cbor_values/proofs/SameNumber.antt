-- A narrow float and its double are the same number.
use Rattle.std.proofs.Common.{◌≡◌, ℕ, zero, suc, ◌+◌, ◌-◌, ◌*◌, ◌/◌, ◌%◌, ◌^◌, ◌<◌, ◌≤◌, refl, sym, ap, ◌∙◌, arith, inl, inr}
use Rattle.std.proofs.Math.Nat.{add-mul, mul_assoc, mul_comm}
use Rattle.std.proofs.lemmas.Bool.{cases_lt, cases_eq, le-leb, lt-leb, lt-ltb, eq-eqb, ne_eqb}
use Rattle.std.proofs.lemmas.Nat.{pow-add}
use Rattle.cbor_values.specs.Floats.{double, highest_bit, widened, of_half, of_single, magnitude, number_of_half, number_of_single, number_of_double}
use Rattle.cbor_values.proofs.Fractions.{aligned_below}

-- a double that is the number of a float with w bits of fraction and the bias b
pub record IsSame (w b sign exponent fraction bits : ℕ) : Type 0 where
  pub e : ℕ
  pub f : ℕ
  pub is : bits ≡ double sign e f
  pub e_fits : e < 2047
  pub f_fits : f < 2 ^ 52
  pub same : magnitude 52 e f ≡ magnitude w exponent fraction * 2 ^ (1075 - b - w)

swap : (m a b c : ℕ) → (m * a) * (b * c) ≡ (m * b) * (a * c)
swap m a b c =
    mul_assoc m a (b * c) ∙ ap (λ (n : ℕ). m * n) (sym (mul_assoc a b c) ∙ ap (λ (n : ℕ). n * c) (mul_comm a b) ∙ mul_assoc b a c)
    ∙ sym (mul_assoc m b (a * c))

-- a fraction with its highest bit, as one of 52 bits
whole_fraction : (w f : ℕ) → w ≤ 52 → 2 ^ 52 + f * 2 ^ (52 - w) ≡ (2 ^ w + f) * 2 ^ (52 - w)
whole_fraction w f few =
    let parts : 52 ≡ w + (52 - w) = omega arith in
    let whole : 2 ^ 52 ≡ 2 ^ w * 2 ^ (52 - w) = ap (λ (n : ℕ). 2 ^ n) parts ∙ pow-add 2 w (52 - w) in
    ap (λ (n : ℕ). n + f * 2 ^ (52 - w)) whole ∙ sym (add-mul (2 ^ w) f (2 ^ (52 - w)))

power_parts : (i j n : ℕ) → i + j ≡ n → 2 ^ i * 2 ^ j ≡ 2 ^ n
power_parts i j n is = sym (pow-add 2 i j) ∙ ap (λ (k : ℕ). 2 ^ k) is

normal_same : (w b e f : ℕ) → w ≤ 52 → w + b < 1024 → 0 < e
    → magnitude 52 (e + 1023 - b) (f * 2 ^ (52 - w)) ≡ magnitude w e f * 2 ^ (1075 - b - w)
normal_same w b e f few small some =
    let m = 2 ^ w + f in
    let powers : 2 ^ (e + 1023 - b - 1) ≡ 2 ^ (e - 1) * 2 ^ (1023 - b) = sym (power_parts (e - 1) (1023 - b) (e + 1023 - b - 1) (omega arith)) in
    let units : 2 ^ (52 - w) * 2 ^ (1023 - b) ≡ 2 ^ (1075 - b - w) = power_parts (52 - w) (1023 - b) (1075 - b - w) (omega arith) in
    rw (ne_eqb e 0 (λ is. omega arith), ne_eqb (e + 1023 - b) 0 (λ is. omega arith), whole_fraction w f few, powers)
    (swap m (2 ^ (52 - w)) (2 ^ (e - 1)) (2 ^ (1023 - b)) ∙ ap (λ (n : ℕ). m * 2 ^ (e - 1) * n) units)

-- the position of the highest bit
pub record IsHighest (width n top : ℕ) : Type 0 where
  pub low : 2 ^ top ≤ n
  pub high : n < 2 * 2 ^ top
  pub below : top < width

highest_found : (width n : ℕ) → 0 < n → n < 2 ^ width → IsHighest width n (highest_bit width n)
unfolding highest_bit
highest_found zero n some fits = absurd (omega arith)
highest_found (suc width) n some fits = elim (cases_lt n (2 ^ width)) [
  | inl below ↦ rw (lt-leb (2 ^ width) n below)
      (let found = highest_found width n some below in record { low = found.low; high = found.high; below = omega (arith, found.below) })
  | inr above ↦
      let sum : suc width ≡ 1 + width = omega arith in
      let next : 2 ^ suc width ≡ 2 * 2 ^ width = ap (λ (k : ℕ). 2 ^ k) sum ∙ pow-add 2 1 width in
      rw (le-leb (2 ^ width) n above) (record { low = above; high = omega (arith, next); below = omega arith })
]

subnormal_same : (w b f top : ℕ) → w ≤ 52 → w + b < 1024 → IsHighest w f top
    → magnitude 52 (top + 1024 - b - w) ((f - 2 ^ top) * 2 ^ (52 - top)) ≡ f * 2 ^ (1075 - b - w)
subnormal_same w b f top few small h =
    let under = h.below in
    let low = h.low in
    let back : 2 ^ top + (f - 2 ^ top) ≡ f = omega arith in
    let units : 2 ^ (52 - top) * 2 ^ (top + 1024 - b - w - 1) ≡ 2 ^ (1075 - b - w) = power_parts (52 - top) (top + 1024 - b - w - 1) (1075 - b - w) (omega arith) in
    rw (ne_eqb (top + 1024 - b - w) 0 (λ is. omega arith), whole_fraction top (f - 2 ^ top) (omega arith), back)
    (mul_assoc f (2 ^ (52 - top)) (2 ^ (top + 1024 - b - w - 1)) ∙ ap (λ (n : ℕ). f * n) units)

is_same : (greatest w b sign e f : ℕ) → w ≤ 52 → w + b < 1024 → greatest ≤ b + 1024 → (e ≡ greatest → ⊥) → e ≤ greatest → f < 2 ^ w
    → IsSame w b sign e f (widened greatest w b sign e f)
unfolding widened
is_same greatest w b sign zero zero few small range other fits short =
    rw (ne_eqb 0 greatest other) (record { e = 0; f = 0; is = refl; e_fits = omega arith; f_fits = omega arith; same = omega arith })
is_same greatest w b sign zero (suc f) few small range other fits short =
    let top = highest_bit w (suc f) in
    let found = highest_found w (suc f) (omega arith) short in
    let under = found.below in
    let low = found.low in
    let high = found.high in
    rw (ne_eqb 0 greatest other, lt-ltb 0 (suc f) (omega arith)) (record {
      e = top + 1024 - b - w;
      f = (suc f - 2 ^ top) * 2 ^ (52 - top);
      is = refl;
      e_fits = omega arith;
      f_fits = aligned_below (suc f - 2 ^ top) top (omega arith) (omega arith);
      same = subnormal_same w b (suc f) top few small found;
    })
is_same greatest w b sign (suc e) f few small range other fits short =
    rw (ne_eqb (suc e) greatest other, lt-ltb 0 (suc e) (omega arith)) (record {
      e = suc e + 1023 - b;
      f = f * 2 ^ (52 - w);
      is = refl;
      e_fits = omega arith;
      f_fits = aligned_below f w few short;
      same = normal_same w b (suc e) f few small (omega arith);
    })

-- ---- the sign

-- the fields of a double with that sign
pub record HasSign (sign bits : ℕ) : Type 0 where
  pub e : ℕ
  pub f : ℕ
  pub is : bits ≡ double sign e f
  pub e_fits : e < 2048
  pub f_fits : f < 2 ^ 52

special_sign : (greatest w b sign e f : ℕ) → w ≤ 52 → f < 2 ^ w → e ≡ greatest → HasSign sign (widened greatest w b sign e f)
unfolding widened
special_sign greatest w b sign e f few short is =
    rw (eq-eqb e greatest is) (record { e = 2047; f = f * 2 ^ (52 - w); is = refl; e_fits = omega arith; f_fits = aligned_below f w few short })

has_sign : (greatest w b sign e f : ℕ) → w ≤ 52 → w + b < 1024 → greatest ≤ b + 1024 → e ≤ greatest → f < 2 ^ w
    → HasSign sign (widened greatest w b sign e f)
has_sign greatest w b sign e f few small range fits short = elim (cases_eq e greatest) [
  | inl is ↦ special_sign greatest w b sign e f few short is
  | inr other ↦
      let s = is_same greatest w b sign e f few small range other fits short in
      let below = s.e_fits in
      record { e = s.e; f = s.f; is = s.is; e_fits = omega arith; f_fits = s.f_fits }
]

-- ---- of the bits

pub same_half : (bits : ℕ) → bits < 2 ^ 16 → bits / 2 ^ 10 % 2 ^ 5 < 31 → number_of_double (of_half bits) ≡ number_of_half bits * 2 ^ 1050
same_half bits fits finite =
    let s = is_same 31 10 15 (bits / 2 ^ 15) (bits / 2 ^ 10 % 2 ^ 5) (bits % 2 ^ 10) (omega arith) (omega arith) (omega arith) (λ is. omega arith) (omega arith) (omega arith) in
    let is = s.is in
    let e_fits = s.e_fits in
    let f_fits = s.f_fits in
    let e : of_half bits / 2 ^ 52 % 2 ^ 11 ≡ s.e = omega (arith, is, e_fits, f_fits) in
    let f : of_half bits % 2 ^ 52 ≡ s.f = omega (arith, is, e_fits, f_fits) in
    rw (e, f) s.same

pub same_single : (bits : ℕ) → bits < 2 ^ 32 → bits / 2 ^ 23 % 2 ^ 8 < 255 → number_of_double (of_single bits) ≡ number_of_single bits * 2 ^ 925
same_single bits fits finite =
    let s = is_same 255 23 127 (bits / 2 ^ 31) (bits / 2 ^ 23 % 2 ^ 8) (bits % 2 ^ 23) (omega arith) (omega arith) (omega arith) (λ is. omega arith) (omega arith) (omega arith) in
    let is = s.is in
    let e_fits = s.e_fits in
    let f_fits = s.f_fits in
    let e : of_single bits / 2 ^ 52 % 2 ^ 11 ≡ s.e = omega (arith, is, e_fits, f_fits) in
    let f : of_single bits % 2 ^ 52 ≡ s.f = omega (arith, is, e_fits, f_fits) in
    rw (e, f) s.same

pub sign_half : (bits : ℕ) → bits < 2 ^ 16 → of_half bits / 2 ^ 63 ≡ bits / 2 ^ 15
sign_half bits fits =
    let s = has_sign 31 10 15 (bits / 2 ^ 15) (bits / 2 ^ 10 % 2 ^ 5) (bits % 2 ^ 10) (omega arith) (omega arith) (omega arith) (omega arith) (omega arith) in
    let is = s.is in
    let e_fits = s.e_fits in
    let f_fits = s.f_fits in
    omega (arith, is, e_fits, f_fits)

pub sign_single : (bits : ℕ) → bits < 2 ^ 32 → of_single bits / 2 ^ 63 ≡ bits / 2 ^ 31
sign_single bits fits =
    let s = has_sign 255 23 127 (bits / 2 ^ 31) (bits / 2 ^ 23 % 2 ^ 8) (bits % 2 ^ 23) (omega arith) (omega arith) (omega arith) (omega arith) (omega arith) in
    let is = s.is in
    let e_fits = s.e_fits in
    let f_fits = s.f_fits in
    omega (arith, is, e_fits, f_fits)
