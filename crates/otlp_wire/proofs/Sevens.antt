-- What a loop over the bytes of a varint keeps.
use Rattle.std.proofs.Common.{◌≡◌, ℕ, zero, suc, ◌+◌, ◌*◌, ◌%◌, ◌^◌, ◌<◌, ◌≤◌, ◌-◌, List, [], ◌∷◌, length, get_or, take, drop, refl, ap, ◌∙◌, arith, add-one, pow-add, lit<, inl, inr, ◌⊎◌}
use Rattle.std.specs.Prelude.{slice_index}
use Rattle.std.proofs.Math.Nat.{pow-le-pow_right, mul-le-mul_right, mod-eq_of_lt}
use Rattle.std.proofs.lemmas.Bool.{cases_eq, cases_lt}
use Rattle.std.proofs.lemmas.List.{take_rest}
use Rattle.otlp_wire.specs.Varint.{sevens, IsFollowed, IsVarint}
use Rattle.otlp_wire.specs.Reading.{Begins}
use Rattle.otlp_wire.proofs.Varints.{ends_at}

-- seven more bits
pub shift_more : (i : ℕ) → 2 ^ (7 * suc i) ≡ 2 ^ (7 * i) * 128
shift_more i = ap (λ k. 2 ^ k) (omega arith) ∙ pow-add 2 (7 * i) 7

step : (b s x p q : ℕ) → q ≡ p * 128 → b + 128 * (s + x * p) ≡ (b + 128 * s) + x * q
step b s x p q e = rw e (grind arith)

sevens-take-suc : (bytes : List ℕ) (i : ℕ) → i < length bytes → sevens (take (suc i) bytes) ≡ sevens (take i bytes) + (get_or bytes i 0 % 128) * 2 ^ (7 * i)
sevens-take-suc [] i below = absurd (omega arith)
sevens-take-suc (b ∷ bs) zero below = omega arith
sevens-take-suc (b ∷ bs) (suc i) below =
    ap (λ s. b % 128 + 128 * s) (sevens-take-suc bs i (omega arith))
    ∙ step (b % 128) (sevens (take i bs)) (get_or bs i 0 % 128) (2 ^ (7 * i)) (2 ^ (7 * suc i)) (shift_more i)

pub sevens-take_more : (bytes : List ℕ) (i : ℕ) → i < length bytes → sevens (take (i + 1) bytes) ≡ sevens (take i bytes) + (get_or bytes i 0 % 128) * 2 ^ (7 * i)
sevens-take_more bytes i below = rw add-one (sevens-take-suc bytes i below)

-- the bits of a byte are above those before it
pub below_shift : (v x i : ℕ) → v < 2 ^ (7 * i) → x < 128 → v + x * 2 ^ (7 * i) < 2 ^ (7 * (i + 1))
below_shift v x i low small =
    rw (add-one, shift_more i) (omega (arith, mul-le-mul_right (2 ^ (7 * i)) (let le : x ≤ 127 = omega arith in le)))

-- a byte's bits fit 64 bits, at most nine bytes after the first
pub fits : (v x i : ℕ) → v < 2 ^ (7 * i) → x < 128 → i ≤ 9 → (i ≡ 9 → x ≤ 1) → v + x * 2 ^ (7 * i) < 2 ^ 64
fits v x i low small nine tenth =
    elim (cases_lt i 9) [
      | inl early ↦
          (let room : 2 ^ (7 * (i + 1)) ≤ 2 ^ 63 = let most : 7 * (i + 1) ≤ 63 = omega arith in pow-le-pow_right (lit< tt) most in
          omega (arith, below_shift v x i low small))
      | inr late ↦
          (let is : i ≡ 9 = omega arith in
          let low' : v < 2 ^ 63 = rw is at low in
          let once : x ≤ 1 = tenth is in
          rw is (omega arith))
    ]

-- the number once the byte at the index i is added
pub record Grown (bytes : List ℕ) (i v : ℕ) : Type 0 where
  pub fits : v < 2 ^ 64
  pub value : v ≡ sevens (take (i + 1) bytes)
  pub below : v < 2 ^ (7 * (i + 1))

pub grows : (bytes : List ℕ) (i v x : ℕ) → i < length bytes → i ≤ 9 → (i ≡ 9 → get_or bytes i 0 ≤ 1) → x ≡ get_or bytes i 0 % 128
    → v ≡ sevens (take i bytes) → v < 2 ^ (7 * i) → Grown bytes i (v + x * 2 ^ (7 * i) % 2 ^ 64)
grows bytes i v x below nine tenth is value low =
    let small : x < 128 = omega arith in
    let once : i ≡ 9 → x ≤ 1 = λ e. let one : get_or bytes i 0 ≤ 1 = tenth e in omega arith in
    let whole : v + x * 2 ^ (7 * i) < 2 ^ 64 = fits v x i low small nine once in
    let same : x * 2 ^ (7 * i) % 2 ^ 64 ≡ x * 2 ^ (7 * i) = mod-eq_of_lt (omega arith) in
    let sum : v + x * 2 ^ (7 * i) ≡ sevens (take (i + 1) bytes) = rw (sevens-take_more bytes i below, ← is, ← value) refl in
    rw same (record { fits = whole; value = sum; below = below_shift v x i low small })

-- no tenth byte goes on
pub early : (i b : ℕ) → i ≤ 9 → 128 ≤ b → (i ≡ 9 → b ≤ 1) → i + 1 ≤ 9
early i b nine high tenth =
    elim (cases_eq i 9) [ inl here ↦ (let low : b ≤ 1 = tenth here in absurd (omega arith)) | inr away ↦ omega arith ]

-- a varint ends at the index i, and the rest is a slice of the bytes
pub ends_before : (bytes : List ℕ) (i v : ℕ) → i < length bytes → i ≤ 9 → IsFollowed bytes i → get_or bytes i 0 < 128 → (i ≡ 9 → get_or bytes i 0 ≤ 1)
    → v ≡ sevens (take (i + 1) bytes)
    → Begins (λ front. IsVarint front v) bytes (take (length bytes - (i + 1)) (drop (i + 1) bytes))
ends_before bytes i v below nine goes_on last tenth value =
    rw (take_rest bytes (i + 1)) (ends_at bytes i v below nine goes_on last tenth value)

-- a varint of one byte
pub one_byte : (bytes : List ℕ) (v : ℕ) → 1 ≤ length bytes → get_or bytes 0 0 < 128 → v ≡ get_or bytes 0 0 → v ≡ sevens (take 1 bytes)
one_byte [] v some small is = absurd (omega arith)
one_byte (b ∷ bytes) v some small is = omega arith

-- seven bits of each byte of a varint, and one of a tenth
sevens_below : (k : ℕ) (bytes : List ℕ) → length bytes ≤ k → sevens bytes < 128 ^ k
sevens_below zero [] few = omega arith
sevens_below zero (byte ∷ bytes) few = absurd (omega (arith, few))
sevens_below (suc k) [] few = (let rest = sevens_below k [] (omega arith) in omega (arith, rest))
sevens_below (suc k) (byte ∷ bytes) few = (let rest = sevens_below k bytes (omega (arith, few)) in omega (arith, rest))

sevens_last : (k : ℕ) (bytes : List ℕ) → length bytes ≡ k + 1 → slice_index bytes k ≤ 1 → sevens bytes < 2 * 128 ^ k
sevens_last k [] size last = absurd (omega (arith, size))
sevens_last zero (byte ∷ []) size last = omega (arith, last)
sevens_last zero (byte ∷ (more ∷ bytes)) size last = absurd (omega (arith, size))
sevens_last (suc k) (byte ∷ bytes) size last = (let rest = sevens_last k bytes (omega (arith, size)) last in omega (arith, rest))

pub varint_below : (bytes : List ℕ) (n : ℕ) → IsVarint bytes n → n < 2 ^ 64
varint_below bytes n v = go (nine_or_ten v.last v.at_most_ten)
  where
    nine_or_ten : (k : ℕ) → k < 10 → (k < 9) ⊎ (k ≡ 9)
    nine_or_ten k h = grind arith

    go : (v.last < 9) ⊎ (v.last ≡ 9) → n < 2 ^ 64
    go (inl short) = (let small = sevens_below 9 bytes (omega (arith, v.size, short)) in omega (arith, v.value, small))
    go (inr ten) = (let small = sevens_last 9 bytes (omega (arith, v.size, ten)) v.tenth in omega (arith, v.value, small))
