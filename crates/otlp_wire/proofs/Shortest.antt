-- The shortest varint, step by step.
use Rattle.std.proofs.Common.{◌≡◌, ℕ, zero, suc, ◌+◌, ◌*◌, ◌/◌, ◌%◌, ◌^◌, ◌<◌, ◌≤◌, List, [], ◌∷◌, ◌++◌, length, take, set, length-set, append_assoc, refl, sym, ap, ◌∙◌, arith, inl, inr}
use Rattle.std.proofs.lemmas.Bool.{cases_lt, lt-ltb, le-ltb}
use Rattle.std.proofs.lemmas.Grind.{take-set_at}
use Rattle.std.proofs.lemmas.List.{length-take-le}
use Rattle.otlp_wire.specs.Varint.{varint, varint_in}

-- any bound above n gives the same
enough : (most least n : ℕ) → n < most → n < least → varint_in most n ≡ varint_in least n
enough zero least n a b = absurd (omega arith)
enough (suc most) zero n a b = absurd (omega arith)
enough (suc most) (suc least) n a b =
    elim (cases_lt n 128) [
      | inl small ↦ rw (lt-ltb n 128 small) refl
      | inr large ↦ rw (le-ltb n 128 large) (ap (λ s. (n % 128 + 128) ∷ s) (enough most least (n / 128) (omega arith) (omega arith)))
    ]

pub varint_small : (n : ℕ) → n < 128 → varint n ≡ n ∷ []
unfolding varint
varint_small n small = rw (lt-ltb n 128 small) refl

pub varint_large : (n : ℕ) → 128 ≤ n → varint n ≡ (n % 128 + 128) ∷ varint (n / 128)
unfolding varint
varint_large n large = rw (le-ltb n 128 large) (ap (λ s. (n % 128 + 128) ∷ s) (enough n (suc (n / 128)) (n / 128) (omega arith) (omega arith)))

div_below : (n p : ℕ) → n < 128 * p → n / 128 < p
div_below n p below = omega arith

-- k + 1 bytes hold 7 k + 7 bits
pub length_varint : (k n : ℕ) → n < 128 ^ suc k → length (varint n) ≤ suc k
length_varint zero n below = (let small : n < 128 = omega arith in rw varint_small (omega arith))
length_varint (suc k) n below =
    elim (cases_lt n 128) [
      | inl small ↦ rw varint_small (omega arith)
      | inr large ↦
          (let rest : length (varint (n / 128)) ≤ suc k = length_varint k (n / 128) (div_below n (128 ^ suc k) (omega arith)) in
          rw varint_large (omega arith))
    ]

pub ten_at_most : (n : ℕ) → n < 2 ^ 64 → length (varint n) ≤ 10
ten_at_most n below = length_varint 9 n (omega arith)

pub length_varint_pos : (n : ℕ) → 0 < length (varint n)
length_varint_pos n =
    elim (cases_lt n 128) [ inl small ↦ rw varint_small (omega arith) | inr large ↦ rw varint_large (omega arith) ]

-- what the loop of a writer keeps: the first bytes of an array are written, and n is left
pub record Spelled (bytes : List ℕ) (len n value : ℕ) : Type 0 where
  pub size : length bytes ≡ 10
  pub room : len + length (varint n) ≤ 10
  pub so_far : take len bytes ++ varint n ≡ varint value

pub spells_none : (bytes : List ℕ) (value : ℕ) → length bytes ≡ 10 → value < 2 ^ 64 → Spelled bytes 0 value value
spells_none bytes value size below = record { size = size; room = omega (arith, ten_at_most value below); so_far = refl }

pub here : (bytes : List ℕ) (len n value : ℕ) → Spelled bytes len n value → len < 10
here bytes len n value h = omega (arith, h.room, length_varint_pos n)

pub spells_one : (bytes : List ℕ) (len n value : ℕ) → 128 ≤ n → Spelled bytes len n value → Spelled (set bytes len (n % 128 + 128)) (len + 1) (n / 128) value
spells_one bytes len n value large h =
    let inside : len < length bytes = omega (arith, here bytes len n value h, h.size) in
    let front = take-set_at bytes len (len + 1) (n % 128 + 128) refl inside in
    let next = varint_large n large in
    record {
      size = length-set bytes len (n % 128 + 128) ∙ h.size;
      room = omega (arith, h.room, ap length next);
      so_far = rw (front, append_assoc) (rw next at h.so_far);
    }

-- the array holds all bytes in its first ones
pub record Whole (bytes : List ℕ) (len value : ℕ) : Type 0 where
  pub spelling : take len bytes ≡ varint value
  pub size : len ≡ length (varint value)
  pub room : len ≤ length bytes

pub spells_last : (bytes : List ℕ) (len n value : ℕ) → n < 128 → Spelled bytes len n value → Whole (set bytes len n) (len + 1) value
spells_last bytes len n value small h =
    let inside : len < length bytes = omega (arith, here bytes len n value h, h.size) in
    let front = take-set_at bytes len (len + 1) n refl inside in
    let room : len + 1 ≤ length (set bytes len n) = omega (arith, length-set bytes len n) in
    let spelling : take (len + 1) (set bytes len n) ≡ varint value = rw front (rw (varint_small n small) at h.so_far) in
    record {
      spelling = spelling;
      size = sym (length-take-le (len + 1) (set bytes len n) room) ∙ ap length spelling;
      room = room;
    }
