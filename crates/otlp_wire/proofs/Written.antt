-- What is written is read.
use Rattle.std.proofs.Common.{◌≡◌, ℕ, zero, suc, ◌+◌, ◌*◌, ◌/◌, ◌%◌, ◌^◌, ◌<◌, ◌≤◌, List, [], ◌∷◌, length, get_or, append-nil, add-one, refl, sym, ap, ◌∙◌, arith, inl, inr}
use Rattle.std.specs.Prelude.{slice_index}
use Rattle.std.proofs.lemmas.Bool.{cases_lt, cases_eq}
use Rattle.std.proofs.lemmas.List.{get_or_past}
use Rattle.std.proofs.Math.Nat.{pow-succ'}
use Rattle.byteorder.specs.Endian.{little_number, little_bytes}
use Rattle.byteorder.specs.Numbers.{little_number-reads_back, length-bytes_low_first}
use Rattle.otlp_wire.specs.Varint.{sevens, IsFollowed, IsVarint, varint}
use Rattle.otlp_wire.specs.Wire.{FieldValue, Varint, Fixed64, Bytes, Fixed32, Entry, wire_type, IsNumber, IsValue, IsField, Fits, value_spelling, spelling}
use Rattle.otlp_wire.proofs.Shortest.{varint_small, varint_large, length_varint, ten_at_most}
use Rattle.otlp_wire.proofs.Values.{small_type}

-- the shortest varint, whatever its length
record Shortest (n : ℕ) : Type 0 where
  last : ℕ
  size : length (varint n) ≡ last + 1
  goes_on : IsFollowed (varint n) last
  ends : slice_index (varint n) last < 128
  value : n ≡ sevens (varint n)

goes_more : (byte : ℕ) (bytes : List ℕ) (n : ℕ) → 128 ≤ byte → IsFollowed bytes n → IsFollowed (byte ∷ bytes) (n + 1)
goes_more byte bytes n high on zero h = high
goes_more byte bytes n high on (suc i) h = on i (omega arith)

one_more : (n : ℕ) → 128 ≤ n → Shortest (n / 128) → Shortest n
one_more n large s =
    let is = varint_large n large in
    let size = s.size in
    record {
      last = s.last + 1;
      size = rw is (omega arith);
      goes_on = rw is (goes_more (n % 128 + 128) (varint (n / 128)) s.last (omega arith) s.goes_on);
      ends = rw (is, add-one) s.ends;
      value = rw is (omega (arith, s.value));
    }

-- the number only bounds the recursion
shortest_within : (most n : ℕ) → n < most → Shortest n
shortest_within zero n below = absurd (omega arith)
shortest_within (suc most) n below =
    elim (cases_lt n 128) [
      | inl small ↦ (let is = varint_small n small in
          record { last = 0; size = ap length is; goes_on = λ i h. absurd (omega arith); ends = rw is small; value = rw is (omega arith) })
      | inr large ↦ one_more n large (shortest_within most (n / 128) (omega arith))
    ]

-- a byte counts by its index
sevens-at_least : (bytes : List ℕ) (i : ℕ) → get_or bytes i 0 % 128 * 128 ^ i ≤ sevens bytes
sevens-at_least [] i = omega arith
sevens-at_least (byte ∷ bytes) zero = omega arith
sevens-at_least (byte ∷ bytes) (suc i) = rw (pow-succ' 128 i) (omega (arith, sevens-at_least bytes i))

sevens-below : (bytes : List ℕ) → sevens bytes < 128 ^ length bytes
sevens-below [] = omega arith
sevens-below (byte ∷ bytes) = rw (pow-succ' 128 (length bytes)) (omega (arith, sevens-below bytes))

pub is_one : (n : ℕ) → n < 2 ^ 64 → IsVarint (varint n) n
is_one n below =
    let s = shortest_within (suc n) n (omega arith) in
    let size = s.size in
    let most : length (varint n) ≤ 10 = ten_at_most n below in
    let tenth : get_or (varint n) 9 0 % 128 * 128 ^ 9 ≤ n = rw (← s.value) at (sevens-at_least (varint n) 9) in
    record {
      last = s.last;
      size = size;
      at_most_ten = omega arith;
      goes_on = s.goes_on;
      ends = s.ends;
      value = s.value;
      tenth = elim (cases_eq s.last 9) [
        | inl nine ↦ (let ends : get_or (varint n) 9 0 < 128 = rw nine at s.ends in omega arith)
        | inr other ↦ (let past : length (varint n) ≤ 9 = omega arith in rw (get_or_past (varint n) 9 0 past) (omega arith))
      ];
    }

pub shortest : (bytes : List ℕ) (n : ℕ) → IsVarint bytes n → length (varint n) ≤ length bytes
shortest bytes n v =
    let size = v.size in
    let long : length bytes ≡ suc v.last = omega arith in
    let below : n < 128 ^ suc v.last = rw (v.value, ← long) (sevens-below bytes) in
    omega (arith, length_varint v.last n below)

read_back : (size n : ℕ) → n < 256 ^ size → n ≡ little_number size (little_bytes size n)
read_back size n fits = sym (ap (little_number size) (sym (append-nil (little_bytes size n))) ∙ little_number-reads_back size n [] fits)

is_value : (v : FieldValue) → Fits v → IsValue (value_spelling v) v
is_value (Varint n) fits = is_one n fits
is_value (Fixed64 n) fits = (length-bytes_low_first 0 8 n, read_back 8 n fits)
is_value (Bytes part) fits = (varint (length part), is_one (length part) fits, refl)
is_value (Fixed32 n) fits = (length-bytes_low_first 0 4 n, read_back 4 n fits)

pub is_field : (f : Entry) → IsNumber f.number → Fits f.value → IsField (spelling f) f
is_field f number fits = record {
  tag = varint (8 * f.number + wire_type f.value);
  value = value_spelling f.value;
  whole = refl;
  number = number;
  is_tag = is_one (8 * f.number + wire_type f.value) (omega (arith, number.1, small_type f.value));
  is_value = is_value f.value fits;
}
