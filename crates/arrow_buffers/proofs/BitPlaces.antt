-- One more bit after the others.
use Rattle.std.proofs.Common.{◌≡◌, ℕ, ◌+◌, ◌*◌, ◌/◌, ◌%◌, ◌^◌, ◌<◌, ◌≤◌, ◌==◌, Bool, true, false, if◌then◌else◌, List, [], ◌∷◌, ◌++◌, length, get_or, set, bit_or, w8, refl, sym, ap, ◌∙◌, inl, inr, arith}
use Rattle.std.proofs.lemmas.Bool.{cases_eq, cases_order, cond-true, cond-false, eq-eqb, ne_eqb}
use Rattle.std.proofs.lemmas.List.{get_or_append_left, get_or_at, get_or_past, get_or-set_same, get_or-set_other, length-set, length_push}
use Rattle.std.proofs.lemmas.Nat.Bits.{bit_at_set_same, bit_at_set_other, bit_at_ones_above, bit_at-zero}
use Rattle.arrow_buffers.specs.Bits.{bit_at}
use Rattle.arrow_buffers.specs.Packed.{IsPacked, PushesBit}

-- what is left to show of a push
pushes : (count : ℕ) (bit : Bool) (old new : List ℕ) → IsPacked count old → length new ≡ (count + 8) / 8 → ((k : ℕ) → bit_at new k ≡ (if k == count then bit else bit_at old k)) → PushesBit count bit old new
pushes count bit old new packed len bits = record {
  packed = record {
    len = omega arith;
    spare = λ k beyond. bits k ∙ cond-false (k == count) bit (bit_at old k) (ne_eqb k count (omega arith)) ∙ packed.spare k (omega arith);
  };
  bits = bits;
}

-- bit i of a byte
unfoldable pub bit_in : ℕ → ℕ → Bool
bit_in byte i = byte / 2 ^ i % 2 == 1

byte_of : Bool → ℕ
byte_of bit = if bit then 1 else 0

-- a byte of one bit
first : (bit : Bool) → bit_in (byte_of bit) 0 ≡ bit
unfolding bit_in byte_of
first true = refl
first false = refl

others : (bit : Bool) (i : ℕ) → 0 < i → bit_in (byte_of bit) i ≡ false
unfolding bit_in byte_of
others true i some = rw (bit_at_ones_above 1 i (omega arith)) refl
others false i some = rw (bit_at-zero i) refl

-- a bit that is set
set-same : (byte i : ℕ) → i < 8 → bit_in (bit_or byte (1 * 2 ^ i % 256)) i ≡ true
unfolding bit_in
set-same byte i within = rw (bit_at_set_same w8 byte i within) refl

set-other : (byte i j : ℕ) → i < 8 → (j ≡ i → ⊥) → bit_in (bit_or byte (1 * 2 ^ i % 256)) j ≡ bit_in byte j
unfolding bit_in
set-other byte i j within ne = rw (bit_at_set_other w8 byte i within j ne) refl

-- the same byte has the same bits
pub bit_at-same : (new old : List ℕ) (k : ℕ) → get_or new (k / 8) 0 ≡ get_or old (k / 8) 0 → bit_at new k ≡ bit_at old k
unfolding bit_at
bit_at-same new old k is = rw is refl

-- bits after the bytes are 0
pub bit_at-past : (bytes : List ℕ) (k : ℕ) → length bytes ≤ k / 8 → bit_at bytes k ≡ false
unfolding bit_at
bit_at-past bytes k past = rw (get_or_past bytes (k / 8) 0 past, bit_at-zero (k % 8)) refl

-- a bit of a byte that is there
pub bit_at-in : (bytes : List ℕ) (k byte : ℕ) → get_or bytes (k / 8) 0 ≡ byte → bit_at bytes k ≡ bit_in byte (k % 8)
unfolding bit_at bit_in
bit_at-in bytes k byte is = rw is refl

-- the two sides of a push, at the new bit and elsewhere
at_new : (k count : ℕ) (bit was new : Bool) → k ≡ count → new ≡ bit → new ≡ (if k == count then bit else was)
at_new k count bit was new e is = is ∙ sym (cond-true (k == count) bit was (eq-eqb k count e))

at_old : (k count : ℕ) (bit was new : Bool) → (k ≡ count → ⊥) → new ≡ was → new ≡ (if k == count then bit else was)
at_old k count bit was new ne is = is ∙ sym (cond-false (k == count) bit was (ne_eqb k count ne))

-- a new byte
bit_at-push : (count : ℕ) (bit : Bool) (old : List ℕ) → length old ≡ count / 8 → count % 8 ≡ 0 → (k : ℕ) → bit_at (old ++ byte_of bit ∷ []) k ≡ (if k == count then bit else bit_at old k)
bit_at-push count bit old len whole k =
    let new = old ++ byte_of bit ∷ [] in
    elim (cases_order (k / 8) (length old)) [
      | inl here ↦
          let byte = bit_at-in new k (byte_of bit) (get_or_at old (byte_of bit) [] 0 (k / 8) (sym here)) in
          elim (cases_eq (k % 8) 0) [
            | inl first_bit ↦ at_new k count bit (bit_at old k) (bit_at new k) (omega arith) (byte ∙ ap (bit_in (byte_of bit)) first_bit ∙ first bit)
            | inr later ↦ at_old k count bit (bit_at old k) (bit_at new k) (λ e. later (omega arith)) (byte ∙ others bit (k % 8) (omega arith) ∙ sym (bit_at-past old k (omega arith)))
          ]
      | inr away ↦
          elim away [
            | inl there ↦ at_old k count bit (bit_at old k) (bit_at new k) (λ e. absurd (omega arith)) (bit_at-same new old k (get_or_append_left old (byte_of bit ∷ []) 0 (k / 8) there))
            | inr past ↦ at_old k count bit (bit_at old k) (bit_at new k) (λ e. absurd (omega arith)) (bit_at-past new k (omega (arith, length_push old (byte_of bit))) ∙ sym (bit_at-past old k (omega arith)))
          ]
    ]

pub pushes-byte : (count : ℕ) (bit : Bool) (old : List ℕ) → IsPacked count old → count % 8 ≡ 0 → PushesBit count bit old (old ++ (if bit then 1 else 0) ∷ [])
unfolding byte_of
pushes-byte count bit old packed whole =
    let len = packed.len in
    let at : length old ≡ count / 8 = omega arith in
    pushes count bit old (old ++ byte_of bit ∷ []) packed (omega (arith, length_push old (byte_of bit))) (bit_at-push count bit old at whole)

-- a bit set in the last byte
bit_at-set : (count : ℕ) (old : List ℕ) (last : ℕ) → last < length old → last ≡ count / 8 → (k : ℕ)
    → bit_at (set old last (bit_or (get_or old last 0) (1 * 2 ^ (count % 8) % 256))) k ≡ (if k == count then true else bit_at old k)
bit_at-set count old last within at k =
    let byte = bit_or (get_or old last 0) (1 * 2 ^ (count % 8) % 256) in
    let new = set old last byte in
    let place : count % 8 < 8 = omega arith in
    elim (cases_eq (k / 8) last) [
      | inl here ↦
          let now = bit_at-in new k byte (ap (λ j. get_or new j 0) here ∙ get_or-set_same old last byte 0 within) in
          elim (cases_eq (k % 8) (count % 8)) [
            | inl this ↦ at_new k count true (bit_at old k) (bit_at new k) (omega arith) (now ∙ ap (bit_in byte) this ∙ set-same (get_or old last 0) (count % 8) place)
            | inr other ↦ at_old k count true (bit_at old k) (bit_at new k) (λ e. other (omega arith))
                (now ∙ set-other (get_or old last 0) (count % 8) (k % 8) place other ∙ sym (bit_at-in old k (get_or old last 0) (ap (λ j. get_or old j 0) here)))
          ]
      | inr away ↦ at_old k count true (bit_at old k) (bit_at new k) (λ e. away (omega arith)) (bit_at-same new old k (get_or-set_other old last (k / 8) byte 0 away))
    ]

pub pushes-set : (count : ℕ) (old : List ℕ) (last byte : ℕ) → IsPacked count old → (count % 8 ≡ 0 → ⊥) → last + 1 ≡ length old → byte ≡ get_or old last 0
    → PushesBit count true old (set old last (bit_or byte (1 * 2 ^ (count % 8) % 256)))
pushes-set count old last byte packed part len is =
    let bytes = packed.len in
    let new = set old last (bit_or (get_or old last 0) (1 * 2 ^ (count % 8) % 256)) in
    let same : PushesBit count true old new =
    pushes count true old new packed (omega (arith, length-set old last (bit_or (get_or old last 0) (1 * 2 ^ (count % 8) % 256)))) (bit_at-set count old last (omega arith) (omega arith)) in
    rw is same
