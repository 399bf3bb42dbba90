-- A tag is followed by exactly one value or exactly one fault, and bytes begin with exactly one field or exactly one fault.
use Rattle.std.proofs.Common.{◌≡◌, ℕ, zero, suc, ◌+◌, ◌*◌, ◌/◌, ◌%◌, ◌<◌, ◌≤◌, List, ◌++◌, length, take, drop, append_assoc, Result, Ok, Err, true, false, refl, sym, subst, ap, ◌∙◌, arith, inl, inr, ◌⊎◌}
use Rattle.std.specs.Prelude.{nat_lt, ◌&&◌}
use Rattle.std.proofs.lemmas.Bool.{cases_lt, lt-ltb, le-ltb}
use Rattle.std.proofs.lemmas.List.{length-append, length-take-le, take-append-drop}
use Rattle.std.proofs.Math.Seq.{take-append_seam, drop-append_seam}
use Rattle.byteorder.specs.Endian.{little_number}
use Rattle.otlp_wire.specs.declared.parts.WireError.{WireError}
use Rattle.otlp_wire.specs.declared.parts.WireError.TheVariants.{Cut, BadVarint, BadWireType, BadTag}
use Rattle.otlp_wire.specs.Limits.{number_limit}
use Rattle.otlp_wire.specs.Varint.{IsVarint, IsCutVarint, IsLongVarint}
use Rattle.otlp_wire.specs.Wire.{FieldValue, Varint, Fixed64, Bytes, Fixed32, Entry, wire_type, IsNumber, IsValue, IsField}
use Rattle.otlp_wire.specs.Reading.{Begins, VarintFaults, IsCutPart, ValueFaults, TagFaults, Faults}
use Rattle.otlp_wire.specs.Fields.{WireRead, first_varint, as_varint, as_part, as_fixed, first_value, with_number, after_tag, first_field}
use Rattle.otlp_wire.proofs.Varints.{VarintIs, one_varint_result, first_varint_is}

-- a length, and as many bytes
pub part_after : (bytes rest part left : List ℕ) (n : ℕ) → Begins (λ front. IsVarint front n) bytes rest → rest ≡ part ++ left → length part ≡ n
    → Begins (λ front. IsValue front (Bytes part)) bytes left
part_after bytes rest part left n size split len =
    (size.0 ++ part, rw append_assoc (rw split at size.1), (size.0, rw (← len) at size.2, refl))

-- a tag, and a value
pub field_after : (bytes rest left : List ℕ) (tag : ℕ) (v : FieldValue) → Begins (λ front. IsVarint front tag) bytes rest
    → Begins (λ front. IsValue front v) rest left → IsNumber (tag / 8) → wire_type v ≡ tag % 8
    → Begins (λ front. IsField front (record { number = tag / 8; value = v })) bytes left
field_after bytes rest left tag v head value number kind =
    let whole : 8 * (tag / 8) + wire_type v ≡ tag = omega (arith, kind) in (
      head.0 ++ value.0,
      rw append_assoc (rw value.1 at head.1),
      record {
        tag = head.0;
        value = value.0;
        whole = refl;
        number = number;
        is_tag = rw whole head.2;
        is_value = value.2;
      },
    )

the_varint : (bytes : List ℕ) (x : WireRead ℕ) → VarintIs bytes x → first_varint bytes ≡ x
the_varint bytes x h = one_varint_result bytes (first_varint bytes) x (first_varint_is bytes) h

fixed_ok : (n : ℕ) (value : ℕ → FieldValue) (bytes front rest : List ℕ) → bytes ≡ front ++ rest → length front ≡ n → as_fixed n value bytes ≡ Ok (value (little_number n front), rest)
fixed_ok n value bytes front rest split size =
    let room : n ≤ length bytes = rw split (omega (arith, length-append front rest)) in
    rw (le-ltb (length bytes) n room)
    (ap (λ p. Ok (value (little_number n p), drop n bytes)) (rw (split, ← size) (take-append_seam front rest))
    ∙ ap (λ p. Ok (value (little_number n front), p)) (rw (split, ← size) (drop-append_seam front rest)))

fixed_cut : (n : ℕ) (value : ℕ → FieldValue) (bytes : List ℕ) → length bytes < n → as_fixed n value bytes ≡ Err Cut
fixed_cut n value bytes short = rw (lt-ltb (length bytes) n short) refl

value_ok : (v : FieldValue) (bytes rest : List ℕ) → Begins (λ front. IsValue front v) bytes rest → first_value (wire_type v) bytes ≡ Ok (v, rest)
value_ok (Varint n) bytes rest b = ap as_varint (the_varint bytes (Ok (n, rest)) b)
value_ok (Fixed64 n) bytes rest b = fixed_ok 8 (λ k. Fixed64 k) bytes b.0 rest b.1 b.2.0 ∙ ap (λ k. Ok (Fixed64 k, rest)) (sym b.2.1)
value_ok (Bytes part) bytes rest b =
    let size = b.2.0 in
    let split : bytes ≡ size ++ (part ++ rest) = b.1 ∙ ap (λ p. p ++ rest) b.2.2 ∙ append_assoc size part rest in
    let room : length part ≤ length (part ++ rest) = omega (arith, length-append part rest) in
    ap as_part (the_varint bytes (Ok (length part, part ++ rest)) (size, split, b.2.1))
    ∙ rw (le-ltb (length (part ++ rest)) (length part) room)
    (ap (λ p. Ok (Bytes p, drop (length part) (part ++ rest))) (take-append_seam part rest)
    ∙ ap (λ p. Ok (Bytes part, p)) (drop-append_seam part rest))
value_ok (Fixed32 n) bytes rest b = fixed_ok 4 (λ k. Fixed32 k) bytes b.0 rest b.1 b.2.0 ∙ ap (λ k. Ok (Fixed32 k, rest)) (sym b.2.1)

varint_bad : (bytes : List ℕ) (e : WireError) → VarintFaults bytes e → first_varint bytes ≡ Err e
varint_bad bytes e f = the_varint bytes (Err e) f

part_cut : (bytes : List ℕ) → IsCutPart bytes → as_part (first_varint bytes) ≡ Err Cut
part_cut bytes c = ap as_part (the_varint bytes (Ok (c.0, c.1)) c.2) ∙ rw (lt-ltb (length c.1) c.0 c.3) refl

bad_type : (t : ℕ) (bytes : List ℕ) → (t ≡ 3) ⊎ (t ≡ 4) ⊎ (t ≡ 6) ⊎ (t ≡ 7) → first_value t bytes ≡ Err BadWireType
bad_type t bytes (inl is) = rw is refl
bad_type t bytes (inr (inl is)) = rw is refl
bad_type t bytes (inr (inr (inl is))) = rw is refl
bad_type t bytes (inr (inr (inr is))) = rw is refl

short_part : (bytes : List ℕ) → IsCutVarint bytes ⊎ IsCutPart bytes → as_part (first_varint bytes) ≡ Err Cut
short_part bytes (inl cut) = ap as_part (varint_bad bytes Cut cut)
short_part bytes (inr part) = part_cut bytes part

long_varint : (t : ℕ) (bytes : List ℕ) → (t ≡ 0) ⊎ (t ≡ 2) → IsLongVarint bytes → first_value t bytes ≡ Err BadVarint
long_varint t bytes (inl is) f = rw is (ap as_varint (varint_bad bytes BadVarint f))
long_varint t bytes (inr is) f = rw is (ap as_part (varint_bad bytes BadVarint f))

value_err : (t : ℕ) (bytes : List ℕ) (e : WireError) → ValueFaults t bytes e → first_value t bytes ≡ Err e
value_err t bytes Cut (inl f) = rw f.0 (ap as_varint (varint_bad bytes Cut f.1))
value_err t bytes Cut (inr (inl f)) = rw f.0 (fixed_cut 8 (λ k. Fixed64 k) bytes f.1)
value_err t bytes Cut (inr (inr (inl f))) = rw f.0 (short_part bytes f.1)
value_err t bytes Cut (inr (inr (inr f))) = rw f.0 (fixed_cut 4 (λ k. Fixed32 k) bytes f.1)
value_err t bytes BadVarint f = long_varint t bytes f.0 f.1
value_err t bytes BadWireType f = bad_type t bytes f
value_err t bytes BadTag f = absurd f

-- some value or fault is there
abbrev ValueIs : ℕ → List ℕ → WireRead FieldValue → Type 0
ValueIs t bytes (Ok x) = (wire_type x.0 ≡ t) × Begins (λ front. IsValue front x.0) bytes x.1
ValueIs t bytes (Err e) = ValueFaults t bytes e

SomeValue : ℕ → List ℕ → Type 0
SomeValue t bytes = (x : WireRead FieldValue) × ValueIs t bytes x

number_value : (bytes : List ℕ) (x : Result (ℕ × List ℕ) WireError) → VarintIs bytes x → SomeValue 0 bytes
unfolding SomeValue
number_value bytes (Ok x) b = (Ok (Varint x.0, x.1), (refl, b))
number_value bytes (Err Cut) f = (Err Cut, inl (refl, f))
number_value bytes (Err BadVarint) f = (Err BadVarint, (inl refl, f))
number_value bytes (Err BadWireType) f = absurd f
number_value bytes (Err BadTag) f = absurd f

part_value : (bytes : List ℕ) (x : Result (ℕ × List ℕ) WireError) → VarintIs bytes x → SomeValue 2 bytes
unfolding SomeValue
part_value bytes (Ok x) b =
    elim (cases_lt (length x.1) x.0) [
      | inl short ↦ (Err Cut, inr (inr (inl (refl, inr (x.0, x.1, b, short)))))
      | inr room ↦ (
        Ok (Bytes (take x.0 x.1), drop x.0 x.1),
        (refl, part_after bytes x.1 (take x.0 x.1) (drop x.0 x.1) x.0 b (sym (take-append-drop x.0 x.1)) (length-take-le x.0 x.1 room)),
      )
    ]
part_value bytes (Err Cut) f = (Err Cut, inr (inr (inl (refl, inl f))))
part_value bytes (Err BadVarint) f = (Err BadVarint, (inr refl, f))
part_value bytes (Err BadWireType) f = absurd f
part_value bytes (Err BadTag) f = absurd f

some_value : (t : ℕ) (bytes : List ℕ) → t < 8 → SomeValue t bytes
unfolding SomeValue
some_value zero bytes small = number_value bytes (first_varint bytes) (first_varint_is bytes)
some_value (suc zero) bytes small =
    elim (cases_lt (length bytes) 8) [
      | inl short ↦ (Err Cut, inr (inl (refl, short)))
      | inr room ↦ (
        Ok (Fixed64 (little_number 8 (take 8 bytes)), drop 8 bytes),
        (refl, (take 8 bytes, sym (take-append-drop 8 bytes), (length-take-le 8 bytes room, refl))),
      )
    ]
some_value (suc (suc zero)) bytes small = part_value bytes (first_varint bytes) (first_varint_is bytes)
some_value (suc (suc (suc zero))) bytes small = (Err BadWireType, inl refl)
some_value (suc (suc (suc (suc zero)))) bytes small = (Err BadWireType, inr (inl refl))
some_value (suc (suc (suc (suc (suc zero))))) bytes small =
    elim (cases_lt (length bytes) 4) [
      | inl short ↦ (Err Cut, inr (inr (inr (refl, short))))
      | inr room ↦ (
        Ok (Fixed32 (little_number 4 (take 4 bytes)), drop 4 bytes),
        (refl, (take 4 bytes, sym (take-append-drop 4 bytes), (length-take-le 4 bytes room, refl))),
      )
    ]
some_value (suc (suc (suc (suc (suc (suc zero)))))) bytes small = (Err BadWireType, inr (inr (inl refl)))
some_value (suc (suc (suc (suc (suc (suc (suc zero))))))) bytes small = (Err BadWireType, inr (inr (inr refl)))
some_value (suc (suc (suc (suc (suc (suc (suc (suc t)))))))) bytes small = absurd (omega arith)

-- a field
number_test : (n : ℕ) → IsNumber n → (nat_lt 0 n && nat_lt n number_limit) ≡ true
number_test n h = rw (lt-ltb 0 n h.0, lt-ltb n number_limit h.1) refl

no_number : (n : ℕ) → (IsNumber n → ⊥) → (nat_lt 0 n && nat_lt n number_limit) ≡ false
no_number n h =
    elim (cases_lt 0 n) [
      | inl low ↦ elim (cases_lt n number_limit) [ inl high ↦ absurd (h (low, high)) | inr above ↦ rw (lt-ltb 0 n low, le-ltb n number_limit above) refl ]
      | inr none ↦ rw (le-ltb 0 n none) refl
    ]

pub small_type : (v : FieldValue) → wire_type v < 8
small_type (Varint n) = omega arith
small_type (Fixed64 n) = omega arith
small_type (Bytes part) = omega arith
small_type (Fixed32 n) = omega arith

pub field_ok : (f : Entry) (bytes rest : List ℕ) → Begins (λ front. IsField front f) bytes rest → first_field bytes ≡ Ok (f, rest)
unfolding first_field
field_ok f bytes rest b =
    let at = b.2 in
    let t = wire_type f.value in
    let split : bytes ≡ at.tag ++ (at.value ++ rest) = b.1 ∙ ap (λ p. p ++ rest) at.whole ∙ append_assoc at.tag at.value rest in
    let small : t < 8 = small_type f.value in
    let number : (8 * f.number + t) / 8 ≡ f.number = omega arith in
    let kind : (8 * f.number + t) % 8 ≡ t = omega arith in
    ap after_tag (the_varint bytes (Ok (8 * f.number + t, at.value ++ rest)) (at.tag, split, at.is_tag))
    ∙ rw (number, kind, number_test f.number at.number)
    (ap (with_number f.number) (value_ok f.value (at.value ++ rest) rest (at.value, refl, at.is_value)))

pub field_err : (bytes : List ℕ) (e : WireError) → Faults bytes e → first_field bytes ≡ Err e
unfolding first_field
field_err bytes e (inl f) = ap after_tag (varint_bad bytes e f)
field_err bytes e (inr f) =
    ap after_tag (the_varint bytes (Ok (f.0, f.1)) f.2) ∙ after f.0 f.1 f.3
  where
    after : (tag : ℕ) (rest : List ℕ) → TagFaults tag rest e → after_tag (Ok (tag, rest)) ≡ Err e
    after tag rest (inl h) = rw (no_number (tag / 8) h.0) (ap (λ d. Err d) (sym h.1))
    after tag rest (inr h) = rw (number_test (tag / 8) h.0) (ap (with_number (tag / 8)) (value_err (tag % 8) rest e h.1))

abbrev pub FieldIs : List ℕ → (WireRead Entry) → Type 0
FieldIs bytes (Ok x) = Begins (λ front. IsField front x.0) bytes x.1
FieldIs bytes (Err e) = Faults bytes e

abbrev SomeField : List ℕ → Type 0
SomeField bytes = (x : WireRead Entry) × FieldIs bytes x

number_or_not : (n : ℕ) → IsNumber n ⊎ (IsNumber n → ⊥)
number_or_not n =
    elim (cases_lt 0 n) [
      | inl low ↦ elim (cases_lt n number_limit) [ inl high ↦ inl (low, high) | inr above ↦ inr (λ h. omega (arith, h.1)) ]
      | inr none ↦ inr (λ h. omega (arith, h.0))
    ]

some_after : (bytes rest : List ℕ) (tag : ℕ) → Begins (λ front. IsVarint front tag) bytes rest → IsNumber (tag / 8)
    → (x : WireRead FieldValue) → ValueIs (tag % 8) rest x → SomeField bytes
some_after bytes rest tag b number (Ok x) v =
    (Ok (record { number = tag / 8; value = x.0 }, x.1), field_after bytes rest x.1 tag x.0 b v.1 number v.0)
some_after bytes rest tag b number (Err e) f = (Err e, inr (tag, rest, b, inr (number, f)))

some_tagged : (bytes : List ℕ) (x : Result (ℕ × List ℕ) WireError) → VarintIs bytes x → SomeField bytes
unfolding SomeValue
some_tagged bytes (Ok x) b =
    elim (number_or_not (x.0 / 8)) [
      | inl number ↦ (let v = some_value (x.0 % 8) x.1 (omega arith) in some_after bytes x.1 x.0 b number v.0 v.1)
      | inr none ↦ (Err BadTag, inr (x.0, x.1, b, inl (none, refl)))
    ]
some_tagged bytes (Err e) f = (Err e, inl f)

some_field : (bytes : List ℕ) → SomeField bytes
some_field bytes = some_tagged bytes (first_varint bytes) (first_varint_is bytes)

-- what `first_field` returns is at the front
pub first_field_is : (bytes : List ℕ) → FieldIs bytes (first_field bytes)
first_field_is bytes = go (some_field bytes).0 (some_field bytes).1
  where
    go : (x : WireRead Entry) → FieldIs bytes x → FieldIs bytes (first_field bytes)
    go (Ok x) b = subst (FieldIs bytes) (sym (field_ok x.0 bytes x.1 b)) b
    go (Err e) f = subst (FieldIs bytes) (sym (field_err bytes e f)) f

-- a field has bytes
pub field_long : (front : List ℕ) (f : Entry) → IsField front f → 0 < length front
field_long front f h = rw h.whole (omega (arith, length-append h.tag h.value, h.is_tag.size))
