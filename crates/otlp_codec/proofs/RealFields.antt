-- The fields of bytes hold what a program can hold: numbers of 64 or 32 bits, and bytes.
use Rattle.std.proofs.Common.{◌≡◌, ℕ, zero, suc, ◌+◌, ◌^◌, ◌<◌, ◌≤◌, List, [], ◌∷◌, ◌++◌, length, true, ap, subst, arith, length-append, inl, inr}
use Rattle.std.specs.Prelude.{slice_index, Option}
use Rattle.std.specs.List.{AllByRecursion}
use Rattle.std.proofs.lemmas.List.Elements.{All-from_recursion, recursion_from_All}
use Rattle.std.proofs.lemmas.Bool.{cases_eq, ne_eqb, eq-eqb}
use Rattle.byteorder.specs.Numbers.{little_from-lt}
use Rattle.otlp_wire.specs.declared.parts.WireError.{WireError}
use Rattle.otlp_wire.specs.Wire as wire
use Rattle.otlp_wire.specs.Wire.{FieldValue, Entry, IsValue, IsField}
use Rattle.otlp_wire.specs.Reading.{Reads}
use Rattle.otlp_wire.specs.Fields.{fields_of, end_of}
use Rattle.otlp_wire.proofs.FieldsOf.{fields_of-reads}
use Rattle.otlp_wire.proofs.Sevens.{varint_below}
use Rattle.otlp_wire.proofs.Values.{field_long}
use Rattle.otlp_messages.specs.Rows.{only}
use Rattle.lists.specs.Bytes.{is_real_octets}
use Rattle.lists.proofs.RealBytes.{real_octets, bytes_of_real, length_of_real_octets}

-- bytes that a program can hold
pub record Octets (bytes : List ℕ) : Type 0 where
  pub each : AllByRecursion (λ byte. byte < 256) bytes
  pub few : length bytes < 2 ^ 64

pub octets : (bytes : List ℕ) → is_real_octets bytes ≡ true → Octets bytes
octets bytes real = record { each = recursion_from_All (λ byte. byte < 256) bytes (bytes_of_real bytes real); few = length_of_real_octets bytes real }

pub are_octets : (bytes : List ℕ) → Octets bytes → is_real_octets bytes ≡ true
are_octets bytes h = real_octets bytes (All-from_recursion (λ byte. byte < 256) bytes h.each) h.few

pub no_octets : Octets []
no_octets = record { each = tt; few = omega arith }

-- a value that a program can hold
abbrev pub RealField : FieldValue → Type 0
RealField (wire.Varint n) = n < 2 ^ 64
RealField (wire.Fixed64 n) = n < 2 ^ 64
RealField (wire.Bytes part) = Octets part
RealField (wire.Fixed32 n) = n < 2 ^ 32

all_split : {A : Type 0} (P : A → Type 0) (xs ys : List A) → AllByRecursion P (xs ++ ys) → AllByRecursion P xs × AllByRecursion P ys
all_split P [] ys h = (tt, h)
all_split P (x ∷ xs) ys h = (let rest = all_split P xs ys h.1 in ((h.0, rest.0), rest.1))

-- the parts of bytes
pub split : (front rest : List ℕ) → Octets (front ++ rest) → Octets front × Octets rest
split front rest h =
    let parts = all_split (λ byte. byte < 256) front rest h.each in
    let size : length (front ++ rest) ≡ length front + length rest = length-append front rest in
    (record { each = parts.0; few = omega (arith, size, h.few) }, record { each = parts.1; few = omega (arith, size, h.few) })

pub byte_at : (bytes : List ℕ) → AllByRecursion (λ byte. byte < 256) bytes → (k : ℕ) → slice_index bytes k < 256
byte_at [] h k = omega arith
byte_at (byte ∷ bytes) h zero = h.0
byte_at (byte ∷ bytes) h (suc k) = byte_at bytes h.1 k

real_value : (bytes : List ℕ) (v : FieldValue) → IsValue bytes v → Octets bytes → RealField v
real_value bytes (wire.Varint n) is h = varint_below bytes n is
real_value bytes (wire.Fixed64 n) is h = (let small = little_from-lt 0 8 bytes (byte_at bytes h.each) in omega (arith, is.1, small))
real_value bytes (wire.Bytes part) is h = (split is.0 part (subst Octets is.2 h)).1
real_value bytes (wire.Fixed32 n) is h = (let small = little_from-lt 0 4 bytes (byte_at bytes h.each) in omega (arith, is.1, small))

real_entry : (front : List ℕ) (f : Entry) → IsField front f → Octets front → RealField f.value
real_entry front f is h = real_value is.value f.value is.is_value (split is.tag is.value (subst Octets is.whole h)).1

-- the fields, and how many they are
pub record RealEntries (bytes : List ℕ) (fs : List Entry) : Type 0 where
  pub each : AllByRecursion (λ f. RealField f.value) fs
  pub few : length fs ≤ length bytes

reads_real : (fs : List Entry) (bytes : List ℕ) (end : Option WireError) → Reads bytes fs end → Octets bytes → RealEntries bytes fs
reads_real [] bytes end reads h = record { each = tt; few = omega arith }
reads_real (f ∷ fs) bytes end reads h =
    let rest = reads.0 in
    let front = reads.1.0 in
    let parts = split front rest (subst Octets reads.1.1 h) in
    let others = reads_real fs rest end reads.2 parts.1 in
    record {
      each = (real_entry front f reads.1.2 parts.0, others.each);
      few = omega (arith, others.few, field_long front f reads.1.2, ap length reads.1.1, length-append front rest);
    }

pub real_fields : (bytes : List ℕ) → Octets bytes → RealEntries bytes (fields_of bytes)
real_fields bytes h = reads_real (fields_of bytes) bytes (end_of bytes) (fields_of-reads bytes) h

-- those of one number
pub record RealValues (bytes : List ℕ) (vs : List FieldValue) : Type 0 where
  pub each : AllByRecursion RealField vs
  pub few : length vs ≤ length bytes

each_only : (n : ℕ) (fs : List Entry) → AllByRecursion (λ f. RealField f.value) fs → AllByRecursion RealField (only n fs)
each_only n [] h = tt
each_only n (f ∷ fs) h =
    elim (cases_eq f.number n) [ inl same ↦ rw (eq-eqb f.number n same) (h.0, each_only n fs h.1) | inr other ↦ rw (ne_eqb f.number n other) (each_only n fs h.1) ]

few_only : (n : ℕ) (fs : List Entry) → length (only n fs) ≤ length fs
few_only n [] = omega arith
few_only n (f ∷ fs) =
    let rest = few_only n fs in
    elim (cases_eq f.number n) [ inl same ↦ rw (eq-eqb f.number n same) (omega (arith, rest)) | inr other ↦ rw (ne_eqb f.number n other) (omega (arith, rest)) ]

pub real_only : (n : ℕ) (bytes : List ℕ) → Octets bytes → RealValues bytes (only n (fields_of bytes))
real_only n bytes h =
    let all = real_fields bytes h in
    record { each = each_only n (fields_of bytes) all.each; few = omega (arith, few_only n (fields_of bytes), all.few) }
