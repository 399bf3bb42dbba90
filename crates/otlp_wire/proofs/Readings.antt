-- All bytes have exactly one reading.
use Rattle.std.proofs.Common.{◌≡◌, ℕ, zero, suc, ◌<◌, ◌≤◌, List, [], ◌∷◌, ◌++◌, length, append_assoc, Option, Some, None, Result, Ok, Err, refl, sym, ap, ◌∙◌, subst, arith}
use Rattle.std.proofs.lemmas.List.{length-append}
use Rattle.otlp_wire.specs.declared.parts.WireError.{WireError}
use Rattle.otlp_wire.specs.Wire.{FieldValue, Varint, Fixed64, Bytes, Fixed32, Entry, IsValue, IsField}
use Rattle.otlp_wire.specs.Reading.{Begins, Faults, Reads, Spells}
use Rattle.otlp_wire.specs.Fields.{FieldsReading, and_then, reading_in, first_field}
use Rattle.otlp_wire.proofs.Values.{field_ok, field_err, FieldIs, first_field_is, field_long}

-- bytes that begin with a field are not empty
not_empty : (bytes rest : List ℕ) (f : Entry) → Begins (λ front. IsField front f) bytes rest → 0 < length bytes
not_empty bytes rest f b = rw b.1 (omega (arith, length-append b.0 rest, field_long b.0 f b.2))

abbrev field_is : Entry → List ℕ → Result (Entry × List ℕ) WireError
field_is f rest = Ok (f, rest)

abbrev fault_is : WireError → Result (Entry × List ℕ) WireError
fault_is e = Err e

same_field : (bytes r s : List ℕ) (f g : Entry) → Begins (λ front. IsField front f) bytes r → Begins (λ front. IsField front g) bytes s → (f ≡ g) × (r ≡ s)
same_field bytes r s f g a b =
    let same : field_is f r ≡ field_is g s = sym (field_ok f bytes r a) ∙ field_ok g bytes s b in
    let p : (Entry × List ℕ) = (f, r) in
    let q : (Entry × List ℕ) = (g, s) in
    let pair : p ≡ q = cc in
    (ap (λ x. x.0) pair, ap (λ x. x.1) pair)

nothing_there : (bytes rest : List ℕ) (f : Entry) → bytes ≡ [] → Begins (λ front. IsField front f) bytes rest → ⊥
nothing_there bytes rest f none b = omega (arith, rw none at (not_empty bytes rest f b))

none_long : (bytes : List ℕ) → bytes ≡ [] → 0 < length bytes → ⊥
none_long bytes none long = omega (arith, rw none at long)

fault_or_field : (bytes rest : List ℕ) (f : Entry) (e : WireError) → Faults bytes e → Begins (λ front. IsField front f) bytes rest → ⊥
fault_or_field bytes rest f e fault b =
    let same : fault_is e ≡ field_is f rest = sym (field_err bytes e fault) ∙ field_ok f bytes rest b in cc

same_fault : (bytes : List ℕ) (d e : WireError) → Faults bytes d → Faults bytes e → d ≡ e
same_fault bytes d e a b =
    let same : fault_is d ≡ fault_is e = sym (field_err bytes d a) ∙ field_err bytes e b in cc

pub one_reading : (bytes : List ℕ) (fs gs : List Entry) (d e : Option WireError) → Reads bytes fs d → Reads bytes gs e → (fs ≡ gs) × (d ≡ e)
one_reading bytes [] [] None None a b = (refl, refl)
one_reading bytes [] [] None (Some e) a b = absurd (none_long bytes a b.0)
one_reading bytes [] [] (Some d) None a b = absurd (none_long bytes b a.0)
one_reading bytes [] [] (Some d) (Some e) a b = (refl, ap (λ f. Some f) (same_fault bytes d e a.1 b.1))
one_reading bytes [] (g ∷ gs) None e a b = absurd (nothing_there bytes b.0 g a b.1)
one_reading bytes [] (g ∷ gs) (Some d) e a b = absurd (fault_or_field bytes b.0 g d a.1 b.1)
one_reading bytes (f ∷ fs) [] d None a b = absurd (nothing_there bytes a.0 f b a.1)
one_reading bytes (f ∷ fs) [] d (Some e) a b = absurd (fault_or_field bytes a.0 f e b.1 a.1)
one_reading bytes (f ∷ fs) (g ∷ gs) d e a b =
    let first = same_field bytes a.0 b.0 f g a.1 b.1 in
    let others = one_reading a.0 fs gs d e a.2 (subst (λ (r : List ℕ). Reads r gs e) (sym first.1) b.2) in
    (ap (λ h. h ∷ fs) first.0 ∙ ap (λ hs. g ∷ hs) others.0, others.1)

-- the rest after a field is shorter
shorter : (bytes rest : List ℕ) (f : Entry) → Begins (λ front. IsField front f) bytes rest → length rest < length bytes
shorter bytes rest f b = rw b.1 (omega (arith, length-append b.0 rest, field_long b.0 f b.2))

-- a reading of the rest after the field is one of the whole
read_on : (bytes : List ℕ) (read : List ℕ → FieldsReading) → 0 < length bytes → ((rest : List ℕ) → length rest < length bytes → Reads rest (read rest).fields (read rest).end)
    → (x : Result (Entry × List ℕ) WireError) → FieldIs bytes x → Reads bytes (and_then read x).fields (and_then read x).end
read_on bytes read long others (Ok x) b = (x.1, b, others x.1 (shorter bytes x.1 x.0 b))
read_on bytes read long others (Err e) f = (long, f)

reading_within : (most : ℕ) (bytes : List ℕ) → length bytes ≤ most → Reads bytes (reading_in most bytes).fields (reading_in most bytes).end
reading_within most [] small = refl
reading_within zero (byte ∷ bytes) small = absurd (omega arith)
reading_within (suc most) (byte ∷ bytes) small =
    read_on (byte ∷ bytes) (λ rest. reading_in most rest) (omega arith) (λ rest less. reading_within most rest (omega arith)) (first_field (byte ∷ bytes)) (first_field_is (byte ∷ bytes))

pub reading_is : (bytes : List ℕ) → Reads bytes (reading_in (length bytes) bytes).fields (reading_in (length bytes) bytes).end
reading_is bytes = reading_within (length bytes) bytes (omega arith)

-- bytes that encode fields, and then bytes with a reading
pub joined : (front rest : List ℕ) (fs gs : List Entry) (end : Option WireError) → Spells front fs → Reads rest gs end → Reads (front ++ rest) (fs ++ gs) end
joined front rest [] gs end spells reads = subst (λ (f : List ℕ). Reads (f ++ rest) gs end) (sym spells) reads
joined front rest (f ∷ fs) gs end spells reads =
    let b = spells.1 in
    (spells.0 ++ rest, (b.0, ap (λ p. p ++ rest) b.1 ∙ append_assoc b.0 spells.0 rest, b.2), joined spells.0 rest fs gs end spells.2 reads)

-- how many bytes a value holds
abbrev pub part_len : FieldValue → ℕ
part_len (Bytes part) = length part
part_len value = 0

field_within : (front : List ℕ) (f : Entry) → IsField front f → part_len f.value < length front
field_within front f h = go f.value h.value h.is_value (rw h.whole (omega (arith, length-append h.tag h.value, h.is_tag.size)))
  where
    go : (v : FieldValue) (value : List ℕ) → IsValue value v → length value < length front → part_len v < length front
    go (Varint n) value is less = omega arith
    go (Fixed64 n) value is less = omega arith
    go (Fixed32 n) value is less = omega arith
    go (Bytes part) value is less = (let split = is.2 in omega (arith, ap length split, length-append is.0 part))

-- the bytes in a value are fewer than those of the whole
pub part_within : (bytes : List ℕ) (f : Entry) (before after : List Entry) (end : Option WireError)
    → Reads bytes (before ++ f ∷ after) end → part_len f.value < length bytes
part_within bytes f [] after end reads =
    let b = reads.1 in
    rw b.1 (omega (arith, length-append b.0 reads.0, field_within b.0 f b.2))
part_within bytes f (g ∷ before) after end reads =
    omega (arith, shorter bytes reads.0 g reads.1, part_within reads.0 f before after end reads.2)
