-- The fields that `fields_of` names are the one reading of the bytes.
use Rattle.std.proofs.Common.{◌≡◌, ◌<◌, ℕ, length, List, [], ◌∷◌, ◌++◌, Option, Some, None, refl, subst}
use Rattle.otlp_wire.specs.declared.parts.WireError.{WireError}
use Rattle.otlp_wire.specs.Wire.{Entry, IsField}
use Rattle.otlp_wire.specs.Reading.{Begins, Faults, Reads, Spells}
use Rattle.otlp_wire.specs.Fields.{fields_of, end_of}
use Rattle.otlp_wire.proofs.Readings.{reading_is, one_reading, joined, part_len, part_within}

pub fields_of-reads : (bytes : List ℕ) → Reads bytes (fields_of bytes) (end_of bytes)
unfolding fields_of end_of
fields_of-reads bytes = reading_is bytes

pub fields_of-only : (bytes : List ℕ) (fs : List Entry) (end : Option WireError) → Reads bytes fs end → (fields_of bytes ≡ fs) × (end_of bytes ≡ end)
fields_of-only bytes fs end reads = one_reading bytes (fields_of bytes) fs (end_of bytes) end (fields_of-reads bytes) reads

pub first_field : (old rest : List ℕ) (f : Entry) → Begins (λ front. IsField front f) old rest → (fields_of old ≡ f ∷ fields_of rest) × (end_of old ≡ end_of rest)
first_field old rest f b = fields_of-only old (f ∷ fields_of rest) (end_of rest) (rest, b, fields_of-reads rest)

pub first_fault : (old : List ℕ) (e : WireError) → 0 < length old → Faults old e → (fields_of old ≡ []) × (end_of old ≡ Some e)
first_fault old e some fault = fields_of-only old [] (Some e) (some, fault)

pub no_field : (old : List ℕ) → old ≡ [] → (fields_of old ≡ []) × (end_of old ≡ None)
no_field old none = fields_of-only old [] None none

pub fields_of_nothing : fields_of [] ≡ []
fields_of_nothing = (no_field [] refl).0

pub fields_of-joined : (front rest : List ℕ) (fs : List Entry) → Spells front fs → (fields_of (front ++ rest) ≡ fs ++ fields_of rest) × (end_of (front ++ rest) ≡ end_of rest)
fields_of-joined front rest fs spells =
    fields_of-only (front ++ rest) (fs ++ fields_of rest) (end_of rest) (joined front rest fs (fields_of rest) (end_of rest) spells (fields_of-reads rest))

-- a field that occurs holds fewer bytes than the whole has
pub part_is_shorter : (bytes : List ℕ) (f : Entry) (before after : List Entry) → fields_of bytes ≡ before ++ f ∷ after → part_len f.value < length bytes
part_is_shorter bytes f before after is =
    part_within bytes f before after (end_of bytes) (subst (λ (fs : List Entry). Reads bytes fs (end_of bytes)) is (fields_of-reads bytes))
