-- A field with a tag and a length of one byte each.
use Rattle.std.proofs.Common.{◌≡◌, ℕ, ◌+◌, ◌*◌, ◌<◌, ◌≤◌, List, [], ◌∷◌, ◌++◌, length, drop, refl, sym, ap, ◌∙◌, arith}
use Rattle.std.specs.Prelude.{slice_index, None}
use Rattle.otlp_wire.specs.Varint.{varint}
use Rattle.otlp_wire.specs.Wire as wire
use Rattle.otlp_wire.specs.Wire.{Entry, spelling}
use Rattle.otlp_wire.specs.Fields.{fields_of, end_of}
use Rattle.otlp_wire.proofs.FieldsOf.{first_field, no_field}
use Rattle.otlp_wire.proofs.Shortest.{varint_small}
use Rattle.otlp_wire.proofs.Written.{is_field}

short_spelling : (number : ℕ) (part : List ℕ) → number < 16 → length part < 128 → spelling (record { number = number; value = wire.Bytes part }) ≡ (8 * number + 2) ∷ length part ∷ part
short_spelling number part below short =
    let tag : varint (8 * number + 2) ≡ (8 * number + 2) ∷ [] = varint_small (8 * number + 2) (omega (arith, below)) in
    let len : varint (length part) ≡ length part ∷ [] = varint_small (length part) short in
    λ i. tag i ++ (len i ++ part)

short_front : (number : ℕ) (bytes part rest : List ℕ) → 0 < number → number < 16 → length part < 128 → bytes ≡ (8 * number + 2) ∷ length part ∷ (part ++ rest)
    → (fields_of bytes ≡ record { number = number; value = wire.Bytes part } ∷ fields_of rest) × (end_of bytes ≡ end_of rest)
short_front number bytes part rest above below short is =
    let f : Entry = record { number = number; value = wire.Bytes part } in
    first_field bytes rest f (spelling f, is ∙ sym (ap (λ front. front ++ rest) (short_spelling number part below short)), is_field f (above, omega (arith, below)) (omega (arith, short)))

-- the bytes begin with the tag and a length, which part the bytes after them
pub short_at : (number : ℕ) (bytes part rest : List ℕ) → 0 < number → number < 16 → 2 ≤ length bytes → slice_index bytes 0 ≡ 8 * number + 2 → slice_index bytes 1 < 128
    → length part ≡ slice_index bytes 1 → drop 2 bytes ≡ part ++ rest → (fields_of bytes ≡ record { number = number; value = wire.Bytes part } ∷ fields_of rest) × (end_of bytes ≡ end_of rest)
short_at number [] part rest above below long tag small size split = absurd (omega (arith, long))
short_at number (a ∷ []) part rest above below long tag small size split = absurd (omega (arith, long))
short_at number (a ∷ len ∷ bytes) part rest above below long tag small size split =
    short_front number (a ∷ len ∷ bytes) part rest above below (omega (arith, small, size)) (λ i. tag i ∷ sym size i ∷ split i)

-- nothing is left
pub none_left : (rest : List ℕ) → length rest < 1 → (fields_of rest ≡ []) × (end_of rest ≡ None)
none_left [] short = no_field [] refl
none_left (byte ∷ rest) short = absurd (omega (arith, short))
