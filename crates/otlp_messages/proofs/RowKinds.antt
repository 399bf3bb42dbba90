-- What is written of each kind fits the table and reads back.
use Rattle.std.proofs.Common.{◌≡◌, ℕ, ◌%◌, ◌^◌, ◌<◌, List, [], ◌∷◌, ◌++◌, length, append_assoc, append-nil, Bool, true, false, ℤ, pos, negsuc, refl, sym, ap, ◌∙◌, arith, inl, inr}
use Rattle.std.specs.Prelude.{map, fold, FitsSigned}
use Rattle.std.specs.Int.{w32, w64, cast_signed, cast_unsigned}
use Rattle.std.specs.List.{AllByRecursion}
use Rattle.std.proofs.lemmas.Bool.{cases_eq, ne_eqb, eq-eqb}
use Rattle.std.proofs.lemmas.Int.{to_z-of_z}
use Rattle.otlp_messages.specs.declared.messages.Message.{Message}
use Rattle.otlp_messages.specs.declared.messages.FieldKind.TheVariants as kinds
use Rattle.otlp_wire.specs.Wire.{FieldValue, Varint, Fixed64, Bytes, Fixed32, Fits, spelling}
use Rattle.otlp_messages.specs.Table.{kind_of, mark_of}
use Rattle.otlp_messages.specs.Fine.{FinePart, FineValue}
use Rattle.otlp_messages.specs.Rows.{fixed64_in, fixed32_in, uint32_in, int32_in, int64_in, bool_in, bytes_in, embedded_in, many_in, parts_of}
use Rattle.otlp_messages.specs.Canon.{row, varint_row, signed_row, bool_row, fixed64_row, fixed32_row, bytes_row, many_row, canon_row, FitsLength, RowFits}
use Rattle.otlp_messages.proofs.Canonical.{short_value}
use Rattle.std.proofs.lemmas.List.{length-append}
use Rattle.lists.proofs.Every.{map_back}
use Rattle.lists.proofs.Numbers.{unsigned_small}

-- a value at most, of the kind of its number
one_fits : (m : Message) (l n : ℕ) (v : FieldValue) → (FitsLength v → Fits v × FineValue (kind_of m n) l v) → RowFits m l (row n (v ∷ []))
one_fits m l n v fits = record { few = inr (omega arith); fine = (fits, tt) }

pub none_fits : (m : Message) (l n : ℕ) → RowFits m l (row n [])
none_fits m l n = record { few = inr (omega arith); fine = tt }

pub varint_fits : (m : Message) (l n x : ℕ) → kind_of m n ≡ kinds.Varint → x < 2 ^ 64 → RowFits m l (row n (varint_row x))
varint_fits m l n x is small =
    elim (cases_eq x 0) [
      | inl none ↦ rw (eq-eqb x 0 none) (none_fits m l n)
      | inr some ↦ rw (ne_eqb x 0 some) (one_fits m l n (Varint x) (λ _. (small, rw is refl)))
    ]

pub varint_field_fits : (m : Message) (l n x : ℕ) → kind_of m n ≡ kinds.Varint → x < 2 ^ 64 → RowFits m l (row n (Varint x ∷ []))
varint_field_fits m l n x is small = one_fits m l n (Varint x) (λ _. (small, rw is refl))

pub fixed64_fits : (m : Message) (l n x : ℕ) → kind_of m n ≡ kinds.Fixed64 → x < 2 ^ 64 → RowFits m l (row n (fixed64_row x))
fixed64_fits m l n x is small =
    elim (cases_eq x 0) [
      | inl none ↦ rw (eq-eqb x 0 none) (none_fits m l n)
      | inr some ↦ rw (ne_eqb x 0 some) (one_fits m l n (Fixed64 x) (λ _. (small, rw is refl)))
    ]

pub fixed64_field_fits : (m : Message) (l n x : ℕ) → kind_of m n ≡ kinds.Fixed64 → x < 2 ^ 64 → RowFits m l (row n (Fixed64 x ∷ []))
fixed64_field_fits m l n x is small = one_fits m l n (Fixed64 x) (λ _. (small, rw is refl))

pub fixed32_fits : (m : Message) (l n x : ℕ) → kind_of m n ≡ kinds.Fixed32 → x < 2 ^ 32 → RowFits m l (row n (fixed32_row x))
fixed32_fits m l n x is small =
    elim (cases_eq x 0) [
      | inl none ↦ rw (eq-eqb x 0 none) (none_fits m l n)
      | inr some ↦ rw (ne_eqb x 0 some) (one_fits m l n (Fixed32 x) (λ _. (small, rw is refl)))
    ]

pub bool_fits : (m : Message) (l n : ℕ) (b : Bool) → kind_of m n ≡ kinds.Varint → RowFits m l (row n (bool_row b))
bool_fits m l n true is = one_fits m l n (Varint 1) (λ _. (omega arith, rw is refl))
bool_fits m l n false is = none_fits m l n

-- a signed number of 64 bits
pub signed_fits : (m : Message) (l n : ℕ) (z : ℤ) → kind_of m n ≡ kinds.Varint → FitsSigned w64 z → RowFits m l (row n (signed_row z))
signed_fits m l n z is fits = varint_fits m l n (cast_unsigned w64 z) is (unsigned_small z fits)

-- bytes, a text, an id or a message that occurs once: what the kind of its number asks of it
pub part_fits : (m : Message) (l n : ℕ) (part : List ℕ) → (length part < 2 ^ 64 → FinePart (kind_of m n) l part) → RowFits m l (row n (bytes_row part))
part_fits m l n [] fine = none_fits m l n
part_fits m l n (byte ∷ part) fine = one_fits m l n (Bytes (byte ∷ part)) (λ short. (short, fine short))

pub part_field_fits : (m : Message) (l n : ℕ) (part : List ℕ) → (length part < 2 ^ 64 → FinePart (kind_of m n) l part) → RowFits m l (row n (Bytes part ∷ []))
part_field_fits m l n part fine = one_fits m l n (Bytes part) (λ short. (short, fine short))

-- messages that occur any number of times
pub many_fits : (m : Message) (l n : ℕ) (parts : List (List ℕ)) → mark_of m n ≡ 0 → AllByRecursion (λ part. length part < 2 ^ 64 → FinePart (kind_of m n) l part) parts
    → RowFits m l (row n (many_row parts))
many_fits m l n parts unmarked fine = record { few = inl unmarked; fine = each parts fine }
  where
    each : (ps : List (List ℕ)) → AllByRecursion (λ part. length part < 2 ^ 64 → FinePart (kind_of m n) l part) ps
        → AllByRecursion (λ v. FitsLength v → Fits v × FineValue (kind_of m n) l v) (many_row ps)
    each [] h = tt
    each (part ∷ ps) h = ((λ short. (short, h.0 short)), each ps h.1)

-- what is written is read
pub uint32_back : (x : ℕ) → x < 2 ^ 32 → fold uint32_in 0 (varint_row x) ≡ x
uint32_back x small =
    elim (cases_eq x 0) [
      | inl none ↦ rw (eq-eqb x 0 none) (sym none)
      | inr some ↦ rw (ne_eqb x 0 some) (omega arith)
    ]

pub fixed64_back : (x : ℕ) → fold fixed64_in 0 (fixed64_row x) ≡ x
fixed64_back x =
    elim (cases_eq x 0) [
      | inl none ↦ rw (eq-eqb x 0 none) (sym none)
      | inr some ↦ rw (ne_eqb x 0 some) refl
    ]

pub fixed32_back : (x : ℕ) → fold fixed32_in 0 (fixed32_row x) ≡ x
fixed32_back x =
    elim (cases_eq x 0) [
      | inl none ↦ rw (eq-eqb x 0 none) (sym none)
      | inr some ↦ rw (ne_eqb x 0 some) refl
    ]

pub bool_back : (b : Bool) → fold bool_in false (bool_row b) ≡ b
bool_back true = refl
bool_back false = refl

pub int64_back : (z : ℤ) → FitsSigned w64 z → fold int64_in (pos 0) (signed_row z) ≡ z
int64_back z fits =
    let same = to_z-of_z w64 z fits in
    elim (cases_eq (cast_unsigned w64 z) 0) [
      | inl none ↦ rw (eq-eqb (cast_unsigned w64 z) 0 none) (rw none at same)
      | inr some ↦ rw (ne_eqb (cast_unsigned w64 z) 0 some) same
    ]

low_bits : (z : ℤ) → FitsSigned w32 z → cast_unsigned w64 z % 2 ^ 32 ≡ cast_unsigned w32 z
low_bits (pos n) h = omega (arith, h.sfits)
low_bits (negsuc n) h = omega (arith, h.sfits)

pub int32_back : (z : ℤ) → FitsSigned w32 z → fold int32_in (pos 0) (signed_row z) ≡ z
int32_back z fits =
    let same : cast_signed w32 (cast_unsigned w64 z % 2 ^ 32) ≡ z = ap (cast_signed w32) (low_bits z fits) ∙ to_z-of_z w32 z fits in
    elim (cases_eq (cast_unsigned w64 z) 0) [
      | inl none ↦ rw (eq-eqb (cast_unsigned w64 z) 0 none) (rw none at same)
      | inr some ↦ rw (ne_eqb (cast_unsigned w64 z) 0 some) same
    ]

pub bytes_back : (part : List ℕ) → fold bytes_in [] (bytes_row part) ≡ part
bytes_back [] = refl
bytes_back (byte ∷ part) = refl

pub embedded_back : {A : Type 0} (read : List ℕ → A) (none x : A) (part : List ℕ) → none ≡ read [] → read part ≡ x → fold (embedded_in read) none (bytes_row part) ≡ x
embedded_back read none x [] empty same = empty ∙ same
embedded_back read none x (byte ∷ part) empty same = same

many_onto : {A : Type 0} (read : List ℕ → A) (xs : List A) (parts : List (List ℕ)) → fold (many_in read) xs (many_row parts) ≡ xs ++ map read parts
many_onto read xs [] = sym (append-nil xs)
many_onto read xs (part ∷ parts) = many_onto read (xs ++ read part ∷ []) parts ∙ append_assoc xs (read part ∷ []) (map read parts)

pub many_back : {A : Type 0} (read : List ℕ → A) (parts : List (List ℕ)) → fold (many_in read) [] (many_row parts) ≡ map read parts
many_back read parts = many_onto read [] parts

-- each of them by what writes one
pub each_back : {A : Type 0} (read : List ℕ → A) (write : A → List ℕ) (xs : List A) → AllByRecursion (λ x. read (write x) ≡ x) xs
    → fold (many_in read) [] (many_row (map write xs)) ≡ xs
each_back read write xs h = many_back read (map write xs) ∙ map_back read write xs h

-- the parts of a row are short where the row is
pub short_parts : (n : ℕ) (parts : List (List ℕ)) → length (canon_row n (many_row parts)) < 2 ^ 64 → AllByRecursion (λ part. length part < 2 ^ 64) parts
short_parts n [] small = tt
short_parts n (part ∷ parts) small =
    let size = length-append (spelling (record { number = n; value = Bytes part })) (canon_row n (many_row parts)) in
    (short_value n (Bytes part) (omega (arith, size)), short_parts n parts (omega (arith, size)))

pub parts_of-many_row : (parts : List (List ℕ)) → parts_of (many_row parts) ≡ parts
parts_of-many_row [] = refl
parts_of-many_row (part ∷ parts) = ap (λ ps. part ∷ ps) (parts_of-many_row parts)
