-- What is written reads back as it was: of one message, and of the messages of a repeated field.
use Rattle.std.proofs.Common.{◌≡◌, ℕ, ◌+◌, ◌*◌, ◌^◌, ◌<◌, ◌≤◌, List, [], ◌∷◌, ◌++◌, map, length, refl, ap, ◌∙◌, arith, length-append, append-nil, subst, Bool, true, false, inl, inr, ◌⊎◌}
use Rattle.std.specs.Prelude.{fold, ◌==◌, ◌||◌, IsTrue}
use Rattle.std.proofs.lemmas.Bool.{eqb-true}
use Rattle.otlp_model.specs.Profile.{is_id_of}
use Rattle.otlp_codec.specs.Values.{members_of}
use Rattle.otlp_codec.specs.Canonical.{members_rows}
use Rattle.otlp_messages.proofs.Canonical.{rows_read}
use Rattle.otlp_messages.specs.Canon.{canon}
use Rattle.otlp_messages.specs.Canon.{row, canon_row, bytes_row, many_row, RowFits}
use Rattle.std.specs.List.{AllByRecursion}
use Rattle.lists.proofs.Every.{every_weaker}
use Rattle.otlp_wire.specs.Varint.{varint}
use Rattle.otlp_messages.specs.declared.messages.Message.{Message}
use Rattle.otlp_messages.specs.Table.{kind_of, mark_of}
use Rattle.otlp_messages.specs.Defects.{IsFine}
use Rattle.otlp_messages.specs.Fine.{FinePart}
use Rattle.otlp_messages.specs.Rows.{many_in}
use Rattle.otlp_messages.proofs.RowKinds.{many_fits, each_back}
use Rattle.otlp_codec.proofs.Lists.{all_both, all_under}

-- the spelling of x has no defect, and reads as x
pub record Returns {A : Type 0} (m : Message) (l : ℕ) (read : List ℕ → A) (write : A → List ℕ) (x : A) : Type 0 where
  pub at : length (write x) < 2 ^ 64 → IsFine m l (write x) × (read (write x) ≡ x)

abbrev pub Returned : {A : Type 0} → Message → ℕ → (List ℕ → A) → (A → List ℕ) → A → Type 0
Returned m l read write x = IsFine m l (write x) × (read (write x) ≡ x)

-- the spellings of a repeated field are no longer than all of it
pub each_short : {A : Type 0} (write : A → List ℕ) (n : ℕ) (xs : List A) → length (canon_row n (many_row (map write xs))) < 2 ^ 64 → AllByRecursion (λ x. length (write x) < 2 ^ 64) xs
each_short write n [] h = tt
each_short write n (x ∷ xs) h =
    let tag = varint (8 * n + 2) in
    let size = varint (length (write x)) in
    let rest = canon_row n (many_row (map write xs)) in
    let whole : length ((tag ++ (size ++ write x)) ++ rest) ≡ (length tag + (length size + length (write x))) + length rest = simp length-append refl in
    (omega (arith, h, whole), each_short write n xs (omega (arith, h, whole)))

pub each_returned : {A : Type 0} (m : Message) (l : ℕ) (read : List ℕ → A) (write : A → List ℕ) (n : ℕ) (xs : List A) → AllByRecursion (Returns m l read write) xs
    → length (canon_row n (many_row (map write xs))) < 2 ^ 64 → AllByRecursion (Returned m l read write) xs
each_returned m l read write n xs all short =
    every_weaker (λ x. Returns m l read write x × (length (write x) < 2 ^ 64)) (Returned m l read write) (λ x h. h.0.at h.1) xs
    (all_both (Returns m l read write) (λ x. length (write x) < 2 ^ 64) xs all (each_short write n xs short))

pub returned_fits : {A : Type 0} (whole : Message) (levels n : ℕ) (m : Message) (l : ℕ) (read : List ℕ → A) (write : A → List ℕ) (xs : List A)
    → mark_of whole n ≡ 0 → ((part : List ℕ) → IsFine m l part → FinePart (kind_of whole n) levels part) → AllByRecursion (Returned m l read write) xs
    → RowFits whole levels (row n (many_row (map write xs)))
returned_fits whole levels n m l read write xs unmarked fine all =
    many_fits whole levels n (map write xs) unmarked
    (all_under (λ part. length part < 2 ^ 64 → FinePart (kind_of whole n) levels part) write xs
    (every_weaker (Returned m l read write) (λ x. length (write x) < 2 ^ 64 → FinePart (kind_of whole n) levels (write x)) (λ x h _. fine (write x) h.0) xs all))

pub returned_back : {A : Type 0} (m : Message) (l : ℕ) (read : List ℕ → A) (write : A → List ℕ) (xs : List A) → AllByRecursion (Returned m l read write) xs
    → fold (many_in read) [] (many_row (map write xs)) ≡ xs
returned_back m l read write xs all = each_back read write xs (every_weaker (Returned m l read write) (λ x. read (write x) ≡ x) (λ x h. h.1) xs all)

-- a part is no longer than the row that it is
pub in_row : (n : ℕ) (part : List ℕ) → length part ≤ length (canon_row n (bytes_row part))
in_row n [] = omega arith
in_row n (byte ∷ part) =
    let tag = varint (8 * n + 2) in
    let size = varint (length (byte ∷ part)) in
    let whole : length ((tag ++ (size ++ (byte ∷ part))) ++ []) ≡ (length tag + (length size + length (byte ∷ part))) + 0 = simp length-append refl in
    omega (arith, whole)

-- a message that is nothing but a repeated field of number 1
pub repeated_returns : {A : Type 0} (whole : Message) (levels : ℕ) (m : Message) (l : ℕ) (read : List ℕ → A) (write : A → List ℕ) (xs : List A)
    → mark_of whole 1 ≡ 0 → ((part : List ℕ) → IsFine m l part → FinePart (kind_of whole 1) levels part) → AllByRecursion (Returns m l read write) xs
    → length (canon (members_rows (map write xs))) < 2 ^ 64
    → IsFine whole levels (canon (members_rows (map write xs))) × (members_of read (canon (members_rows (map write xs))) ≡ xs)
repeated_returns whole levels m l read write xs unmarked fine all short =
    let row_short : length (canon_row 1 (many_row (map write xs))) < 2 ^ 64 = subst (λ (bytes : List ℕ). length bytes < 2 ^ 64) (append-nil (canon_row 1 (many_row (map write xs)))) short in
    let each = each_returned m l read write 1 xs all row_short in
    let back = rows_read whole levels (members_rows (map write xs)) refl (returned_fits whole levels 1 m l read write xs unmarked fine each, tt) short in
    (back.fine, ap (fold (many_in read) []) (back.only 1) ∙ returned_back m l read write xs each)

-- an id has no bytes or its own length
pub id_length : (size : ℕ) (id : List ℕ) → IsTrue (is_id_of size id) → (length id ≡ 0) ⊎ (length id ≡ size)
id_length size id h = go (length id == 0) (length id == size) refl refl h
  where
    go : (a b : Bool) → (length id == 0) ≡ a → (length id == size) ≡ b → (a || b) ≡ true → (length id ≡ 0) ⊎ (length id ≡ size)
    go true b none whole h = inl (eqb-true (length id) 0 none)
    go false true none whole h = inr (eqb-true (length id) size whole)
    go false false none whole h = absurd (cc)

-- no bytes are any message, without a field
pub nothing_fine : (m : Message) (l : ℕ) → IsFine m l []
nothing_fine m l = (rows_read m l [] refl tt (omega arith)).fine
