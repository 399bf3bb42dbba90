-- Lengths that are capped on the way.
use Rattle.std.proofs.Common.{◌≡◌, ℕ, ◌+◌, ◌*◌, ◌^◌, ◌<◌, ◌≤◌, min, List, [], ◌∷◌, ◌++◌, map, length, drop, get_or, refl, sym, ap, ◌∙◌, arith, add-one, drop-cons, length-append, inl, inr, ◌⊎◌}
use Rattle.otlp_wire.specs.Varint.{varint}
use Rattle.otlp_wire.specs.Wire as wire
use Rattle.otlp_messages.specs.Canon.{canon_row, many_row}
use Rattle.otlp_codec.specs.Lengths.{part_len}
use Rattle.otlp_codec.proofs.ValueBounds.{one_row}

pub field_len : (n : ℕ) (part : List ℕ) → length (canon_row n (wire.Bytes part ∷ [])) ≡ part_len n (length part)
field_len n part =
    let whole : length ((varint (8 * n + 2) ++ (varint (length part) ++ part)) ++ []) ≡ (length (varint (8 * n + 2)) + (length (varint (length part)) + length part)) + 0 = simp length-append refl in
    omega (arith, whole)

capped_or : (l : ℕ) → (min l (2 ^ 63) ≡ l) ⊎ (min l (2 ^ 63) ≡ 2 ^ 63) × (2 ^ 63 ≤ l)
capped_or l = go (le_or l)
  where
    le_or : (k : ℕ) → (k ≤ 2 ^ 63) ⊎ (2 ^ 63 ≤ k)
    le_or k = grind arith

    go : (l ≤ 2 ^ 63) ⊎ (2 ^ 63 ≤ l) → (min l (2 ^ 63) ≡ l) ⊎ (min l (2 ^ 63) ≡ 2 ^ 63) × (2 ^ 63 ≤ l)
    go (inl low) = inl (omega (arith, low))
    go (inr high) = inr (omega (arith, high), high)

-- a part whose length is capped first
pub part_capped : (n l : ℕ) → min (part_len n (min l (2 ^ 63))) (2 ^ 63) ≡ min (part_len n l) (2 ^ 63)
part_capped n l = go (capped_or l)
  where
    go : (min l (2 ^ 63) ≡ l) ⊎ (min l (2 ^ 63) ≡ 2 ^ 63) × (2 ^ 63 ≤ l) → min (part_len n (min l (2 ^ 63))) (2 ^ 63) ≡ min (part_len n l) (2 ^ 63)
    go (inl same) = ap (λ k. min (part_len n k) (2 ^ 63)) same
    go (inr high) = ap (λ k. min (part_len n k) (2 ^ 63)) high.0 ∙ omega (arith, high.1)

-- what is left of a repeated field
abbrev pub left : {A : Type 0} → ℕ → (A → List ℕ) → List A → ℕ
left n write xs = length (canon_row n (many_row (map write xs)))

first_len : {A : Type 0} (n : ℕ) (write : A → List ℕ) (x : A) (xs : List A) → left n write (x ∷ xs) ≡ part_len n (length (write x)) + left n write xs
first_len n write x xs =
    let whole : length ((varint (8 * n + 2) ++ (varint (length (write x)) ++ write x)) ++ canon_row n (many_row (map write xs))) ≡
    (length (varint (8 * n + 2)) + (length (varint (length (write x))) + length (write x))) + length (canon_row n (many_row (map write xs))) = simp length-append refl in
    omega (arith, whole)

-- one more part
pub more_len : {A : Type 0} (n : ℕ) (write : A → List ℕ) (xs : List A) (i : ℕ) (x : A) (total size more sum whole : ℕ) → i < length xs → x ≡ get_or xs i x → total ≤ 2 ^ 63
    → min (total + left n write (drop i xs)) (2 ^ 63) ≡ whole → size ≡ min (length (write x)) (2 ^ 63) → more ≡ min (part_len n size) (2 ^ 63) → sum ≡ min (total + more) (2 ^ 63)
    → min (sum + left n write (drop (i + 1) xs)) (2 ^ 63) ≡ whole
more_len n write xs i x total size more sum whole small at capped before size_is more_is sum_is =
    let next : drop i xs ≡ x ∷ drop (i + 1) xs = drop-cons xs i x small ∙ (λ j. sym at j ∷ drop (sym (add-one i) j) xs) in
    let first : left n write (drop i xs) ≡ part_len n (length (write x)) + left n write (drop (i + 1) xs) = ap (left n write) next ∙ first_len n write x (drop (i + 1) xs) in
    let part : more ≡ min (part_len n (length (write x))) (2 ^ 63) = more_is ∙ ap (λ k. min (part_len n k) (2 ^ 63)) size_is ∙ part_capped n (length (write x)) in
    omega (arith, first, part, before, sum_is, capped)

-- a message that was measured, as a field
pub closed_len : (n : ℕ) (r : List ℕ) (size part : ℕ) → size ≡ min (length r) (2 ^ 63) → part ≡ min (part_len n size) (2 ^ 63)
    → part ≡ min (length (canon_row n (wire.Bytes (r ++ []) ∷ []))) (2 ^ 63)
closed_len n r size part size_is part_is =
    part_is ∙ ap (λ k. min (part_len n k) (2 ^ 63)) size_is ∙ part_capped n (length r)
    ∙ ap (λ k. min k (2 ^ 63)) (ap (part_len n) (sym (one_row r)) ∙ sym (field_len n (r ++ [])))
