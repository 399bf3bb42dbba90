-- Packed numbers: what the loop that reads them keeps, and how many bytes they take.
use Rattle.std.proofs.Common.{◌≡◌, ◌≢◌, ℕ, suc, ◌+◌, ◌*◌, ◌-◌, ◌^◌, ◌<◌, min, List, [], ◌∷◌, ◌++◌, length, drop, append_assoc, refl, sym, ap, ◌∙◌, arith}
use Rattle.std.proofs.lemmas.List.{drop-drop}
use Rattle.byteorder.specs.Endian.{little_number}
use Rattle.lists.specs.Numbers.{little_numbers}
use Rattle.otlp_messages.specs.Canon.{canon_row, packed_row}
use Rattle.otlp_messages.proofs.Packed.{run, length-run}
use Rattle.otlp_codec.specs.Lengths.{part_len}
use Rattle.otlp_codec.proofs.Lens.{field_len, part_capped}

-- one more number
pub one_more : (part old new whole : List ℕ) (count place x : ℕ) → place < count → old ++ little_numbers (count - place) (drop (8 * place) part) ≡ whole
    → x ≡ little_number 8 (drop (8 * place) part) → new ≡ old ++ x ∷ [] → new ++ little_numbers (count - (place + 1)) (drop (8 * (place + 1)) part) ≡ whole
one_more part old new whole count place x below before is more =
    let left : count - place ≡ suc (count - (place + 1)) = omega (arith, below) in
    let next : drop 8 (drop (8 * place) part) ≡ drop (8 * (place + 1)) part = drop-drop 8 (8 * place) part ∙ ap (λ n. drop n part) (omega arith) in
    let first : little_numbers (count - place) (drop (8 * place) part) ≡ x ∷ little_numbers (count - (place + 1)) (drop (8 * (place + 1)) part) =
    ap (λ n. little_numbers n (drop (8 * place) part)) left
    ∙ (λ i. sym is i ∷ little_numbers (count - (place + 1)) (next i)) in
    ap (λ xs. xs ++ little_numbers (count - (place + 1)) (drop (8 * (place + 1)) part)) more
    ∙ append_assoc old (x ∷ []) (little_numbers (count - (place + 1)) (drop (8 * (place + 1)) part))
    ∙ ap (λ xs. old ++ xs) (sym first) ∙ before

-- packed numbers as a field, measured with a cap
pub packed_len : (n : ℕ) (ns : List ℕ) (size part : ℕ) → ns ≢ [] → size ≡ min (8 * length ns) (2 ^ 63) → part ≡ min (part_len n size) (2 ^ 63)
    → part ≡ min (length (canon_row n (packed_row ns))) (2 ^ 63)
packed_len n [] size part some is len = absurd (some refl)
packed_len n (x ∷ ns) size part some is len =
    len ∙ ap (λ k. min (part_len n k) (2 ^ 63)) is ∙ part_capped n (8 * length (x ∷ ns))
    ∙ ap (λ k. min (part_len n k) (2 ^ 63)) (sym (length-run (x ∷ ns)))
    ∙ ap (λ k. min k (2 ^ 63)) (sym (field_len n (run (x ∷ ns))))
