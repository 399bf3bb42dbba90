-- Lists of numbers as bytes and back: how many bytes they take, that they come back, and what the loops that read them keep.
use Rattle.std.proofs.Common.{◌≡◌, ℕ, suc, ◌+◌, ◌*◌, ◌-◌, ◌/◌, ◌%◌, ◌^◌, ◌<◌, min, List, [], ◌∷◌, ◌++◌, length, drop, append_assoc, append-nil, inl, inr, refl, sym, ap, ◌∙◌, arith}
use Rattle.std.specs.Prelude.{All, nat_lt}
use Rattle.std.proofs.lemmas.Bool.{cases_Bool, ltb-false, ltb-true}
use Rattle.std.proofs.lemmas.List.{drop-drop, length-append}
use Rattle.std.proofs.lemmas.List.Elements.{All-head, All-tail}
use Rattle.byteorder.specs.Endian.{little_bytes, little_number}
use Rattle.byteorder.specs.Numbers.{length-bytes_low_first, little_number-reads_back}
use Rattle.lists.proofs.Numbers.{eights_divided, eights_whole}
use Rattle.otlp_model.specs.declared.histograms.Quantile.{Quantile}
use Rattle.otap_cells.proofs.ScalarLaws.{text_back}
use Rattle.lists.specs.Numbers.{little_numbers}
use Rattle.otap_points.specs.Lists.{bytes_of, list_cell, list_in}
use Rattle.otap_points.specs.Points.{quantiles_of}

-- ---- how many bytes

pub length_bytes : (ns : List ℕ) → length (bytes_of ns) ≡ 8 * length ns
length_bytes [] = refl
length_bytes (n ∷ ns) = omega (arith, length-append (little_bytes 8 n) (bytes_of ns), length-bytes_low_first 0 8 n, length_bytes ns)

pub whole_bytes : (bytes : List ℕ) (ns : List ℕ) → bytes ≡ bytes_of ns → length bytes % 8 ≡ 0
whole_bytes bytes ns are = ap (λ (bytes : List ℕ). length bytes % 8) are ∙ ap (λ n. n % 8) (length_bytes ns) ∙ eights_whole (length ns)

-- ---- that they come back

numbers_back : (ns : List ℕ) → All (λ n. n < 2 ^ 64) ns → little_numbers (length ns) (bytes_of ns) ≡ ns
numbers_back [] small = refl
numbers_back (n ∷ ns) small =
    ap (λ x. x ∷ little_numbers (length ns) (drop 8 (bytes_of (n ∷ ns)))) (little_number-reads_back 8 n (bytes_of ns) (All-head (λ n. n < 2 ^ 64) n ns small))
    ∙ ap (λ rest. n ∷ rest) (numbers_back ns (All-tail (λ n. n < 2 ^ 64) n ns small))

pub list_back : (ns : List ℕ) → All (λ n. n < 2 ^ 64) ns → list_in (list_cell ns) ≡ ns
list_back ns small =
    ap (λ (part : List ℕ). little_numbers (length part / 8) part) (text_back (bytes_of ns))
    ∙ ap (λ count. little_numbers count (bytes_of ns)) (ap (λ size. size / 8) (length_bytes ns) ∙ eights_divided (length ns)) ∙ numbers_back ns small

-- ---- reading them one by one

-- the numbers from a place on
abbrev pub from : List ℕ → ℕ → ℕ → List ℕ
from part count place = little_numbers (count - place) (drop (8 * place) part)

pub first_of : (part : List ℕ) (count place x : ℕ) → place < count → x ≡ little_number 8 (drop (8 * place) part) → from part count place ≡ x ∷ from part count (place + 1)
first_of part count place x below is =
    let left : count - place ≡ suc (count - (place + 1)) = omega (arith, below) in
    let next : drop 8 (drop (8 * place) part) ≡ drop (8 * (place + 1)) part = drop-drop 8 (8 * place) part ∙ ap (λ n. drop n part) (omega arith) in
    ap (λ n. little_numbers n (drop (8 * place) part)) left ∙ (λ i. sym is i ∷ little_numbers (count - (place + 1)) (next i))

pub one_more : (part old new whole : List ℕ) (count place x : ℕ) → place < count → old ++ from part count place ≡ whole
    → x ≡ little_number 8 (drop (8 * place) part) → new ≡ old ++ x ∷ [] → new ++ from part count (place + 1) ≡ whole
one_more part old new whole count place x below before is more =
    ap (λ xs. xs ++ from part count (place + 1)) more ∙ append_assoc old (x ∷ []) (from part count (place + 1))
    ∙ ap (λ xs. old ++ xs) (sym (first_of part count place x below is)) ∙ before

-- ---- quantiles, from two lists

pub quantiles_more : (part other : List ℕ) (old new whole : List Quantile) (count many place x y : ℕ) → place < count → place < many
    → old ++ quantiles_of (from part count place) (from other many place) ≡ whole
    → x ≡ little_number 8 (drop (8 * place) part) → y ≡ little_number 8 (drop (8 * place) other) → new ≡ old ++ record { quantile = x; value = y } ∷ []
    → new ++ quantiles_of (from part count (place + 1)) (from other many (place + 1)) ≡ whole
quantiles_more part other old new whole count many place x y below low before is_x is_y more =
    let rest : List Quantile = quantiles_of (from part count (place + 1)) (from other many (place + 1)) in
    let q : Quantile = record { quantile = x; value = y } in
    ap (λ xs. xs ++ rest) more ∙ append_assoc old (q ∷ []) rest
    ∙ ap (λ xs. old ++ xs) (λ i. quantiles_of (sym (first_of part count place x below is_x) i) (sym (first_of other many place y low is_y) i)) ∙ before

no_values : (qs : List ℕ) → quantiles_of qs [] ≡ []
no_values [] = refl
no_values (q ∷ qs) = refl

-- at the end of the shorter one
pub quantiles_end : (part other : List ℕ) (found whole : List Quantile) (count many place : ℕ) → place ≡ min count many
    → found ++ quantiles_of (from part count place) (from other many place) ≡ whole → found ≡ whole
quantiles_end part other found whole count many place at before = elim (cases_Bool (nat_lt count many)) [
  | inl less ↦
      let none : count - place ≡ 0 = let l = ltb-true count many less in omega (arith, at, l) in
      sym (append-nil found) ∙ ap (λ xs. found ++ xs) (ap (λ n. quantiles_of (little_numbers n (drop (8 * place) part)) (from other many place)) (sym none)) ∙ before
  | inr more ↦
      let none : many - place ≡ 0 = let l = ltb-false count many more in omega (arith, at, l) in
      sym (append-nil found) ∙ ap (λ xs. found ++ xs) (sym (no_values (from part count place)) ∙ ap (λ n. quantiles_of (from part count place) (little_numbers n (drop (8 * place) other))) (sym none)) ∙ before
]
