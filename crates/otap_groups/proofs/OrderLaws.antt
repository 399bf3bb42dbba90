-- The order of rows doesn't count for how often a pair is found.
use Rattle.std.proofs.Common.{◌≡◌, ℕ, ◌+◌, true, false, ◌&&◌, cond, List, [], ◌∷◌, Option, None, Some, map, refl, sym, ◌∙◌, ap, inl, inr, arith}
use Rattle.std.specs.Prelude.{◌⊎◌, filter, count_by, sum_by}
use Rattle.std.specs.List.Sorted.{IsPermutation}
use Rattle.std.proofs.lemmas.Bool.{cases_Bool}
use Rattle.std.proofs.lemmas.List.Sums.{sum_by-cons}
use Rattle.std.proofs.lemmas.List.Sorted.{sum_by-IsPermutation}
use Rattle.otlp_model.specs.Equal.{pair_is, occurrences}
use Rattle.otlp_model.specs.Same.{SameOften}
use Rattle.otlp_model.proofs.Often.{same_often_from}
use Rattle.otlp_model.specs.declared.value.Pair.{Pair}
use Rattle.otap_cells.specs.Cells.{Cell}
use Rattle.otap_groups.specs.Rows.{ChildRow, is_child_of}
use Rattle.otap_groups.specs.Children.{child_of_row, children}

module _ (item : Option ℕ → List Cell → Pair) (parent : ℕ) (pair : Pair) where
  abbrev counts : ChildRow → ℕ
  counts row = cond (is_child_of parent row && pair_is pair (child_of_row item row)) 1 0

  counted : (rows : List ChildRow) → occurrences pair (map (child_of_row item) (filter (is_child_of parent) rows)) ≡ sum_by counts rows
  unfolding occurrences
  counted [] = refl
  counted (row ∷ rows) = by (cases_Bool (is_child_of parent row)) (counted rows) where
    by : ((is_child_of parent row ≡ true) ⊎ (is_child_of parent row ≡ false))
        → count_by (pair_is pair) (map (child_of_row item) (filter (is_child_of parent) rows)) ≡ sum_by counts rows
        → count_by (pair_is pair) (map (child_of_row item) (filter (is_child_of parent) (row ∷ rows))) ≡ sum_by counts (row ∷ rows)
    by (inl hit) ih =
        rw (sum_by-cons counts row rows, hit) (sum_by-cons (λ y. cond (pair_is pair y) 1 0) (child_of_row item row) (map (child_of_row item) (filter (is_child_of parent) rows))
        ∙ ap (λ n. cond (pair_is pair (child_of_row item row)) 1 0 + n) ih)
    by (inr miss) ih = rw (sum_by-cons counts row rows, miss) (ih ∙ omega arith)

  pub counted_alike : (xs ys : List ChildRow) → IsPermutation xs ys
      → occurrences pair (map (child_of_row item) (filter (is_child_of parent) xs)) ≡ occurrences pair (map (child_of_row item) (filter (is_child_of parent) ys))
  counted_alike xs ys moved = counted xs ∙ sym (sum_by-IsPermutation counts xs ys moved) ∙ sym (counted ys)

pub reordered : (item : Option ℕ → List Cell → Pair) (xs ys : List ChildRow) → IsPermutation xs ys → (parent : Option ℕ)
    → SameOften (children item xs parent) (children item ys parent)
reordered item xs ys moved None = same_often_from (children item xs None) (children item ys None) (λ pair. refl)
reordered item xs ys moved (Some parent) =
    same_often_from (children item xs (Some parent)) (children item ys (Some parent)) (λ pair. counted_alike item parent pair xs ys moved)
