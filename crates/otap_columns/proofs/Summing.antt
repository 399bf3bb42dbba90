-- Sums over columns, and over the cells of their rows.
use Rattle.std.proofs.Common.{◌≡◌, ℕ, zero, suc, ◌+◌, ◌*◌, ◌<◌, ◌≤◌, List, [], ◌∷◌, length, get_or, refl, sym, ap, ◌∙◌, arith}
use Rattle.std.specs.Prelude.{sum_by}
use Rattle.std.specs.List.{range_with_len}
use Rattle.std.proofs.lemmas.List.Sums.{sum_by-cons}
use Rattle.lists.proofs.MadeSums.{sum_of_both}
use Rattle.otap_cells.specs.Cells.{Cell, null}
use Rattle.otap_cells.specs.Tables.{column_in}
use Rattle.otap_cells.specs.Weights.{cell_weight, weight_of_row}

-- ---- sums

distribute : (a b k : ℕ) → (a + b) * k ≡ a * k + b * k
distribute a b k = grind arith

pub sum_of-times : {A : Type 0} (f : A → ℕ) (k : ℕ) (xs : List A) → sum_by (λ x. f x * k) xs ≡ sum_by f xs * k
sum_of-times f k [] = omega arith
sum_of-times f k (x ∷ xs) =
    sum_by-cons (λ x. f x * k) x xs ∙ ap (λ (n : ℕ). f x * k + n) (sum_of-times f k xs) ∙ sym (distribute (f x) (sum_by f xs) k) ∙ ap (λ (n : ℕ). n * k) (sym (sum_by-cons f x xs))

pub sum_of-same : {A : Type 0} (k : ℕ) (xs : List A) → sum_by (λ x. k) xs ≡ length xs * k
sum_of-same k [] = omega arith
sum_of-same {A = A} k (x ∷ xs) =
    sum_by-cons (λ (x : A). k) x xs ∙ ap (λ (n : ℕ). k + n) (sum_of-same k xs) ∙ one_more (length xs) k
  where
    one_more : (n k : ℕ) → k + n * k ≡ suc n * k
    one_more n k = grind arith

-- ---- numbers one after the other

pub sum_of-less : (f g : ℕ → ℕ) (a n : ℕ) → ((k : ℕ) → k < a + n → f k ≤ g k) → sum_by f (range_with_len a n) ≤ sum_by g (range_with_len a n)
sum_of-less f g a zero each = omega arith
sum_of-less f g a (suc n) each =
    omega (arith, sum_by-cons f a (range_with_len (a + 1) n), sum_by-cons g a (range_with_len (a + 1) n), each a (omega arith), sum_of-less f g (a + 1) n (λ k low. each k (omega (arith, low))))

shifted : (f : ℕ → ℕ) (a n : ℕ) → sum_by f (range_with_len (a + 1) n) ≡ sum_by (λ k. f (suc k)) (range_with_len a n)
shifted f a zero = refl
shifted f a (suc n) =
    let same : a + 1 ≡ suc a = omega arith in
    sum_by-cons f (a + 1) (range_with_len (a + 1 + 1) n) ∙ (λ i. f (same i) + shifted f (a + 1) n i) ∙ sym (sum_by-cons (λ k. f (suc k)) a (range_with_len (a + 1) n))

-- ---- the weight of a table, column by column

row_cells : (row : List Cell) (n : ℕ) → sum_by (λ (column : ℕ). cell_weight (get_or row column null)) (range_with_len 0 n) ≤ sum_by cell_weight row
row_cells [] n = omega (arith, sum_of-same 0 (range_with_len 0 n))
row_cells (c ∷ row) zero = omega arith
row_cells (c ∷ row) (suc n) =
    omega (
      arith,
      sum_by-cons (λ (column : ℕ). cell_weight (get_or (c ∷ row) column null)) 0 (range_with_len 1 n),
      shifted (λ (column : ℕ). cell_weight (get_or (c ∷ row) column null)) 0 n,
      row_cells row n,
      sum_by-cons cell_weight c row,
    )

pub columns_weigh : (rows : List (List Cell)) (n : ℕ) → sum_by (λ (column : ℕ). sum_by cell_weight (column_in rows column)) (range_with_len 0 n) + 32 * length rows ≤ sum_by weight_of_row rows
columns_weigh [] n = omega (arith, sum_of-same 0 (range_with_len 0 n))
columns_weigh (r ∷ rows) n =
    let first : ℕ → ℕ = λ column. cell_weight (get_or r column null) in
    let rest : ℕ → ℕ = λ column. sum_by cell_weight (column_in rows column) in
    omega (
      arith,
      sum_of-less (λ (column : ℕ). sum_by cell_weight (column_in (r ∷ rows) column)) (λ column. first column + rest column) 0 n
          (λ column low. omega (arith, sum_by-cons cell_weight (get_or r column null) (column_in rows column))),
      sum_of_both first rest (range_with_len 0 n),
      row_cells r n,
      columns_weigh rows n,
      sum_by-cons weight_of_row r rows,
    )
