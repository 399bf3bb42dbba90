-- What is found below each parent, one after the other.
use Rattle.std.proofs.Common.{◌≡◌, ℕ, suc, ◌+◌, ◌<◌, ◌≤◌, true, false, List, [], ◌∷◌, ◌++◌, Option, Some, length, map, refl, sym, ◌∙◌, ap, subst, arith, append-nil, append_assoc}
use Rattle.std.specs.Prelude.{filter, ◌==◌}
use Rattle.std.specs.List.{AllByRecursion, flat_map}
use Rattle.std.proofs.lemmas.Bool.Decides.{nat_tests}
use Rattle.std.proofs.lemmas.List.{length-map}
use Rattle.std.proofs.lemmas.List.Elements.{filter-append}
use Rattle.lists.proofs.Every.{every_append}
use Rattle.otap_cells.specs.Cells.{Cell}
use Rattle.otap_groups.specs.Rows.{ChildRow, child_row, id_is, is_child_of}
use Rattle.otap_groups.specs.Children.{Agree, ReadsEach, child_of_row, children}
use Rattle.otap_groups.specs.Flat.{PlacedIn, part_rows, placed, placed_at, placed_from}

-- ---- lists one after the other

pub agree_front : {C : Type 0} (find : Option ℕ → C) (k : ℕ) (xs ys : List C) → Agree find k (xs ++ ys) → Agree find k xs
agree_front find k [] ys agree = tt
agree_front find k (x ∷ xs) ys agree = (agree.0, agree_front find (suc k) xs ys agree.1)

pub agree_after : {C : Type 0} (find : Option ℕ → C) (k : ℕ) (xs ys : List C) → Agree find k (xs ++ ys) → Agree find (k + length xs) ys
agree_after find k [] ys agree = subst (λ n. Agree find n ys) (omega arith) agree
agree_after find k (x ∷ xs) ys agree = subst (λ n. Agree find n ys) (omega arith) (agree_after find (suc k) xs ys agree.1)

module _ {C : Type 0} (own : ℕ → Option ℕ) (cells_of : C → List Cell) (item : Option ℕ → List Cell → C) where
  pub reads_front : (k : ℕ) (xs ys : List C) → ReadsEach own cells_of item k (xs ++ ys) → ReadsEach own cells_of item k xs
  reads_front k [] ys reads = tt
  reads_front k (x ∷ xs) ys reads = (reads.0, reads_front (suc k) xs ys reads.1)

  pub reads_after : (k : ℕ) (xs ys : List C) → ReadsEach own cells_of item k (xs ++ ys) → ReadsEach own cells_of item (k + length xs) ys
  reads_after k [] ys reads = subst (λ n. ReadsEach own cells_of item n ys) (omega arith) reads
  reads_after k (x ∷ xs) ys reads = subst (λ n. ReadsEach own cells_of item n ys) (omega arith) (reads_after (suc k) xs ys reads.1)

  -- ---- rows of several parents

  pub part_rows_append : (n : ℕ) (ps qs : List (PlacedIn C)) → part_rows own cells_of n (ps ++ qs) ≡ part_rows own cells_of n ps ++ part_rows own cells_of (n + length ps) qs
  part_rows_append n [] qs = ap (λ m. part_rows own cells_of m qs) (omega arith)
  part_rows_append n (p ∷ ps) qs =
      ap (λ rows. child_row (own n) (Some p.parent) (cells_of p.part) ∷ rows)
      (part_rows_append (suc n) ps qs ∙ ap (λ m. part_rows own cells_of (suc n) ps ++ part_rows own cells_of m qs) (omega arith))

  -- rows whose parents are lower, and others
  abbrev Below : ℕ → ChildRow → Type 0
  Below k row = (p : ℕ) × (row.parent ≡ Some p) × (p < k)

  abbrev Above : ℕ → ChildRow → Type 0
  Above k row = (p : ℕ) × (row.parent ≡ Some p) × (k ≤ p)

  miss : (p k : ℕ) (row : ChildRow) → row.parent ≡ Some p → (p == k) ≡ false → is_child_of k row ≡ false
  miss p k row is other = ap (λ q. id_is q (Some k)) is ∙ other

  none_below : (k : ℕ) (rows : List ChildRow) → AllByRecursion (Below k) rows → filter (is_child_of k) rows ≡ []
  none_below k [] all = refl
  none_below k (row ∷ rows) all =
      let low : all.0.0 < k = all.0.2 in
      let other : (all.0.0 == k) ≡ false = grind (arith, nat_tests, low) in
      rw (miss all.0.0 k row all.0.1 other) (none_below k rows all.1)

  none_above : (k : ℕ) (rows : List ChildRow) → AllByRecursion (Above (suc k)) rows → filter (is_child_of k) rows ≡ []
  none_above k [] all = refl
  none_above k (row ∷ rows) all =
      let high : suc k ≤ all.0.0 = all.0.2 in
      let other : (all.0.0 == k) ≡ false = grind (arith, nat_tests, high) in
      rw (miss all.0.0 k row all.0.1 other) (none_above k rows all.1)

  own_parts : (n k : ℕ) (parts : List C) → ReadsEach own cells_of item n parts
      → map (child_of_row item) (filter (is_child_of k) (part_rows own cells_of n (map (placed_at k) parts))) ≡ parts
  own_parts n k [] reads = refl
  own_parts n k (part ∷ parts) reads =
      let hit : (k == k) ≡ true = grind (arith, nat_tests) in
      rw hit (λ i. reads.0 i ∷ own_parts (suc n) k parts reads.1 i)

  all_at : (n k m : ℕ) (parts : List C) → k < m → AllByRecursion (Below m) (part_rows own cells_of n (map (placed_at k) parts))
  all_at n k m [] low = tt
  all_at n k m (part ∷ parts) low = ((k, refl, low), all_at (suc n) k m parts low)

  all_above : (n k m : ℕ) (parts : List C) → m ≤ k → AllByRecursion (Above m) (part_rows own cells_of n (map (placed_at k) parts))
  all_above n k m [] low = tt
  all_above n k m (part ∷ parts) low = ((k, refl, low), all_above (suc n) k m parts low)

  rest_above : (n k m : ℕ) (lists : List (List C)) → m ≤ k → AllByRecursion (Above m) (part_rows own cells_of n (placed_from k lists))
  rest_above n k m [] low = tt
  rest_above n k m (parts ∷ lists) low =
      rw (part_rows_append n (map (placed_at k) parts) (placed_from (suc k) lists))
      (every_append (Above m) _ _ (all_above n k m parts low) (rest_above (n + length (map (placed_at k) parts)) (suc k) m lists (omega arith)))

  weaker : (k m : ℕ) (rows : List ChildRow) → k ≤ m → AllByRecursion (Below k) rows → AllByRecursion (Below m) rows
  weaker k m [] low all = tt
  weaker k m (row ∷ rows) low all =
      let first : all.0.0 < k = all.0.2 in
      ((all.0.0, all.0.1, omega arith), weaker k m rows low all.1)

  agrees_from : (front : List ChildRow) (n k : ℕ) (lists : List (List C)) → AllByRecursion (Below k) front → ReadsEach own cells_of item n (flat_map (λ parts. parts) lists)
      → Agree (children item (front ++ part_rows own cells_of n (placed_from k lists))) k lists
  agrees_from front n k [] low reads = tt
  agrees_from front n k (parts ∷ lists) low reads =
      let size : n + length (map (placed_at k) parts) ≡ n + length parts = ap (λ m. n + m) (length-map parts (placed_at k)) in
      let split : front ++ part_rows own cells_of n (placed_from k (parts ∷ lists))
      ≡ (front ++ part_rows own cells_of n (map (placed_at k) parts)) ++ part_rows own cells_of (n + length parts) (placed_from (suc k) lists) =
      ap (λ rows. front ++ rows) (part_rows_append n (map (placed_at k) parts) (placed_from (suc k) lists)
      ∙ ap (λ m. part_rows own cells_of n (map (placed_at k) parts) ++ part_rows own cells_of m (placed_from (suc k) lists)) size)
      ∙ sym (append_assoc front (part_rows own cells_of n (map (placed_at k) parts)) (part_rows own cells_of (n + length parts) (placed_from (suc k) lists))) in
      let found : map (child_of_row item) (filter (is_child_of k) (front ++ part_rows own cells_of n (placed_from k (parts ∷ lists)))) ≡ parts =
      ap (λ rows. map (child_of_row item) (filter (is_child_of k) rows)) split
      ∙ ap (map (child_of_row item)) (filter-append (is_child_of k) (front ++ part_rows own cells_of n (map (placed_at k) parts)) (part_rows own cells_of (n + length parts) (placed_from (suc k) lists))
      ∙ (λ i. filter-append (is_child_of k) front (part_rows own cells_of n (map (placed_at k) parts)) i ++ none_above k _ (rest_above (n + length parts) (suc k) (suc k) lists (omega arith)) i)
      ∙ append-nil _
      ∙ ap (λ xs. xs ++ filter (is_child_of k) (part_rows own cells_of n (map (placed_at k) parts))) (none_below k front low))
      ∙ own_parts n k parts (reads_front n parts (flat_map (λ parts. parts) lists) reads) in (
        found,
        subst (λ rows. Agree (children item rows) (suc k) lists) (sym split)
            (agrees_from (front ++ part_rows own cells_of n (map (placed_at k) parts)) (n + length parts) (suc k) lists
            (every_append (Below (suc k)) _ _ (weaker k (suc k) front (omega arith) low) (all_at n k (suc k) parts (omega arith)))
            (reads_after n parts (flat_map (λ parts. parts) lists) reads)),
      )

  pub agrees : (lists : List (List C)) → ReadsEach own cells_of item 0 (flat_map (λ parts. parts) lists)
      → Agree (children item (part_rows own cells_of 0 (placed lists))) 0 lists
  unfolding placed
  agrees lists reads = agrees_from [] 0 0 lists tt reads
