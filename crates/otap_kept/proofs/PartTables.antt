-- The table of parts that are kept has their rows.
use Rattle.std.proofs.Common.{◌≡◌, ℕ, zero, suc, ◌+◌, ◌≤◌, ◌<◌, ◌^◌, Bool, true, false, List, [], ◌∷◌, Option, None, Some, length, get_or, map, drop, refl, sym, ap, subst, inl, inr, ◌∙◌, arith}
use Rattle.std.specs.Prelude.{if◌then◌else◌, nat_lt}
use Rattle.std.specs.List.{AllZip}
use Rattle.std.proofs.lemmas.Bool.{cases_Bool}
use Rattle.std.proofs.lemmas.Bool.Decides.{nat_tests}
use Rattle.std.proofs.lemmas.List.FromFn.{fill_by_all}
use Rattle.otap_cells.specs.declared.payload.Kind.{Kind}
use Rattle.otap_cells.specs.declared.profile.Coding.{Coding}
use Rattle.otap_cells.specs.declared.profile.Coding.TheVariants as coding
use Rattle.otap_cells.specs.Cells.{Cell}
use Rattle.otap_cells.specs.Columns.{coding_at, width_of}
use Rattle.otap_cells.specs.ColumnIds.{IdsOf, id_in}
use Rattle.otap_cells.specs.Continuing.{again_of, continues_after, continues_of, goes_on_after, ids_in_front}
use Rattle.otap_cells.specs.GivenIds.{HasIds}
use Rattle.otap_cells.specs.Ids.{IdsAfter, base_of}
use Rattle.otap_cells.specs.Tables.{Table, column_in, profile_table}
use Rattle.otap_cells.proofs.WithoutRuns.{delta_too}
use Rattle.otap_groups.specs.Children.{numbered}
use Rattle.otap_groups.specs.Flat.{PlacedIn, part_rows}
use Rattle.otap_groups.specs.Kinds.{IsPart}
use Rattle.otap_groups.specs.Rows.{ChildRow, child_row, child_rows}
use Rattle.otap_groups.specs.Stored.{RisingParts, stored_parts}
use Rattle.otap_groups.proofs.StoredRows.{coding_is, greatest_is}
use Rattle.otap_attrs.specs.Sorting.{placed_by, sorted_by}
use Rattle.otap_attrs.proofs.TablePairs.{ids_are}
use Rattle.otap_checks.specs.Reading.{part_rows_in}
use Rattle.otap_kept.specs.Numbers.{new_number}
use Rattle.otap_kept.specs.Rows.{has_lesser_parent, own_cells, parts_under, placed_if, under}
use Rattle.otap_kept.specs.Tables.{kept_parts}
use Rattle.otap_kept.proofs.AttributeTables.{AreLow}

-- ---- parents in their order

rising_placed : (before : ℕ) (x : PlacedIn ChildRow) (ys : List (PlacedIn ChildRow)) → before ≤ x.parent → RisingParts before ys
    → RisingParts before (placed_by has_lesser_parent x ys)
rising_placed before x [] low rising = (low, tt)
rising_placed before x (y ∷ ys) low rising = elim (cases_Bool (nat_lt y.parent x.parent)) [
  | inl t ↦
      let less : y.parent ≤ x.parent = grind (arith, nat_tests, t) in
      rw t (rising.0, rising_placed y.parent x ys less rising.1)
  | inr f ↦
      let more : x.parent ≤ y.parent = grind (arith, nat_tests, f) in
      rw f (low, (more, rising.1))
]

rising_sorted : (ps : List (PlacedIn ChildRow)) → RisingParts 0 (sorted_by has_lesser_parent ps)
rising_sorted [] = tt
rising_sorted (p ∷ ps) = rising_placed 0 p (sorted_by has_lesser_parent ps) (omega arith) (rising_sorted ps)

low_placed : (x : PlacedIn ChildRow) (ys : List (PlacedIn ChildRow)) → x.parent ≤ 4294967295 → AreLow ys → AreLow (placed_by has_lesser_parent x ys)
low_placed x [] one low = (one, tt)
low_placed x (y ∷ ys) one low = elim (cases_Bool (nat_lt y.parent x.parent)) [
  | inl t ↦ rw t (low.0, low_placed x ys one low.1)
  | inr f ↦ rw f (one, low)
]

low_sorted : (ps : List (PlacedIn ChildRow)) → AreLow ps → AreLow (sorted_by has_lesser_parent ps)
low_sorted [] low = tt
low_sorted (p ∷ ps) low = low_placed p (sorted_by has_lesser_parent ps) low.0 (low_sorted ps low.1)

size_placed : (x : PlacedIn ChildRow) (ys : List (PlacedIn ChildRow)) → length (placed_by has_lesser_parent x ys) ≡ suc (length ys)
size_placed x [] = refl
size_placed x (y ∷ ys) = elim (cases_Bool (nat_lt y.parent x.parent)) [
  | inl t ↦ rw t (ap suc (size_placed x ys))
  | inr f ↦ rw f refl
]

size_sorted : (ps : List (PlacedIn ChildRow)) → length (sorted_by has_lesser_parent ps) ≡ length ps
size_sorted [] = refl
size_sorted (p ∷ ps) = size_placed p (sorted_by has_lesser_parent ps) ∙ ap suc (size_sorted ps)

size_if : (o : Option ℕ) (row : ChildRow) (rest : List (PlacedIn ChildRow)) → length (placed_if o row rest) ≤ suc (length rest)
size_if None row rest = omega arith
size_if (Some n) row rest = omega arith

size_under : (ids : List (Option ℕ)) (rows : List ChildRow) → length (under ids rows) ≤ length rows
size_under ids [] = omega arith
size_under ids (row ∷ rows) = omega (arith, size_if (new_number ids row.parent) row (under ids rows), size_under ids rows)

-- parts come by parent, their parents have numbers, and they are no more than the rows
pub parts_rising : (ids : List (Option ℕ)) (rows : List ChildRow) → RisingParts 0 (parts_under ids rows)
unfolding parts_under
parts_rising ids rows = rising_sorted (under ids rows)

pub parts_low : (ids : List (Option ℕ)) (rows : List ChildRow) → AreLow (under ids rows) → AreLow (parts_under ids rows)
unfolding parts_under
parts_low ids rows low = low_sorted (under ids rows) low

pub parts_few : (ids : List (Option ℕ)) (rows : List ChildRow) → length (parts_under ids rows) ≤ length rows
unfolding parts_under
parts_few ids rows = omega (arith, size_sorted (under ids rows), size_under ids rows)

-- ---- what is stored

base_most : (how : Coding) (continues : Bool) (before : ℕ) → base_of how continues before ≤ before
base_most coding.Plain continues before = omega arith
base_most coding.Delta continues before = omega arith
base_most coding.Run true before = omega arith
base_most coding.Run false before = omega arith

module _ (how : Coding) (test : List Cell → List Cell → Bool) where
  ids_stored : (n id step parent : ℕ) (before : Option (List Cell)) (ps : List (PlacedIn ChildRow)) → n ≡ id + step → n + length ps ≤ 2 ^ 32
      → IdsAfter coding.Delta 4294967295 id [] (map id_in (column_in (stored_parts how test own_cells step parent before ps) 0))
      (map (λ row. row.id) (part_rows numbered own_cells n ps))
  ids_stored n id step parent before [] is few = tt
  ids_stored n id step parent before (p ∷ ps) is few = (is, omega arith, ids_stored (suc n) n 1 p.parent (Some (own_cells p.part)) ps (omega arith) (omega arith))

  parents_stored : (n step parent : ℕ) (before : Option (List Cell)) (ps : List (PlacedIn ChildRow)) → RisingParts parent ps → AreLow ps
      → IdsAfter how 4294967295 parent (continues_after test before (map (drop 2) (stored_parts how test own_cells step parent before ps)))
      (map id_in (column_in (stored_parts how test own_cells step parent before ps) 1)) (map (λ row. row.parent) (part_rows numbered own_cells n ps))
  parents_stored n step parent before [] rising few = tt
  parents_stored n step parent before (p ∷ ps) rising few =
      let low : parent ≤ p.parent = rising.0 in
      let most = base_most how (goes_on_after test before (own_cells p.part)) parent in
      (omega (arith, low, most), few.0, parents_stored (suc n) 1 p.parent (Some (own_cells p.part)) ps rising.1 few.1)

  abbrev FitsPart : ChildRow → List Cell → Type 0
  FitsPart row cells = drop 2 cells ≡ row.cells

  fitting : (n step parent : ℕ) (before : Option (List Cell)) (ps : List (PlacedIn ChildRow))
      → AllZip FitsPart (part_rows numbered own_cells n ps) (stored_parts how test own_cells step parent before ps)
  fitting n step parent before [] = tt
  fitting n step parent before (p ∷ ps) = (refl, fitting (suc n) 1 p.parent (Some (own_cells p.part)) ps)

  sizes : (xs : List ChildRow) (rows : List (List Cell)) → AllZip FitsPart xs rows → length xs ≡ length (map (drop 2) rows)
  sizes [] [] fit = refl
  sizes [] (row ∷ rows) fit = absurd fit
  sizes (x ∷ xs) [] fit = absurd fit
  sizes (x ∷ xs) (row ∷ rows) fit = ap suc (sizes xs rows fit.1)

  part_at : (xs : List ChildRow) (rows : List (List Cell)) (k : ℕ) (d : ChildRow) → AllZip FitsPart xs rows → k < length xs
      → get_or xs k d ≡ child_row (get_or (map (λ (row : ChildRow). row.id) xs) k None) (get_or (map (λ (row : ChildRow). row.parent) xs) k None) (get_or (map (drop 2) rows) k [])
  part_at [] rows k d fit within = absurd (omega arith)
  part_at (x ∷ xs) [] k d fit within = absurd fit
  part_at (x ∷ xs) (row ∷ rows) zero d fit within = λ i. child_row x.id x.parent (sym fit.0 i)
  part_at (x ∷ xs) (row ∷ rows) (suc k) d fit within = part_at xs rows k d fit.1 (omega arith)

  parts_are : (xs : List ChildRow) (rows : List (List Cell)) → AllZip FitsPart xs rows
      → xs ≡ child_rows (map (λ (row : ChildRow). row.id) xs) (map (λ (row : ChildRow). row.parent) xs) (map (drop 2) rows)
  unfolding child_rows
  parts_are xs rows fit =
      fill_by_all _ xs (length (map (drop 2) rows)) (child_row None None []) (sizes xs rows fit)
      (λ k within. part_at xs rows k (child_row None None []) fit (subst (λ n. k < n) (sym (sizes xs rows fit)) within))

-- ---- the table

ids_of_column : (kind : Kind) (rows : List (List Cell)) (column : ℕ) (how : Coding) (continues : List Bool) (ids : List (Option ℕ)) → column < width_of kind
    → coding_at kind column ≡ how → IdsAfter how 4294967295 0 continues (map id_in (column_in rows column)) ids → IdsOf (profile_table kind rows) column continues ids
ids_of_column kind rows column how continues ids within is stands =
    rw (coding_is kind rows column within ∙ is, greatest_is kind rows column within) stands

module _ (kind : Kind) (ps : List (PlacedIn ChildRow)) (part : IsPart kind) where
  abbrev rows : List ChildRow
  rows = part_rows numbered own_cells 0 ps

  pub kept_part_ids : length ps ≤ 2 ^ 32 → HasIds (kept_parts kind ps) 0 (map (λ (row : ChildRow). row.id) rows)
  unfolding kept_parts
  kept_part_ids few =
      let wide = part.wide in
      ids_of_column kind (stored_parts (coding_at kind 1) (again_of kind) own_cells 0 0 None ps) 0 coding.Delta _ _ (omega arith) part.ids_rise
      (delta_too _ 0 [] _ _ _ (ids_stored (coding_at kind 1) (again_of kind) 0 0 0 0 None ps refl (omega (arith, few))))

  pub kept_part_parents : RisingParts 0 ps → AreLow ps → HasIds (kept_parts kind ps) 1 (map (λ (row : ChildRow). row.parent) rows)
  unfolding kept_parts continues_of
  kept_part_parents rising low =
      let wide = part.wide in
      let two : ids_in_front kind ≡ 2 = ap (λ (b : Bool). if b then 1 else 2) part.other in
      ids_of_column kind (stored_parts (coding_at kind 1) (again_of kind) own_cells 0 0 None ps) 1 (coding_at kind 1)
      (continues_after (again_of kind) None (map (drop (ids_in_front kind)) (stored_parts (coding_at kind 1) (again_of kind) own_cells 0 0 None ps)))
      (map (λ (row : ChildRow). row.parent) rows) (omega arith) refl
      (rw two (parents_stored (coding_at kind 1) (again_of kind) 0 0 0 None ps rising low))

  -- THE TABLE OF PARTS has them, numbered from 0
  pub kept_parts_again : length ps ≤ 2 ^ 32 → RisingParts 0 ps → AreLow ps → part_rows_in (kept_parts kind ps) ≡ rows
  unfolding kept_parts
  kept_parts_again few rising low =
      let cells : List (List Cell) = stored_parts (coding_at kind 1) (again_of kind) own_cells 0 0 None ps in
      let t : Table = profile_table kind cells in
      sym (parts_are (coding_at kind 1) (again_of kind) rows cells (fitting (coding_at kind 1) (again_of kind) 0 0 0 None ps)
      ∙ (λ i. child_rows (ids_are t 0 (map (λ (row : ChildRow). row.id) rows) (kept_part_ids few) i)
      (ids_are t 1 (map (λ (row : ChildRow). row.parent) rows) (kept_part_parents rising low) i) (map (drop 2) cells)))
