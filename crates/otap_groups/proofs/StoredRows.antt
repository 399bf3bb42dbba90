-- The rows that a written table has.
use Rattle.std.proofs.Common.{◌≡◌, ℕ, zero, suc, ◌+◌, ◌≤◌, ◌<◌, ◌^◌, Bool, true, false, List, [], ◌∷◌, Option, None, Some, length, get_or, map, drop, refl, sym, ◌∙◌, ap, subst, arith}
use Rattle.std.specs.Prelude.{if◌then◌else◌}
use Rattle.std.specs.List.{AllZip, flat_map}
use Rattle.std.proofs.lemmas.List.FromFn.{fill_by_all, get_or-map-range_with_len}
use Rattle.otlp_model.specs.declared.groups.ResourceGroup.{ResourceGroup}
use Rattle.otap_cells.specs.declared.payload.Kind.{Kind}
use Rattle.otap_cells.specs.declared.profile.Coding.{Coding}
use Rattle.otap_cells.specs.declared.profile.Coding.TheVariants as coding
use Rattle.otap_cells.specs.Cells.{Cell}
use Rattle.otap_cells.specs.Columns.{coding_at, width_of}
use Rattle.otap_cells.specs.Ids.{IdsAfter, base_of}
use Rattle.otap_cells.specs.ColumnIds.{IdsOf, id_in}
use Rattle.otap_cells.specs.GivenIds.{HasIds}
use Rattle.otap_cells.specs.Continuing.{again_of, continues_after, continues_of, goes_on_after, ids_in_front}
use Rattle.otap_cells.specs.Tables.{coding_in, column_in, greatest_in, greatest_wide, profile_table}
use Rattle.otap_groups.specs.Rows.{ChildRow, MainRow, child_row, child_rows, main_row, main_rows}
use Rattle.otap_groups.specs.Children.{numbered}
use Rattle.otap_groups.specs.Flat.{FlatIn, PlacedIn, flat_items, items_of, numbered_rows, part_rows, placed}
use Rattle.otap_groups.specs.Kinds.{IsMain, IsPart}
use Rattle.otap_groups.specs.Stored.{IsMainRows, IsPartRows, Rising, RisingParts, main_table, part_table, stored_parts, stored_rows}
use Rattle.otap_groups.proofs.Bounds.{Bounded, BoundedParts, bounded, bounded_placed, size_of_flat, size_of_placed}
use Rattle.otap_groups.proofs.FlatSteps.{rising_flat, rising_placed}
use Rattle.otap_cells.proofs.WithoutRuns.{delta_too}

-- ---- how a written table stores a column

pub coding_is : (kind : Kind) (rows : List (List Cell)) (column : ℕ) → column < width_of kind → coding_in (profile_table kind rows) column ≡ coding_at kind column
coding_is kind rows column within = get_or-map-range_with_len (coding_at kind) 0 (width_of kind) column column coding.Plain within (omega arith)

pub greatest_is : (kind : Kind) (rows : List (List Cell)) (column : ℕ) → column < width_of kind → greatest_in (profile_table kind rows) column ≡ greatest_wide
greatest_is kind rows column within = get_or-map-range_with_len (λ column. greatest_wide) 0 (width_of kind) column column 0 within (omega arith)

ids_of_column : (kind : Kind) (rows : List (List Cell)) (column : ℕ) (how : Coding) (continues : List Bool) (ids : List (Option ℕ)) → column < width_of kind
    → coding_at kind column ≡ how → IdsAfter how 4294967295 0 continues (map id_in (column_in rows column)) ids → IdsOf (profile_table kind rows) column continues ids
ids_of_column kind rows column how continues ids within is stands =
    rw (coding_is kind rows column within ∙ is, greatest_is kind rows column within) stands

-- ---- main tables

module _ {I : Type 0} (cells_of : I → List Cell) where
  own_ids : (n before step r s : ℕ) (fs : List (FlatIn I)) → n ≡ before + step → n + length fs ≤ 2 ^ 32
      → IdsAfter coding.Delta 4294967295 before [] (map id_in (column_in (stored_rows cells_of step r s fs) 0)) (map (λ row. row.id) (numbered_rows cells_of n fs))
  own_ids n before step r s [] is few = tt
  own_ids n before step r s (f ∷ fs) is few = (is, omega arith, own_ids (suc n) n 1 f.resource_id f.scope_id fs (omega arith) (omega arith))

  resource_ids : (n step r s : ℕ) (fs : List (FlatIn I)) → Rising r s fs → Bounded 4294967295 fs
      → IdsAfter coding.Delta 4294967295 r [] (map id_in (column_in (stored_rows cells_of step r s fs) 1)) (map (λ row. row.resource_id) (numbered_rows cells_of n fs))
  resource_ids n step r s [] rising few = tt
  resource_ids n step r s (f ∷ fs) rising few =
      let low : r ≤ f.resource_id = rising.0 in
      (omega arith, few.0, resource_ids (suc n) 1 f.resource_id f.scope_id fs rising.2 few.2)

  scope_ids : (n step r s : ℕ) (fs : List (FlatIn I)) → Rising r s fs → Bounded 4294967295 fs
      → IdsAfter coding.Delta 4294967295 s [] (map id_in (column_in (stored_rows cells_of step r s fs) 4)) (map (λ row. row.scope_id) (numbered_rows cells_of n fs))
  scope_ids n step r s [] rising few = tt
  scope_ids n step r s (f ∷ fs) rising few =
      let low : s ≤ f.scope_id = rising.1 in
      (omega arith, few.1, scope_ids (suc n) 1 f.resource_id f.scope_id fs rising.2 few.2)

  abbrev Fits : MainRow → List Cell → Type 0
  Fits row cells = main_row row.id row.resource_id row.scope_id cells ≡ row

  fitting : (n step r s : ℕ) (fs : List (FlatIn I)) → AllZip Fits (numbered_rows cells_of n fs) (stored_rows cells_of step r s fs)
  fitting n step r s [] = tt
  fitting n step r s (f ∷ fs) = (refl, fitting (suc n) 1 f.resource_id f.scope_id fs)

  sizes : (xs : List MainRow) (rows : List (List Cell)) → AllZip Fits xs rows → length xs ≡ length rows
  sizes [] [] fit = refl
  sizes [] (row ∷ rows) fit = absurd fit
  sizes (x ∷ xs) [] fit = absurd fit
  sizes (x ∷ xs) (row ∷ rows) fit = ap suc (sizes xs rows fit.1)

  at_place : (xs : List MainRow) (rows : List (List Cell)) (k : ℕ) (d : MainRow) → AllZip Fits xs rows → k < length xs
      → get_or xs k d ≡ main_row (get_or (map (λ (row : MainRow). row.id) xs) k None) (get_or (map (λ (row : MainRow). row.resource_id) xs) k None)
      (get_or (map (λ (row : MainRow). row.scope_id) xs) k None) (get_or rows k [])
  at_place [] rows k d fit within = absurd (omega arith)
  at_place (x ∷ xs) [] k d fit within = absurd fit
  at_place (x ∷ xs) (row ∷ rows) zero d fit within = sym fit.0
  at_place (x ∷ xs) (row ∷ rows) (suc k) d fit within = at_place xs rows k d fit.1 (omega arith)

  rows_are : (xs : List MainRow) (rows : List (List Cell)) → AllZip Fits xs rows
      → xs ≡ main_rows (map (λ (row : MainRow). row.id) xs) (map (λ (row : MainRow). row.resource_id) xs) (map (λ (row : MainRow). row.scope_id) xs) rows
  unfolding main_rows
  rows_are xs rows fit =
      fill_by_all _ xs (length rows) (main_row None None None []) (sizes xs rows fit)
      (λ k within. at_place xs rows k (main_row None None None []) fit (subst (λ n. k < n) (sym (sizes xs rows fit)) within))

  -- the ids that a main table has
  pub own_ids_of : (kind : Kind) (groups : List (ResourceGroup I)) → IsMain kind → length (items_of groups) ≤ 2 ^ 32
      → HasIds (main_table kind cells_of groups) 0 (map (λ (row : MainRow). row.id) (numbered_rows cells_of 0 (flat_items groups)))
  unfolding main_table
  own_ids_of kind groups main few =
      let size = size_of_flat 4294967295 groups in
      let wide = main.wide in
      ids_of_column kind (stored_rows cells_of 0 0 0 (flat_items groups)) 0 coding.Delta _ _ (omega arith) main.ids_rise
      (delta_too _ 0 [] _ _ _ (own_ids 0 0 0 0 0 (flat_items groups) refl (omega (arith, size))))

  pub resource_ids_of : (kind : Kind) (groups : List (ResourceGroup I)) → IsMain kind → length (items_of groups) ≤ 2 ^ 32
      → HasIds (main_table kind cells_of groups) 1 (map (λ (row : MainRow). row.resource_id) (numbered_rows cells_of 0 (flat_items groups)))
  unfolding main_table
  resource_ids_of kind groups main few =
      let most = bounded 4294967295 groups (omega arith) in
      let wide = main.wide in
      ids_of_column kind (stored_rows cells_of 0 0 0 (flat_items groups)) 1 coding.Delta _ _ (omega arith) main.resource_ids_rise
      (delta_too _ 0 [] _ _ _ (resource_ids 0 0 0 0 (flat_items groups) (rising_flat groups) most))

  pub scope_ids_of : (kind : Kind) (groups : List (ResourceGroup I)) → IsMain kind → length (items_of groups) ≤ 2 ^ 32
      → HasIds (main_table kind cells_of groups) 4 (map (λ (row : MainRow). row.scope_id) (numbered_rows cells_of 0 (flat_items groups)))
  unfolding main_table
  scope_ids_of kind groups main few =
      let most = bounded 4294967295 groups (omega arith) in
      let wide = main.wide in
      ids_of_column kind (stored_rows cells_of 0 0 0 (flat_items groups)) 4 coding.Delta _ _ (omega arith) main.scope_ids_rise
      (delta_too _ 0 [] _ _ _ (scope_ids 0 0 0 0 (flat_items groups) (rising_flat groups) most))

  pub main_rows_of : (kind : Kind) (groups : List (ResourceGroup I)) → IsMain kind → length (items_of groups) ≤ 2 ^ 32
      → IsMainRows (main_table kind cells_of groups) (numbered_rows cells_of 0 (flat_items groups))
  unfolding main_table
  main_rows_of kind groups main few = record {
    ids = map (λ (row : MainRow). row.id) (numbered_rows cells_of 0 (flat_items groups));
    resource_ids = map (λ (row : MainRow). row.resource_id) (numbered_rows cells_of 0 (flat_items groups));
    scope_ids = map (λ (row : MainRow). row.scope_id) (numbered_rows cells_of 0 (flat_items groups));
    own = own_ids_of kind groups main few;
    resource = resource_ids_of kind groups main few;
    scope = scope_ids_of kind groups main few;
    are = rows_are (numbered_rows cells_of 0 (flat_items groups)) (stored_rows cells_of 0 0 0 (flat_items groups)) (fitting 0 0 0 0 (flat_items groups));
  }

-- ---- tables of parts

base_most : (how : Coding) (continues : Bool) (before : ℕ) → base_of how continues before ≤ before
base_most coding.Plain continues before = omega arith
base_most coding.Delta continues before = omega arith
base_most coding.Run true before = omega arith
base_most coding.Run false before = omega arith

module _ {C : Type 0} (how : Coding) (test : List Cell → List Cell → Bool) (cells_of : C → List Cell) where
  part_ids : (n id step parent : ℕ) (before : Option (List Cell)) (ps : List (PlacedIn C)) → n ≡ id + step → n + length ps ≤ 2 ^ 32
      → IdsAfter coding.Delta 4294967295 id [] (map id_in (column_in (stored_parts how test cells_of step parent before ps) 0))
      (map (λ row. row.id) (part_rows numbered cells_of n ps))
  part_ids n id step parent before [] is few = tt
  part_ids n id step parent before (p ∷ ps) is few = (is, omega arith, part_ids (suc n) n 1 p.parent (Some (cells_of p.part)) ps (omega arith) (omega arith))

  parent_ids : (n step parent : ℕ) (before : Option (List Cell)) (ps : List (PlacedIn C)) → RisingParts parent ps → BoundedParts 4294967295 ps
      → IdsAfter how 4294967295 parent (continues_after test before (map (drop 2) (stored_parts how test cells_of step parent before ps)))
      (map id_in (column_in (stored_parts how test cells_of step parent before ps) 1)) (map (λ row. row.parent) (part_rows numbered cells_of n ps))
  parent_ids n step parent before [] rising few = tt
  parent_ids n step parent before (p ∷ ps) rising few =
      let low : parent ≤ p.parent = rising.0 in
      let most = base_most how (goes_on_after test before (cells_of p.part)) parent in
      (omega (arith, low, most), few.0, parent_ids (suc n) 1 p.parent (Some (cells_of p.part)) ps rising.1 few.1)

  abbrev FitsPart : ChildRow → List Cell → Type 0
  FitsPart row cells = drop 2 cells ≡ row.cells

  fitting_parts : (n step parent : ℕ) (before : Option (List Cell)) (ps : List (PlacedIn C))
      → AllZip FitsPart (part_rows numbered cells_of n ps) (stored_parts how test cells_of step parent before ps)
  fitting_parts n step parent before [] = tt
  fitting_parts n step parent before (p ∷ ps) = (refl, fitting_parts (suc n) 1 p.parent (Some (cells_of p.part)) ps)

  part_sizes : (xs : List ChildRow) (rows : List (List Cell)) → AllZip FitsPart xs rows → length xs ≡ length (map (drop 2) rows)
  part_sizes [] [] fit = refl
  part_sizes [] (row ∷ rows) fit = absurd fit
  part_sizes (x ∷ xs) [] fit = absurd fit
  part_sizes (x ∷ xs) (row ∷ rows) fit = ap suc (part_sizes xs rows fit.1)

  part_at : (xs : List ChildRow) (rows : List (List Cell)) (k : ℕ) (d : ChildRow) → AllZip FitsPart xs rows → k < length xs
      → get_or xs k d ≡ child_row (get_or (map (λ (row : ChildRow). row.id) xs) k None) (get_or (map (λ (row : ChildRow). row.parent) xs) k None) (get_or (map (drop 2) rows) k [])
  part_at [] rows k d fit within = absurd (omega arith)
  part_at (x ∷ xs) [] k d fit within = absurd fit
  part_at (x ∷ xs) (row ∷ rows) zero d fit within = λ i. child_row x.id x.parent (sym fit.0 i)
  part_at (x ∷ xs) (row ∷ rows) (suc k) d fit within = part_at xs rows k d fit.1 (omega arith)

  parts_are : (xs : List ChildRow) (rows : List (List Cell)) → AllZip FitsPart xs rows
      → xs ≡ child_rows (map (λ (row : ChildRow). row.id) xs) (map (λ (row : ChildRow). row.parent) xs) (map (drop 2) rows)
  unfolding child_rows
  parts_are xs rows fit =
      fill_by_all _ xs (length (map (drop 2) rows)) (child_row None None []) (part_sizes xs rows fit)
      (λ k within. part_at xs rows k (child_row None None []) fit (subst (λ n. k < n) (sym (part_sizes xs rows fit)) within))

-- the ids that a table of parts has
pub part_ids_of : {C : Type 0} (kind : Kind) (cells_of : C → List Cell) (lists : List (List C)) → IsPart kind → length (flat_map (λ (parts : List C). parts) lists) ≤ 2 ^ 32
    → HasIds (part_table kind cells_of lists) 0 (map (λ (row : ChildRow). row.id) (part_rows numbered cells_of 0 (placed lists)))
unfolding part_table
part_ids_of kind cells_of lists part few =
    let size = size_of_placed 4294967295 lists in
    let wide = part.wide in
    ids_of_column kind (stored_parts (coding_at kind 1) (again_of kind) cells_of 0 0 None (placed lists)) 0 coding.Delta _ _ (omega arith) part.ids_rise
    (delta_too _ 0 [] _ _ _ (part_ids (coding_at kind 1) (again_of kind) cells_of 0 0 0 0 None (placed lists) refl (omega (arith, size))))

pub part_parents_of : {C : Type 0} (kind : Kind) (cells_of : C → List Cell) (lists : List (List C)) → IsPart kind → length lists ≤ 2 ^ 32
    → HasIds (part_table kind cells_of lists) 1 (map (λ (row : ChildRow). row.parent) (part_rows numbered cells_of 0 (placed lists)))
unfolding part_table continues_of
part_parents_of kind cells_of lists part few_lists =
    let wide = part.wide in
    let two : ids_in_front kind ≡ 2 = ap (λ (b : Bool). if b then 1 else 2) part.other in
    ids_of_column kind (stored_parts (coding_at kind 1) (again_of kind) cells_of 0 0 None (placed lists)) 1 (coding_at kind 1)
    (continues_after (again_of kind) None (map (drop (ids_in_front kind)) (stored_parts (coding_at kind 1) (again_of kind) cells_of 0 0 None (placed lists))))
    (map (λ (row : ChildRow). row.parent) (part_rows numbered cells_of 0 (placed lists))) (omega arith) refl
    (rw two (parent_ids (coding_at kind 1) (again_of kind) cells_of 0 0 0 None (placed lists) (rising_placed lists) (bounded_placed 4294967295 lists (omega arith))))

pub part_rows_of : {C : Type 0} (kind : Kind) (cells_of : C → List Cell) (lists : List (List C)) → IsPart kind
    → length lists ≤ 2 ^ 32 → length (flat_map (λ (parts : List C). parts) lists) ≤ 2 ^ 32
    → IsPartRows (part_table kind cells_of lists) (part_rows numbered cells_of 0 (placed lists))
unfolding part_table
part_rows_of kind cells_of lists part few_lists few = record {
  ids = map (λ (row : ChildRow). row.id) (part_rows numbered cells_of 0 (placed lists));
  parents = map (λ (row : ChildRow). row.parent) (part_rows numbered cells_of 0 (placed lists));
  own = part_ids_of kind cells_of lists part few;
  above = part_parents_of kind cells_of lists part few_lists;
  are = parts_are (coding_at kind 1) (again_of kind) cells_of (part_rows numbered cells_of 0 (placed lists)) (stored_parts (coding_at kind 1) (again_of kind) cells_of 0 0 None (placed lists))
      (fitting_parts (coding_at kind 1) (again_of kind) cells_of 0 0 0 None (placed lists));
}

-- ---- how many rows there are

size_of_stored : {I : Type 0} (cells_of : I → List Cell) (step r s : ℕ) (fs : List (FlatIn I)) → length (stored_rows cells_of step r s fs) ≡ length fs
size_of_stored cells_of step r s [] = refl
size_of_stored cells_of step r s (f ∷ fs) = ap suc (size_of_stored cells_of 1 f.resource_id f.scope_id fs)

pub size_of_main : {I : Type 0} (kind : Kind) (cells_of : I → List Cell) (groups : List (ResourceGroup I)) → length (main_table kind cells_of groups).rows ≡ length (flat_items groups)
unfolding main_table
size_of_main kind cells_of groups = size_of_stored cells_of 0 0 0 (flat_items groups)
