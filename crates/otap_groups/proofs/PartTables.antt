-- Tables of parts: their ids and parents, and that they are tables of the profile.
use Rattle.std.proofs.Common.{◌≡◌, ℕ, zero, suc, ◌-◌, ◌≤◌, ◌<◌, ◌^◌, true, List, [], ◌∷◌, Option, None, Some, length, map, sym, subst, arith}
use Rattle.std.specs.Prelude.{All, Bool, Contains}
use Rattle.std.specs.List.{AllByRecursion, flat_map}
use Rattle.std.proofs.lemmas.List.Elements.{All-nil, All-cons}
use Rattle.otap_cells.specs.declared.payload.Kind.{Kind}
use Rattle.otap_cells.specs.declared.profile.Base.TheVariants as base
use Rattle.otap_cells.specs.declared.profile.Coding.{Coding}
use Rattle.otap_cells.specs.Cells.{Cell, IsCellOf}
use Rattle.otap_cells.specs.Columns.{ColumnSpec, coding_at, columns_of, is_id_at}
use Rattle.otap_cells.specs.ColumnIds.{id_in, stored_in}
use Rattle.otap_cells.specs.Continuing.{again_of}
use Rattle.otap_cells.specs.GivenIds.{HasIds}
use Rattle.otap_cells.specs.Ids.{Twice}
use Rattle.otap_cells.specs.Tables.{IsRow, column_in}
use Rattle.otap_groups.specs.Children.{numbered}
use Rattle.otap_groups.specs.Flat.{PlacedIn, part_rows, placed}
use Rattle.otap_groups.specs.Kinds.{IsPart}
use Rattle.otap_groups.specs.ProfileTables.{IsProfileTable}
use Rattle.otap_groups.specs.Rows.{ChildRow}
use Rattle.otap_groups.specs.Stored.{part_table, stored_part, stored_parts}
use Rattle.otap_groups.proofs.Bounds.{BoundedParts, bounded_placed, size_of_placed}
use Rattle.otap_groups.proofs.FlatItems.{parts_of_placed}
use Rattle.otap_groups.proofs.ProfileRows.{is_profile_table}
use Rattle.otap_groups.proofs.RunningIds.{part_ids, running_once, running_there}
use Rattle.otap_groups.proofs.StoredRows.{part_ids_of, part_parents_of}

-- ---- ids and parents

module _ {C : Type 0} (cells_of : C → List Cell) where
  -- the ids and the parents of the rows of parts
  abbrev pub ids_of : List (List C) → List (Option ℕ)
  ids_of lists = map (λ (row : ChildRow). row.id) (part_rows numbered cells_of 0 (placed lists))

  abbrev pub parents_of : List (List C) → List (Option ℕ)
  parents_of lists = map (λ (row : ChildRow). row.parent) (part_rows numbered cells_of 0 (placed lists))

  pub part_once : (lists : List (List C)) → Twice (ids_of lists) → ⊥
  part_once lists twice = running_once 0 (placed lists) (subst Twice (part_ids cells_of 0 (placed lists)) twice)

  pub part_there : (lists : List (List C)) (p : ℕ) → p < length (flat_map (λ (parts : List C). parts) lists) → Contains (ids_of lists) (Some p)
  part_there lists p within =
      subst (λ ids. Contains ids (Some p)) (sym (part_ids cells_of 0 (placed lists)))
      (running_there p (placed lists) (let size = size_of_placed 0 lists in omega (arith, size, within)))

  low_from : (last n : ℕ) (ps : List (PlacedIn C)) → BoundedParts last ps → (p : ℕ) → Contains (map (λ (row : ChildRow). row.parent) (part_rows numbered cells_of n ps)) (Some p) → p ≤ last
  low_from last n [] few p (k, within, at) = absurd (omega arith)
  low_from last n (q ∷ ps) few p (zero, within, at) =
      let same : q.parent ≡ p = cc in
      let most : q.parent ≤ last = few.0 in
      omega (arith, same, most)
  low_from last n (q ∷ ps) few p (suc k, within, at) = low_from last (suc n) ps few.1 p (k, omega arith, at)

  -- each parent is one of those that the parts were written for
  pub part_low : (lists : List (List C)) (p : ℕ) → Contains (parents_of lists) (Some p) → p < length lists
  unfolding placed
  part_low [] p (k, within, at) = absurd (omega arith)
  part_low (parts ∷ lists) p there =
      let most = low_from (length lists) 0 (placed (parts ∷ lists)) (bounded_placed (length lists) (parts ∷ lists) (omega arith)) p there in
      omega (arith, most)

module _ {C : Type 0} (how : Coding) (test : List Cell → List Cell → Bool) (cells_of : C → List Cell) where
  filled_from : (step parent : ℕ) (before : Option (List Cell)) (ps : List (PlacedIn C))
      → Contains (map id_in (column_in (stored_parts how test cells_of step parent before ps) 1)) None → ⊥
  filled_from step parent before [] (k, within, at) = absurd (omega arith)
  filled_from step parent before (p ∷ ps) (zero, within, at) = absurd cc
  filled_from step parent before (p ∷ ps) (suc k, within, at) = filled_from 1 p.parent (Some (cells_of p.part)) ps (k, omega arith, at)

-- no row is without a parent
pub part_filled : {C : Type 0} (kind : Kind) (cells_of : C → List Cell) (lists : List (List C)) → Contains (stored_in (part_table kind cells_of lists) 1) None → ⊥
unfolding part_table
part_filled kind cells_of lists there = filled_from (coding_at kind 1) (again_of kind) cells_of 0 0 None (placed lists) there

-- ---- rows that fit

module _ {C : Type 0} (cells_of : C → List Cell) (columns own : List ColumnSpec)
    (join : (id parent : Cell) (cells : List Cell) → IsCellOf (base.Id true) id → IsCellOf (base.Id true) parent → IsRow own cells → IsRow columns (id ∷ parent ∷ cells))
    (how : Coding) (test : List Cell → List Cell → Bool) where
  abbrev Fits : PlacedIn C → Type 0
  Fits p = IsRow own (cells_of p.part)

  parts_fit : (step parent : ℕ) (before : Option (List Cell)) (ps : List (PlacedIn C)) → step < 2 ^ 32 → BoundedParts 4294967295 ps → AllByRecursion Fits ps
      → All (IsRow columns) (stored_parts how test cells_of step parent before ps)
  parts_fit step parent before [] low few all = All-nil (IsRow columns)
  parts_fit step parent before (p ∷ ps) low few all =
      let most : p.parent ≤ 4294967295 = few.0 in
      All-cons (IsRow columns) (stored_part how test cells_of step parent before p) (stored_parts how test cells_of 1 p.parent (Some (cells_of p.part)) ps)
      (join _ _ (cells_of p.part) low (omega (arith, most)) all.0) (parts_fit 1 p.parent (Some (cells_of p.part)) ps (omega arith) few.1 all.1)

placed_all : {C : Type 0} (P : C → Type 0) (ps : List (PlacedIn C)) → AllByRecursion P (map (λ (p : PlacedIn C). p.part) ps) → AllByRecursion (λ (p : PlacedIn C). P p.part) ps
placed_all P [] all = tt
placed_all P (p ∷ ps) all = (all.0, placed_all P ps all.1)

-- the table of parts whose own cells fit
pub part_written : {C : Type 0} (kind : Kind) (cells_of : C → List Cell) (own : List ColumnSpec) (lists : List (List C)) → IsPart kind
    → ((id parent : Cell) (cells : List Cell) → IsCellOf (base.Id true) id → IsCellOf (base.Id true) parent → IsRow own cells → IsRow (columns_of kind) (id ∷ parent ∷ cells))
    → ((P : ℕ → Type 0) → P 0 → P 1 → (column : ℕ) → is_id_at kind column ≡ true → P column)
    → length lists ≤ 2 ^ 32 → length (flat_map (λ (parts : List C). parts) lists) ≤ 2 ^ 32
    → AllByRecursion (λ part. IsRow own (cells_of part)) (flat_map (λ (parts : List C). parts) lists)
    → IsProfileTable (part_table kind cells_of lists)
unfolding part_table
part_written {C} kind cells_of own lists part join columns few_lists few all =
    is_profile_table kind (stored_parts (coding_at kind 1) (again_of kind) cells_of 0 0 None (placed lists))
    (parts_fit cells_of (columns_of kind) own join (coding_at kind 1) (again_of kind) 0 0 None (placed lists) (omega arith) (bounded_placed 4294967295 lists (omega arith))
    (placed_all (λ part. IsRow own (cells_of part)) (placed lists) (subst (AllByRecursion (λ part. IsRow own (cells_of part))) (sym (parts_of_placed lists)) all)))
    (columns (λ column. (ids : List (Option ℕ)) × HasIds (part_table kind cells_of lists) column ids)
    (ids_of cells_of lists, part_ids_of kind cells_of lists part few) (parents_of cells_of lists, part_parents_of kind cells_of lists part few_lists))
