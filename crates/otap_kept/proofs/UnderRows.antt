-- The rows below parents that are kept, by the new numbers of these.
use Rattle.std.proofs.Common.{◌≡◌, ℕ, zero, suc, ◌+◌, ◌-◌, ◌<◌, Bool, List, [], ◌∷◌, length, get_or, map, drop, Option, Some, None, refl, sym, ap, ◌∙◌, arith}
use Rattle.std.specs.Prelude.{All}
use Rattle.std.specs.List.{AllByRecursion, range_with_len, slice_index_or}
use Rattle.std.proofs.lemmas.List.{length-map}
use Rattle.std.proofs.lemmas.List.Elements.{All-from_recursion}
use Rattle.otap_cells.specs.declared.payload.Kind.{Kind}
use Rattle.otap_cells.specs.declared.profile.Coding.{Coding}
use Rattle.otap_cells.specs.Cells.{Cell}
use Rattle.otap_cells.specs.Columns.{coding_at}
use Rattle.otap_cells.specs.Continuing.{again_of, goes_on_after}
use Rattle.otap_cells.specs.GivenIds.{HasIds}
use Rattle.otap_cells.specs.Ids.{base_of}
use Rattle.otap_cells.specs.Tables.{Table, profile_table}
use Rattle.otap_groups.specs.declared.entry.ChildEntry.{ChildEntry}
use Rattle.otap_groups.specs.Flat.{PlacedIn, placed_at}
use Rattle.otap_groups.specs.Inside.{entries_from, entry_before}
use Rattle.otap_groups.specs.Rows.{ChildRow, child_row, child_row_at, child_rows, id_at}
use Rattle.otap_groups.specs.Stored.{id_cell, stored_parts}
use Rattle.otap_attrs.specs.Index.{attribute_rows_in}
use Rattle.otap_attrs.specs.Sorting.{coded_rows, sorted_by, sorted_rows}
use Rattle.otap_attrs.proofs.SortedBy.{map_sorted}
use Rattle.otap_attrs.proofs.TablePairs.{ids_are, ids_long}
use Rattle.otap_checks.specs.Reading.{part_rows_in}
use Rattle.otap_kept.specs.Numbering.{entry_has_lesser_parent}
use Rattle.otap_kept.specs.Numbers.{new_number}
use Rattle.otap_kept.specs.Rows.{former_ids, has_lesser_parent, own_cells, parts_under, placed_if, under}
use Rattle.otap_kept.specs.Tables.{kept_attributes, kept_parts, row_of_placed}
use Rattle.otap_kept.specs.Writing.{part_at, with_number, with_numbers}
use Rattle.otap_kept.proofs.Each.{each_sorted}
use Rattle.otap_kept.proofs.PairHolders.{paired, paired_are}

-- ---- attributes

numbered_step : (n p : Option ℕ) (row : List Cell) (rows : List (List Cell)) (parts : List (PlacedIn ChildRow)) → rows ≡ map row_of_placed parts
    → with_number n row rows ≡ map row_of_placed (placed_if n (child_row None p (drop 1 row)) parts)
numbered_step None p row rows parts more = more
numbered_step (Some n) p row rows parts more = ap (λ (xs : List (List Cell)). (id_cell n ∷ drop 1 row) ∷ xs) more

module _ (kept : List (Option ℕ)) where
  numbered_paired : (ps : List (Option ℕ)) (rows : List (List Cell))
      → with_numbers (map (new_number kept) ps) rows ≡ map row_of_placed (under kept (paired ps (map (drop 1) rows)))
  numbered_paired [] rows = refl
  numbered_paired (p ∷ ps) [] = refl
  numbered_paired (p ∷ ps) (row ∷ rows) = numbered_step (new_number kept p) p row _ _ (numbered_paired ps rows)

  -- THE ROWS OF ATTRIBUTES that are kept, before they are sorted
  pub numbered_are : (t : Table) (ps : List (Option ℕ)) → HasIds t 0 ps → with_numbers (map (new_number kept) ps) t.rows ≡ map row_of_placed (under kept (attribute_rows_in t))
  numbered_are t ps are =
      let long : length ps ≡ length (map (drop 1) t.rows) = ids_long t 0 ps are ∙ sym (length-map t.rows (drop 1)) in
      let rows : paired ps (map (drop 1) t.rows) ≡ attribute_rows_in t =
      paired_are ps (map (drop 1) t.rows) long ∙ ap (λ ids. child_rows [] ids (map (drop 1) t.rows)) (ids_are t 0 ps are) in
      numbered_paired ps t.rows ∙ ap (λ (rows : List ChildRow). map row_of_placed (under kept rows)) rows

  pub attributes_are : (kind : Kind) (t : Table) (ps : List (Option ℕ)) → HasIds t 0 ps
      → profile_table kind (coded_rows (with_numbers (map (new_number kept) ps) t.rows)) ≡ kept_attributes kind (under kept (attribute_rows_in t))
  unfolding kept_attributes
  attributes_are kind t ps are = ap (λ rows. profile_table kind (coded_rows rows)) (numbered_are t ps are)

  -- those of a table without rows
  pub no_attributes : (kind : Kind) → profile_table kind [] ≡ kept_attributes kind (under kept (attribute_rows_in (profile_table kind [])))
  unfolding kept_attributes coded_rows sorted_rows child_rows
  no_attributes kind = refl

-- ---- parts

entry_step : (n p : Option ℕ) (place : ℕ) (f : ℕ → ChildRow) (entries : List ChildEntry) (parts : List (PlacedIn ChildRow))
    → map (λ (e : ChildEntry). placed_at e.parent (f e.place)) entries ≡ parts
    → map (λ (e : ChildEntry). placed_at e.parent (f e.place)) (entry_before place n entries) ≡ placed_if n (f place) parts
entry_step None p place f entries parts more = more
entry_step (Some n) p place f entries parts more = ap (λ (xs : List (PlacedIn ChildRow)). placed_at n (f place) ∷ xs) more

module _ (kept : List (Option ℕ)) where
  entries_under : (f : ℕ → ChildRow) (n : ℕ) (ps : List (Option ℕ)) → ((k place : ℕ) → place ≡ n + k → k < length ps → (f place).parent ≡ get_or ps k None)
      → map (λ (e : ChildEntry). placed_at e.parent (f e.place)) (entries_from n (map (new_number kept) ps)) ≡ under kept (map f (range_with_len n (length ps)))
  entries_under f n [] are = refl
  entries_under f n (p ∷ ps) are =
      let here : (f n).parent ≡ p = are 0 n (omega arith) (omega arith) in
      entry_step (new_number kept p) p n f _ _ (entries_under f (suc n) ps (λ k place is within. are (suc k) place (omega (arith, is)) (omega (arith, within))))
      ∙ ap (λ id. placed_if (new_number kept id) (f n) (under kept (map f (range_with_len (suc n) (length ps))))) (sym here)
      ∙ ap (λ m. placed_if (new_number kept (f n).parent) (f n) (under kept (map f (range_with_len m (length ps))))) (let e : suc n ≡ n + 1 = omega arith in e)

  module _ (t : Table) (ids parents : List (Option ℕ)) (own : HasIds t 0 ids) (above : HasIds t 1 parents) where
    -- an entry as the part that it is
    abbrev as_part : ChildEntry → PlacedIn ChildRow
    as_part e = placed_at e.parent (child_row_at ids parents (map (drop 2) t.rows) e.place)

    abbrev pub entries_kept : List ChildEntry
    entries_kept = sorted_by entry_has_lesser_parent (entries_from 0 (map (new_number kept) parents))

    long : length parents ≡ length (map (drop 2) t.rows)
    long = ids_long t 1 parents above ∙ sym (length-map t.rows (drop 2))

    rows_are : child_rows ids parents (map (drop 2) t.rows) ≡ part_rows_in t
    rows_are = (λ i. child_rows (ids_are t 0 ids own i) (ids_are t 1 parents above i) (map (drop 2) t.rows))

    all : (es : List ChildEntry) → AllByRecursion (λ (e : ChildEntry). Unit {0}) es
    all [] = tt
    all (e ∷ es) = (tt, all es)

    -- THE PARTS that are kept, in their order
    pub parts_are : map as_part entries_kept ≡ parts_under kept (part_rows_in t)
    unfolding parts_under child_rows
    parts_are =
        map_sorted (λ (e : ChildEntry). Unit {0}) as_part entry_has_lesser_parent has_lesser_parent (λ x y a b. refl) (entries_from 0 (map (new_number kept) parents))
        (all (entries_from 0 (map (new_number kept) parents)))
        ∙ ap (sorted_by has_lesser_parent) (entries_under (child_row_at ids parents (map (drop 2) t.rows)) 0 parents
        (λ k place is within. let e : place ≡ k = omega (arith, is) in ap (λ n. get_or parents n None) e)
        ∙ ap (λ n. under kept (map (child_row_at ids parents (map (drop 2) t.rows)) (range_with_len 0 n))) long
        ∙ ap (under kept) rows_are)

    ids_mapped : (es : List ChildEntry) → map (λ (e : ChildEntry). id_at ids e.place) es ≡ former_ids (map as_part es)
    ids_mapped [] = refl
    ids_mapped (e ∷ es) = ap (λ (more : List (Option ℕ)). id_at ids e.place ∷ more) (ids_mapped es)

    -- their former ids
    pub former_are : map (λ (e : ChildEntry). id_at ids e.place) entries_kept ≡ former_ids (parts_under kept (part_rows_in t))
    former_are = ids_mapped entries_kept ∙ ap former_ids parts_are

    cells_same : (rows : List (List Cell)) (place : ℕ) → drop 2 (slice_index_or rows place []) ≡ slice_index_or (map (drop 2) rows) place []
    cells_same [] place = refl
    cells_same (row ∷ rows) zero = refl
    cells_same (row ∷ rows) (suc place) = cells_same rows place

    stored_same : (how : Coding) (test : List Cell → List Cell → Bool) (step parent : ℕ) (before : Option (List Cell)) (es : List ChildEntry)
        → stored_parts how test own_cells step parent before (map (part_at t.rows) es) ≡ stored_parts how test own_cells step parent before (map as_part es)
    stored_same how test step parent before [] = refl
    stored_same how test step parent before (e ∷ es) =
        ap (λ (cells : List Cell). (id_cell step ∷ id_cell (e.parent - base_of how (goes_on_after test before cells) parent) ∷ cells)
        ∷ stored_parts how test own_cells 1 e.parent (Some cells) (map (part_at t.rows) es)) (cells_same t.rows e.place)
        ∙ ap (λ (more : List (List Cell)). (id_cell step ∷ id_cell (e.parent - base_of how (goes_on_after test before (slice_index_or (map (drop 2) t.rows) e.place [])) parent)
        ∷ slice_index_or (map (drop 2) t.rows) e.place []) ∷ more)
        (stored_same how test 1 e.parent (Some (slice_index_or (map (drop 2) t.rows) e.place [])) es)

    -- THE TABLE of the parts that are kept
    pub part_table_is : (kind : Kind) → kept_parts kind (map (part_at t.rows) entries_kept) ≡ kept_parts kind (parts_under kept (part_rows_in t))
    unfolding kept_parts
    part_table_is kind =
        ap (profile_table kind) (stored_same (coding_at kind 1) (again_of kind) 0 0 None entries_kept)
        ∙ ap (λ parts. kept_parts kind parts) parts_are

    entries_within : (n to : ℕ) (ps : List (Option ℕ)) → to ≡ n + length ps → AllByRecursion (λ (e : ChildEntry). e.place < to) (entries_from n ps)
    entries_within n to [] is = tt
    entries_within n to (None ∷ ps) is = entries_within (suc n) to ps (omega (arith, is))
    entries_within n to (Some p ∷ ps) is = (omega (arith, is), entries_within (suc n) to ps (omega (arith, is)))

    pub places_there : All (λ (e : ChildEntry). e.place < length t.rows) entries_kept
    places_there =
        All-from_recursion (λ (e : ChildEntry). e.place < length t.rows) entries_kept
        (each_sorted (λ (e : ChildEntry). e.place < length t.rows) entry_has_lesser_parent (entries_from 0 (map (new_number kept) parents))
        (entries_within 0 (length t.rows) (map (new_number kept) parents) (omega (arith, ids_long t 1 parents above, length-map parents (new_number kept)))))

-- entries whose places are in a table without rows are none
pub no_entries : (kind : Kind) (entries : List ChildEntry) → All (λ (e : ChildEntry). e.place < length (profile_table kind []).rows) entries
    → profile_table kind [] ≡ kept_parts kind (map (part_at (profile_table kind []).rows) entries)
unfolding kept_parts
no_entries kind [] within = refl
no_entries kind (e ∷ es) within = absurd (omega (arith, within 0 e (omega arith)))
