-- Rows that are kept fit the columns of their kinds.
use Rattle.std.proofs.Common.{◌≡◌, ℕ, zero, suc, ◌-◌, ◌≤◌, ◌<◌, ◌^◌, Bool, true, List, [], ◌∷◌, ◌++◌, length, get_or, drop, Option, None, Some, map, sym, ◌∙◌, ap, subst, inl, inr, arith}
use Rattle.std.specs.Prelude.{Contains, filter}
use Rattle.std.specs.List.{AllByRecursion, range_with_len}
use Rattle.std.proofs.lemmas.Bool.{cases_Bool, false≢true}
use Rattle.std.proofs.lemmas.List.{length-drop, length-map}
use Rattle.std.proofs.lemmas.List.Elements.{All-get_or}
use Rattle.std.proofs.lemmas.List.FromFn.{get_or-map-range_with_len, length-map-range_with_len}
use Rattle.otap_cells.specs.declared.payload.Kind.{Kind}
use Rattle.otap_cells.specs.declared.profile.Base.{Base}
use Rattle.otap_cells.specs.declared.profile.Base.TheVariants as base
use Rattle.otap_cells.specs.declared.profile.Coding.{Coding}
use Rattle.otap_cells.specs.Bases.{is_id}
use Rattle.otap_cells.specs.Cells.{Cell, IsCellOf, cell_at, null}
use Rattle.otap_cells.specs.Columns.{ColumnSpec, base_at, coding_at, columns_of, is_id_at, plain, width_of}
use Rattle.otap_cells.specs.Continuing.{again_of}
use Rattle.otap_cells.specs.GivenIds.{ids_in}
use Rattle.otap_cells.specs.Ids.{AtMost}
use Rattle.otap_cells.specs.Tables.{IsRow, IsTable, Table}
use Rattle.otap_groups.specs.Flat.{PlacedIn}
use Rattle.otap_groups.specs.Rows.{ChildRow, MainRow, child_rows, main_row_at, main_rows}
use Rattle.otap_groups.specs.Stored.{id_cell, stored_parts}
use Rattle.otap_attrs.specs.Index.{attribute_rows_in}
use Rattle.otap_attrs.specs.Sorting.{coded_after, coded_rows, is_before, parent_in, sorted_by, sorted_rows}
use Rattle.otap_checks.specs.Reading.{main_rows_in, part_rows_in}
use Rattle.otap_kept.specs.Numbers.{first_ids, new_number}
use Rattle.otap_kept.specs.Rows.{has_lesser_parent, own_cells, own_ids, parts_under, renewed, renewed_from, resource_ids, scope_ids, under}
use Rattle.otap_kept.specs.Tables.{distance, kept_attributes, kept_main, kept_parts, past_id, row_of_placed, stored_main}
use Rattle.otap_kept.proofs.Each.{each_is, each_sorted, each_there, each_under}
use Rattle.otap_kept.proofs.MainTables.{few_first, numbers_low, own_few, resources_few, scopes_few}
use Rattle.otap_kept.proofs.Origins.{cell_behind, children_there}

-- ---- rows by their cells

from_cells : (columns : List ColumnSpec) (cells : List Cell) → length cells ≡ length columns → ((k : ℕ) → IsCellOf (get_or columns k (plain [] base.Binary)).base (get_or cells k null)) → IsRow columns cells
from_cells [] [] long fits = tt
from_cells [] (cell ∷ cells) long fits = absurd (omega (arith, long))
from_cells (column ∷ columns) [] long fits = absurd (omega (arith, long))
from_cells (column ∷ columns) (cell ∷ cells) long fits = (fits 0, from_cells columns cells (omega (arith, long)) (λ k. fits (suc k)))

-- the rows of a table fit its columns
pub row_of_table : (t : Table) → IsTable t → (row : ℕ) → row < length t.rows → IsRow (columns_of t.kind) (get_or t.rows row [])
row_of_table t is row within = from_cells (columns_of t.kind) (get_or t.rows row []) (All-get_or (λ cells. length cells ≡ width_of t.kind) t.rows row [] within is.wide) (λ k. is.fits k row)

id_fits : (holds : Base) (n : ℕ) → is_id holds ≡ true → n < 2 ^ 32 → IsCellOf holds (id_cell n)
id_fits (base.Id wide) n is low = low
id_fits _ n is low = absurd (false≢true is)

pub first_fits : (columns : List ColumnSpec) (cells : List Cell) (x : Cell) → IsRow columns cells → 1 ≤ length columns → IsCellOf (get_or columns 0 (plain [] base.Binary)).base x → IsRow columns (x ∷ drop 1 cells)
first_fits [] cells x fits wide is = absurd (omega arith)
first_fits (column ∷ columns) [] x fits wide is = absurd fits
first_fits (column ∷ columns) (cell ∷ cells) x fits wide is = (is, fits.1)

pub two_fit : (columns : List ColumnSpec) (cells : List Cell) (x y : Cell) → IsRow columns cells → 2 ≤ length columns → IsCellOf (get_or columns 0 (plain [] base.Binary)).base x
    → IsCellOf (get_or columns 1 (plain [] base.Binary)).base y → IsRow columns (x ∷ y ∷ drop 2 cells)
two_fit [] cells x y fits wide a b = absurd (omega arith)
two_fit (one ∷ []) cells x y fits wide a b = absurd (omega arith)
two_fit (one ∷ two ∷ columns) [] x y fits wide a b = absurd fits
two_fit (one ∷ two ∷ columns) (u ∷ []) x y fits wide a b = absurd fits.1
two_fit (one ∷ two ∷ columns) (u ∷ v ∷ cells) x y fits wide a b = (a, (b, fits.1.1))

-- ---- attributes

module _ (kind : Kind) where
  -- cells that fit after a parent; after an id and a parent
  abbrev pub FitBehindOne : List Cell → Type 0
  FitBehindOne cells = (x : Cell) → IsCellOf (base_at kind 0) x → IsRow (columns_of kind) (x ∷ cells)

  abbrev pub FitBehindTwo : List Cell → Type 0
  FitBehindTwo cells = (x y : Cell) → IsCellOf (base_at kind 0) x → IsCellOf (base_at kind 1) y → IsRow (columns_of kind) (x ∷ y ∷ cells)

  coded_fit : is_id_at kind 0 ≡ true → (parent : ℕ) (before : Option (List Cell)) (rows : List (List Cell))
      → AllByRecursion (λ row. FitBehindOne (drop 1 row) × (parent_in row ≤ 4294967295)) rows → AllByRecursion (IsRow (columns_of kind)) (coded_after parent before rows)
  coded_fit id parent before [] all = tt
  coded_fit id parent before (row ∷ rows) all = (all.0.0 _ (id_fits (base_at kind 0) _ id (omega (arith, all.0.1))), coded_fit id (parent_in row) (Some (drop 1 row)) rows all.1)

  placed_fit : (ps : List (PlacedIn ChildRow)) → AllByRecursion (λ p. FitBehindOne p.part.cells × (p.parent ≤ 4294967295)) ps
      → AllByRecursion (λ row. FitBehindOne (drop 1 row) × (parent_in row ≤ 4294967295)) (map row_of_placed ps)
  placed_fit [] all = tt
  placed_fit (p ∷ ps) all = (all.0, placed_fit ps all.1)

  pub attributes_fit : is_id_at kind 0 ≡ true → (ps : List (PlacedIn ChildRow)) → AllByRecursion (λ p. FitBehindOne p.part.cells × (p.parent ≤ 4294967295)) ps
      → AllByRecursion (IsRow (columns_of kind)) (coded_rows (map row_of_placed ps))
  unfolding coded_rows sorted_rows
  attributes_fit id ps all =
      coded_fit id 0 None (sorted_by is_before (map row_of_placed ps))
      (each_sorted (λ row. FitBehindOne (drop 1 row) × (parent_in row ≤ 4294967295)) is_before (map row_of_placed ps) (placed_fit ps all))

  pub parts_fit : is_id_at kind 0 ≡ true → is_id_at kind 1 ≡ true → (how : Coding) (test : List Cell → List Cell → Bool) (step parent : ℕ) (before : Option (List Cell)) (ps : List (PlacedIn ChildRow))
      → step < 2 ^ 32 → AllByRecursion (λ p. FitBehindTwo p.part.cells × (p.parent ≤ 4294967295)) ps → AllByRecursion (IsRow (columns_of kind)) (stored_parts how test own_cells step parent before ps)
  parts_fit id above how test step parent before [] low all = tt
  parts_fit id above how test step parent before (p ∷ ps) low all = (
    all.0.0 _ _ (id_fits (base_at kind 0) step id low) (id_fits (base_at kind 1) _ above (omega (arith, all.0.1))),
    parts_fit id above how test 1 p.parent (Some (own_cells p.part)) ps (omega arith) all.1,
  )

  -- what fits is what rows of a table have
  under_fit : (Q : List Cell → Type 0) (ids : List (Option ℕ)) (rows : List ChildRow) → length ids ≤ 2 ^ 32 → AllByRecursion (λ row. Q row.cells) rows
      → AllByRecursion (λ p. Q p.part.cells × (p.parent ≤ 4294967295)) (under ids rows)
  under_fit Q ids rows few all = each_under (λ p. Q p.part.cells × (p.parent ≤ 4294967295)) ids rows (each rows all) where
    each : (rows : List ChildRow) → AllByRecursion (λ row. Q row.cells) rows
        → AllByRecursion (λ row. (n : ℕ) → new_number ids row.parent ≡ Some n → Q row.cells × (n ≤ 4294967295)) rows
    each [] all = tt
    each (row ∷ rows) all = (λ n is. (all.0, numbers_low ids few row.parent n is), each rows all.1)

  -- what holds of the cells after the ids of a table's rows
  dropped : (Q : List Cell → Type 0) (f : ℕ) (rows : List (List Cell)) → ((row : ℕ) → row < length rows → Q (drop f (get_or rows row []))) → AllByRecursion Q (map (drop f) rows)
  dropped Q f [] all = tt
  dropped Q f (row ∷ rows) all = (all 0 (omega arith), dropped Q f rows (λ k within. all (suc k) (omega (arith, within))))

  found : (Q : List Cell → Type 0) (ids parents : List (Option ℕ)) (cells : List (List Cell)) → AllByRecursion Q cells → AllByRecursion (λ row. Q row.cells) (child_rows ids parents cells)
  found Q ids parents cells all = each (child_rows ids parents cells) (children_there ids parents cells) where
    each : (rows : List ChildRow) → AllByRecursion (λ row. Contains cells row.cells) rows → AllByRecursion (λ row. Q row.cells) rows
    each [] there = tt
    each (row ∷ rows) there = (each_there Q cells all row.cells there.0, each rows there.1)

  pub kept_attributes_fit : (t : Table) → IsTable t → t.kind ≡ kind → is_id_at kind 0 ≡ true → 1 ≤ width_of kind → (ids : List (Option ℕ)) → length ids ≤ 2 ^ 32
      → AllByRecursion (IsRow (columns_of kind)) (kept_attributes kind (under ids (attribute_rows_in t))).rows
  unfolding kept_attributes
  kept_attributes_fit t is same id wide ids few =
      attributes_fit id (under ids (attribute_rows_in t)) (under_fit FitBehindOne ids (attribute_rows_in t) few
      (found FitBehindOne [] (ids_in t 0) (map (drop 1) t.rows) (dropped FitBehindOne 1 t.rows (λ row within x fits.
      first_fits (columns_of kind) (get_or t.rows row []) x (subst (λ kind. IsRow (columns_of kind) (get_or t.rows row [])) same (row_of_table t is row within)) wide fits))))

  pub kept_parts_fit : (t : Table) → IsTable t → t.kind ≡ kind → is_id_at kind 0 ≡ true → is_id_at kind 1 ≡ true → 2 ≤ width_of kind → (ids : List (Option ℕ)) → length ids ≤ 2 ^ 32
      → AllByRecursion (IsRow (columns_of kind)) (kept_parts kind (parts_under ids (part_rows_in t))).rows
  unfolding kept_parts parts_under
  kept_parts_fit t is same id above wide ids few =
      parts_fit id above (coding_at kind 1) (again_of kind) 0 0 None (sorted_by has_lesser_parent (under ids (part_rows_in t))) (omega arith)
      (each_sorted (λ p. FitBehindTwo p.part.cells × (p.parent ≤ 4294967295)) has_lesser_parent (under ids (part_rows_in t))
      (under_fit FitBehindTwo ids (part_rows_in t) few (found FitBehindTwo (ids_in t 0) (ids_in t 1) (map (drop 2) t.rows) (dropped FitBehindTwo 2 t.rows (λ row within x y a b.
      two_fit (columns_of kind) (get_or t.rows row []) x y (subst (λ kind. IsRow (columns_of kind) (get_or t.rows row [])) same (row_of_table t is row within)) wide a b)))))

  -- ---- main rows

  abbrev pub FitsMain : MainRow → Type 0
  FitsMain row = (x y z : Cell) → IsCellOf (base_at kind 0) x → IsCellOf (base_at kind 1) y → IsCellOf (base_at kind 4) z
      → IsRow (columns_of kind) (x ∷ y ∷ row.resource ++ (z ∷ row.scope ++ (row.schema_url ∷ row.own)))

  pub main_fits : (ids resources scopes : List (Option ℕ)) (t : Table) → IsTable t → t.kind ≡ kind → 9 ≤ width_of kind → (k : ℕ) → k < length t.rows → FitsMain (main_row_at ids resources scopes t.rows k)
  main_fits ids resources scopes t is same wide k within x y z a b c =
      from_cells (columns_of kind) (x ∷ y ∷ cell_at cells 2 ∷ cell_at cells 3 ∷ z ∷ cell_at cells 5 ∷ cell_at cells 6 ∷ cell_at cells 7 ∷ cell_at cells 8 ∷ drop 9 cells)
      (omega (arith, long, wide, left)) each where
        cells : List Cell
        cells = get_or t.rows k []

        long : length (get_or t.rows k []) ≡ width_of kind
        long = All-get_or (λ cells. length cells ≡ width_of t.kind) t.rows k [] within is.wide ∙ ap width_of same

        left : length (drop 9 (get_or t.rows k [])) ≡ width_of kind - 9
        left = length-drop 9 (get_or t.rows k []) ∙ ap (λ n. n - 9) long

        at : (column : ℕ) → IsCellOf (base_at kind column) (get_or (get_or t.rows k []) column null)
        at column = subst (λ kind. IsCellOf (base_at kind column) (get_or (get_or t.rows k []) column null)) same (is.fits column k)

        each : (column : ℕ) → IsCellOf (base_at kind column) (get_or (x ∷ y ∷ cell_at (get_or t.rows k []) 2 ∷ cell_at (get_or t.rows k []) 3 ∷ z ∷ cell_at (get_or t.rows k []) 5
            ∷ cell_at (get_or t.rows k []) 6 ∷ cell_at (get_or t.rows k []) 7 ∷ cell_at (get_or t.rows k []) 8 ∷ drop 9 (get_or t.rows k [])) column null)
        each zero = a
        each (suc zero) = b
        each (suc (suc zero)) = at 2
        each (suc (suc (suc zero))) = at 3
        each (suc (suc (suc (suc zero)))) = c
        each (suc (suc (suc (suc (suc zero))))) = at 5
        each (suc (suc (suc (suc (suc (suc zero)))))) = at 6
        each (suc (suc (suc (suc (suc (suc (suc zero))))))) = at 7
        each (suc (suc (suc (suc (suc (suc (suc (suc zero)))))))) = at 8
        each (suc (suc (suc (suc (suc (suc (suc (suc (suc column))))))))) =
            subst (IsCellOf (base_at kind (suc (suc (suc (suc (suc (suc (suc (suc (suc column)))))))))))
            (sym (cell_behind 9 column (suc (suc (suc (suc (suc (suc (suc (suc (suc column))))))))) (get_or t.rows k []) (omega arith)))
            (at (suc (suc (suc (suc (suc (suc (suc (suc (suc column))))))))))

  all_fit : (t : Table) → IsTable t → t.kind ≡ kind → 9 ≤ width_of kind → AllByRecursion FitsMain (main_rows_in t)
  unfolding main_rows
  all_fit t is same wide = each_is FitsMain (map (main_row_at (ids_in t 0) (ids_in t 1) (ids_in t 4) t.rows) (range_with_len 0 (length t.rows))) there where
    there : (row : MainRow) → Contains (map (main_row_at (ids_in t 0) (ids_in t 1) (ids_in t 4) t.rows) (range_with_len 0 (length t.rows))) row → FitsMain row
    there row at =
        let f = main_row_at (ids_in t 0) (ids_in t 1) (ids_in t 4) t.rows in
        let within : at.0 < length t.rows = omega (arith, at.1, length-map-range_with_len f 0 (length t.rows)) in
        let here : f at.0 ≡ row = sym (get_or-map-range_with_len f 0 (length t.rows) at.0 at.0 row within (omega arith)) ∙ at.2 in
        subst FitsMain here (main_fits (ids_in t 0) (ids_in t 1) (ids_in t 4) t is same wide at.0 within)

  filter_fits : (test : MainRow → Bool) (rows : List MainRow) → AllByRecursion FitsMain rows → AllByRecursion FitsMain (filter test rows)
  filter_fits test [] all = tt
  filter_fits test (row ∷ rows) all = elim (cases_Bool (test row)) [
    | inl t ↦ rw t (all.0, filter_fits test rows all.1)
    | inr f ↦ rw f (filter_fits test rows all.1)
  ]

  renewed_fits : (resources scopes : List (Option ℕ)) (n : ℕ) (rows : List MainRow) → AllByRecursion FitsMain rows → AllByRecursion FitsMain (renewed_from resources scopes n rows)
  renewed_fits resources scopes n [] all = tt
  renewed_fits resources scopes n (row ∷ rows) all = (all.0, renewed_fits resources scopes (suc n) rows all.1)

  distance_fits : (column before : ℕ) (id : Option ℕ) (ids : List (Option ℕ)) → is_id_at kind column ≡ true → AtMost 4294967295 (id ∷ ids) → IsCellOf (base_at kind column) (distance before id)
  distance_fits column before None ids is few = tt
  distance_fits column before (Some n) ids is few = id_fits (base_at kind column) (n - before) is (omega (arith, few.0))

  rest_few : (id : Option ℕ) (ids : List (Option ℕ)) → AtMost 4294967295 (id ∷ ids) → AtMost 4294967295 ids
  rest_few None ids few = few
  rest_few (Some n) ids few = few.1

  stored_fit : is_id_at kind 0 ≡ true → is_id_at kind 1 ≡ true → is_id_at kind 4 ≡ true → (o r s : ℕ) (rows : List MainRow) → AllByRecursion FitsMain rows → AtMost 4294967295 (own_ids rows)
      → AtMost 4294967295 (resource_ids rows) → AtMost 4294967295 (scope_ids rows) → AllByRecursion (IsRow (columns_of kind)) (stored_main o r s rows)
  stored_fit a b c o r s [] all few_o few_r few_s = tt
  stored_fit a b c o r s (row ∷ rows) all few_o few_r few_s = (
    all.0 _ _ _ (distance_fits 0 o row.id (own_ids rows) a few_o) (distance_fits 1 r row.resource_id (resource_ids rows) b few_r) (distance_fits 4 s row.scope_id (scope_ids rows) c few_s),
    stored_fit a b c (past_id o row.id) (past_id r row.resource_id) (past_id s row.scope_id) rows all.1 (rest_few row.id (own_ids rows) few_o)
        (rest_few row.resource_id (resource_ids rows) few_r) (rest_few row.scope_id (scope_ids rows) few_s),
  )

  pub kept_main_fits : (t : Table) → IsTable t → t.kind ≡ kind → 9 ≤ width_of kind → is_id_at kind 0 ≡ true → is_id_at kind 1 ≡ true → is_id_at kind 4 ≡ true
      → (test : MainRow → Bool) → length (filter test (main_rows_in t)) ≤ 2 ^ 32 → AllByRecursion (IsRow (columns_of kind)) (kept_main kind (renewed (filter test (main_rows_in t)))).rows
  unfolding kept_main renewed
  kept_main_fits t is same wide a b c test few =
      let rows : List MainRow = filter test (main_rows_in t) in
      let resources : List (Option ℕ) = first_ids (resource_ids rows) in
      let scopes : List (Option ℕ) = first_ids (scope_ids rows) in
      let few_r : length resources ≤ 2 ^ 32 = omega (arith, few_first (resource_ids rows), length-map rows (λ (row : MainRow). row.resource_id), few) in
      let few_s : length scopes ≤ 2 ^ 32 = omega (arith, few_first (scope_ids rows), length-map rows (λ (row : MainRow). row.scope_id), few) in
      stored_fit a b c 0 0 0 (renewed_from resources scopes 0 rows) (renewed_fits resources scopes 0 rows (filter_fits test (main_rows_in t) (all_fit t is same wide)))
      (own_few resources scopes 0 rows (omega (arith, few))) (resources_few resources scopes few_r 0 rows) (scopes_few resources scopes few_s 0 rows)
