-- The cells of rows that are kept, after their ids, are those of rows of the batch.
use Rattle.std.proofs.Common.{◌≡◌, ℕ, zero, suc, ◌+◌, ◌-◌, ◌≤◌, ◌<◌, Bool, List, [], ◌∷◌, length, get_or, drop, Option, None, Some, map, refl, sym, ◌∙◌, ap, subst, inl, inr, arith}
use Rattle.std.specs.Prelude.{Contains, filter}
use Rattle.std.specs.List.{AllByRecursion, range_with_len}
use Rattle.std.proofs.lemmas.Bool.{cases_Bool}
use Rattle.std.proofs.lemmas.List.{get_or_default}
use Rattle.std.proofs.lemmas.List.FromFn.{get_or-map-range_with_len, length-map-range_with_len}
use Rattle.otap_cells.specs.declared.payload.Kind.{Kind}
use Rattle.otap_cells.specs.declared.profile.Coding.{Coding}
use Rattle.otap_cells.specs.Cells.{Cell, null}
use Rattle.otap_cells.specs.Columns.{coding_at}
use Rattle.otap_cells.specs.Continuing.{again_of, has_attributes, ids_in_front}
use Rattle.otap_cells.specs.GivenIds.{ids_in}
use Rattle.otap_cells.specs.Named.{table_named}
use Rattle.otap_cells.specs.Tables.{Table}
use Rattle.otap_groups.specs.Flat.{PlacedIn}
use Rattle.otap_groups.specs.Rows.{ChildRow, MainRow, child_row_at, child_rows, main_row_at, main_rows}
use Rattle.otap_groups.specs.Stored.{stored_parts}
use Rattle.otap_attrs.specs.Index.{attribute_rows_in}
use Rattle.otap_attrs.specs.Sorting.{coded_after, coded_rows, is_before, sorted_by, sorted_rows}
use Rattle.otap_checks.specs.Reading.{main_rows_in, part_rows_in}
use Rattle.otap_kept.specs.Kept.{table_below}
use Rattle.otap_kept.specs.Numbers.{first_ids, new_number}
use Rattle.otap_kept.specs.Rows.{has_lesser_parent, own_cells, parts_under, renewed, renewed_from, resource_ids, scope_ids, under}
use Rattle.otap_kept.specs.Tables.{kept_attributes, kept_main, kept_parts, past_id, row_of_placed, stored_main}
use Rattle.otap_kept.proofs.Each.{each_is, each_sorted, each_under}
use Rattle.otap_kept.proofs.MainRows.{IsShaped}
use Rattle.otap_kept.proofs.MainTables.{shaped_renewed}

-- ---- what holds of cells is kept

module _ (Q : List Cell → Type 0) where
  coded_each : (parent : ℕ) (before : Option (List Cell)) (rows : List (List Cell)) → AllByRecursion (λ row. Q (drop 1 row)) rows
      → AllByRecursion (λ row. Q (drop 1 row)) (coded_after parent before rows)
  coded_each parent before [] all = tt
  coded_each parent before (row ∷ rows) all = (all.0, coded_each _ _ rows all.1)

  rows_each : (ps : List (PlacedIn ChildRow)) → AllByRecursion (λ p. Q p.part.cells) ps → AllByRecursion (λ row. Q (drop 1 row)) (map row_of_placed ps)
  rows_each [] all = tt
  rows_each (p ∷ ps) all = (all.0, rows_each ps all.1)

  pub attributes_each : (kind : Kind) (ps : List (PlacedIn ChildRow)) → AllByRecursion (λ p. Q p.part.cells) ps → AllByRecursion (λ row. Q (drop 1 row)) (kept_attributes kind ps).rows
  unfolding kept_attributes coded_rows sorted_rows
  attributes_each kind ps all = coded_each 0 None (sorted_by is_before (map row_of_placed ps)) (each_sorted (λ row. Q (drop 1 row)) is_before (map row_of_placed ps) (rows_each ps all))

  stored_each : (how : Coding) (test : List Cell → List Cell → Bool) (step parent : ℕ) (before : Option (List Cell)) (ps : List (PlacedIn ChildRow))
      → AllByRecursion (λ p. Q p.part.cells) ps → AllByRecursion (λ row. Q (drop 2 row)) (stored_parts how test own_cells step parent before ps)
  stored_each how test step parent before [] all = tt
  stored_each how test step parent before (p ∷ ps) all = (all.0, stored_each how test 1 p.parent (Some (own_cells p.part)) ps all.1)

  pub parts_each : (kind : Kind) (ps : List (PlacedIn ChildRow)) → AllByRecursion (λ p. Q p.part.cells) ps → AllByRecursion (λ row. Q (drop 2 row)) (kept_parts kind ps).rows
  unfolding kept_parts
  parts_each kind ps all = stored_each (coding_at kind 1) (again_of kind) 0 0 None ps all

  weaker : (ids : List (Option ℕ)) (rows : List ChildRow) → AllByRecursion (λ row. Q row.cells) rows
      → AllByRecursion (λ p. Q p.part.cells) (under ids rows)
  weaker ids rows all = each_under (λ p. Q p.part.cells) ids rows (each rows all) where
    each : (rows : List ChildRow) → AllByRecursion (λ row. Q row.cells) rows → AllByRecursion (λ row. (n : ℕ) → new_number ids row.parent ≡ Some n → Q row.cells) rows
    each [] all = tt
    each (row ∷ rows) all = (λ n is. all.0, each rows all.1)

  own_each : (o r s : ℕ) (rows : List MainRow) → AllByRecursion IsShaped rows → AllByRecursion (λ row. Q row.own) rows → AllByRecursion (λ row. Q (drop 9 row)) (stored_main o r s rows)
  own_each o r s [] shaped all = tt
  own_each o r s (row ∷ rows) shaped all =
      (rw (shaped.0.0, shaped.0.1) all.0, own_each (past_id o row.id) (past_id r row.resource_id) (past_id s row.scope_id) rows shaped.1 all.1)

  filtered_each : (test : MainRow → Bool) (rows : List MainRow) → AllByRecursion (λ row. Q row.own) rows → AllByRecursion (λ row. Q row.own) (filter test rows)
  filtered_each test [] all = tt
  filtered_each test (row ∷ rows) all = elim (cases_Bool (test row)) [
    | inl t ↦ rw t (all.0, filtered_each test rows all.1)
    | inr f ↦ rw f (filtered_each test rows all.1)
  ]

  renewed_each : (resources scopes : List (Option ℕ)) (n : ℕ) (rows : List MainRow) → AllByRecursion (λ row. Q row.own) rows
      → AllByRecursion (λ row. Q row.own) (renewed_from resources scopes n rows)
  renewed_each resources scopes n [] all = tt
  renewed_each resources scopes n (row ∷ rows) all = (all.0, renewed_each resources scopes (suc n) rows all.1)

-- ---- the rows of a table

-- a cell list of some is there
cells_there : (cells : List (List Cell)) (k : ℕ) → k < length cells → Contains cells (get_or cells k [])
cells_there cells k within = (k, within, get_or_default cells k (get_or cells k []) [] within)

pub children_there : (ids parents : List (Option ℕ)) (cells : List (List Cell)) → AllByRecursion (λ row. Contains cells row.cells) (child_rows ids parents cells)
unfolding child_rows
children_there ids parents cells = each_is (λ row. Contains cells row.cells) (map (child_row_at ids parents cells) (range_with_len 0 (length cells))) there where
  there : (row : ChildRow) → Contains (map (child_row_at ids parents cells) (range_with_len 0 (length cells))) row → Contains cells row.cells
  there row at =
      let within : at.0 < length cells = omega (arith, at.1, length-map-range_with_len (child_row_at ids parents cells) 0 (length cells)) in
      let is : child_row_at ids parents cells at.0 ≡ row = sym (get_or-map-range_with_len (child_row_at ids parents cells) 0 (length cells) at.0 at.0 row within (omega arith)) ∙ at.2 in
      subst (λ (row : ChildRow). Contains cells row.cells) is (cells_there cells at.0 within)

dropped_there : (f : ℕ) (rows : List (List Cell)) (k : ℕ) → k < length rows → Contains (map (drop f) rows) (drop f (get_or rows k []))
dropped_there f [] k within = absurd (omega arith)
dropped_there f (row ∷ rows) zero within = (0, omega arith, refl)
dropped_there f (row ∷ rows) (suc k) within = let more = dropped_there f rows k (omega arith) in (suc more.0, omega (arith, more.1), more.2)

own_there : (ids resources scopes : List (Option ℕ)) (rows : List (List Cell)) → AllByRecursion (λ row. Contains (map (drop 9) rows) row.own) (main_rows ids resources scopes rows)
unfolding main_rows
own_there ids resources scopes rows = each_is (λ row. Contains (map (drop 9) rows) row.own) (map (main_row_at ids resources scopes rows) (range_with_len 0 (length rows))) there where
  there : (row : MainRow) → Contains (map (main_row_at ids resources scopes rows) (range_with_len 0 (length rows))) row → Contains (map (drop 9) rows) row.own
  there row at =
      let within : at.0 < length rows = omega (arith, at.1, length-map-range_with_len (main_row_at ids resources scopes rows) 0 (length rows)) in
      let is : main_row_at ids resources scopes rows at.0 ≡ row = sym (get_or-map-range_with_len (main_row_at ids resources scopes rows) 0 (length rows) at.0 at.0 row within (omega arith)) ∙ at.2 in
      subst (λ (row : MainRow). Contains (map (drop 9) rows) row.own) is (dropped_there 9 rows at.0 within)

-- EACH ROW of a table comes from a row of another: after so many columns it has its cells
pub record IsFrom (f : ℕ) (others : List (List Cell)) (cells : List Cell) : Type 0 where
  pub row : ℕ
  pub there : row < length others
  pub is : drop f cells ≡ drop f (get_or others row [])

abbrev pub ComeFrom : ℕ → Table → Table → Type 0
ComeFrom f t other = (row : ℕ) → row < length t.rows → IsFrom f other.rows (get_or t.rows row [])

origin : (f : ℕ) (others : List (List Cell)) (cells : List Cell) → Contains (map (drop f) others) (drop f cells) → IsFrom f others cells
origin f [] cells at = absurd (omega (arith, at.1))
origin f (other ∷ others) cells (zero, within, at) = record { row = 0; there = omega arith; is = sym at }
origin f (other ∷ others) cells (suc k, within, at) =
    let more = origin f others cells (k, omega arith, at) in record { row = suc more.row; there = omega (arith, more.there); is = more.is }

come_from : (f : ℕ) (others rows : List (List Cell)) → AllByRecursion (λ cells. Contains (map (drop f) others) (drop f cells)) rows
    → (row : ℕ) → row < length rows → IsFrom f others (get_or rows row [])
come_from f others [] all row within = absurd (omega arith)
come_from f others (cells ∷ rows) all zero within = origin f others cells all.0
come_from f others (cells ∷ rows) all (suc row) within = come_from f others rows all.1 row (omega arith)

pub main_come_from : (kind : Kind) (test : MainRow → Bool) (t : Table) → AllByRecursion IsShaped (filter test (main_rows_in t)) → ComeFrom 9 (kept_main kind (renewed (filter test (main_rows_in t)))) t
unfolding kept_main renewed
main_come_from kind test t shaped =
    let rows : List MainRow = filter test (main_rows_in t) in
    let resources : List (Option ℕ) = first_ids (resource_ids rows) in
    let scopes : List (Option ℕ) = first_ids (scope_ids rows) in
    come_from 9 t.rows (stored_main 0 0 0 (renewed_from resources scopes 0 rows))
    (own_each (Contains (map (drop 9) t.rows)) 0 0 0 (renewed_from resources scopes 0 rows) (shaped_renewed resources scopes 0 rows shaped)
    (renewed_each (Contains (map (drop 9) t.rows)) resources scopes 0 rows
    (filtered_each (Contains (map (drop 9) t.rows)) test (main_rows_in t) (own_there (ids_in t 0) (ids_in t 1) (ids_in t 4) t.rows))))

pub below_come_from : (tables : List Table) (ids : List (Option ℕ)) (kind : Kind) → ComeFrom (ids_in_front kind) (table_below tables ids kind) (table_named kind tables)
unfolding parts_under
below_come_from tables ids kind = elim (cases_Bool (has_attributes kind)) [
  | inl is ↦
      let Q : List Cell → Type 0 = Contains (map (drop 1) t.rows) in
      rw is (come_from 1 t.rows (kept_attributes kind (under ids (attribute_rows_in t))).rows
      (attributes_each Q kind (under ids (attribute_rows_in t)) (weaker Q ids (attribute_rows_in t) (children_there [] (ids_in t 0) (map (drop 1) t.rows)))))
  | inr other ↦
      let Q : List Cell → Type 0 = Contains (map (drop 2) t.rows) in
      rw other (come_from 2 t.rows (kept_parts kind (parts_under ids (part_rows_in t))).rows
      (parts_each Q kind (parts_under ids (part_rows_in t)) (each_sorted (λ p. Q p.part.cells) has_lesser_parent (under ids (part_rows_in t))
      (weaker Q ids (part_rows_in t) (children_there (ids_in t 0) (ids_in t 1) (map (drop 2) t.rows))))))
]
  where
    t : Table
    t = table_named kind tables

-- ---- cells after the ids

pub cell_behind : (f j column : ℕ) (cells : List Cell) → column ≡ f + j → get_or (drop f cells) j null ≡ get_or cells column null
cell_behind zero j column cells is = ap (λ k. get_or cells k null) (omega (arith, is))
cell_behind (suc f) j column [] is = refl
cell_behind (suc f) j zero (cell ∷ cells) is = absurd (omega (arith, is))
cell_behind (suc f) j (suc column) (cell ∷ cells) is = cell_behind f j column cells (omega (arith, is))

pub cells_behind : (f j column : ℕ) (cells : List Cell) → column ≡ f + j → drop column cells ≡ drop j (drop f cells)
cells_behind zero j column cells is = ap (λ k. drop k cells) (omega (arith, is))
cells_behind (suc f) j zero cells is = absurd (omega (arith, is))
cells_behind (suc f) zero (suc column) [] is = refl
cells_behind (suc f) (suc j) (suc column) [] is = refl
cells_behind (suc f) j (suc column) (cell ∷ cells) is = cells_behind f j column cells (omega (arith, is))

module _ (f : ℕ) (others : List (List Cell)) (cells : List Cell) (from : IsFrom f others cells) (column : ℕ) (far : f ≤ column) where
  pub same_cell : get_or cells column null ≡ get_or (get_or others from.row []) column null
  same_cell =
      sym (cell_behind f (column - f) column cells (omega arith)) ∙ ap (λ (rest : List Cell). get_or rest (column - f) null) from.is
      ∙ cell_behind f (column - f) column (get_or others from.row []) (omega arith)

  pub same_cells : drop column cells ≡ drop column (get_or others from.row [])
  same_cells =
      cells_behind f (column - f) column cells (omega arith) ∙ ap (drop (column - f)) from.is
      ∙ sym (cells_behind f (column - f) column (get_or others from.row []) (omega arith))
