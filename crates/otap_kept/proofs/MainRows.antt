-- The main table of kept rows has these rows.
use Rattle.std.proofs.Common.{◌≡◌, ℕ, zero, suc, ◌≤◌, ◌<◌, List, [], ◌∷◌, Option, None, Some, length, get_or, map, refl, sym, ap, subst, arith}
use Rattle.std.specs.List.{AllByRecursion, AllZip}
use Rattle.std.proofs.lemmas.List.FromFn.{fill_by_all}
use Rattle.otap_cells.specs.declared.profile.Coding.TheVariants as coding
use Rattle.otap_cells.specs.Cells.{Cell, cell_at}
use Rattle.otap_cells.specs.ColumnIds.{id_in}
use Rattle.otap_cells.specs.Ids.{AtMost, IdsAfter, RiseAfter}
use Rattle.otap_cells.specs.Tables.{column_in}
use Rattle.otap_groups.specs.Rows.{MainRow, main_row, main_rows}
use Rattle.otap_kept.specs.Rows.{own_ids, resource_ids, scope_ids}
use Rattle.otap_kept.specs.Tables.{distance, past_id, stored_main, stored_row}

-- one column of ids, stored as distances
one_more : (last before : ℕ) (id : Option ℕ) (ns ids : List (Option ℕ)) → RiseAfter coding.Delta before [] (id ∷ ids) → AtMost last (id ∷ ids)
    → (RiseAfter coding.Delta (past_id before id) [] ids → AtMost last ids → IdsAfter coding.Delta last (past_id before id) [] ns ids)
    → IdsAfter coding.Delta last before [] (id_in (distance before id) ∷ ns) (id ∷ ids)
one_more last before None ns ids rise few rest = (refl, rest rise.1 few)
one_more last before (Some id) ns ids rise few rest =
    let low : before ≤ id = rise.0 in
    (omega arith, few.0, rest rise.1 few.1)

-- each row has two cells of its resource, and three of its scope
abbrev pub IsShaped : MainRow → Type 0
IsShaped row = (row.resource ≡ cell_at row.resource 0 ∷ cell_at row.resource 1 ∷ [])
    × (row.scope ≡ cell_at row.scope 0 ∷ cell_at row.scope 1 ∷ cell_at row.scope 2 ∷ [])

scope_cell : (own resource scope : ℕ) (row : MainRow) → IsShaped row → cell_at (stored_row own resource scope row) 4 ≡ distance scope row.scope_id
scope_cell own resource scope row shaped = rw shaped.0 refl

module _ (last : ℕ) where
  pub own_stored : (o r s : ℕ) (rows : List MainRow) → RiseAfter coding.Delta o [] (own_ids rows) → AtMost last (own_ids rows)
      → IdsAfter coding.Delta last o [] (map id_in (column_in (stored_main o r s rows) 0)) (own_ids rows)
  own_stored o r s [] rise few = tt
  own_stored o r s (row ∷ rows) rise few =
      one_more last o row.id _ (own_ids rows) rise few (own_stored (past_id o row.id) (past_id r row.resource_id) (past_id s row.scope_id) rows)

  pub resources_stored : (o r s : ℕ) (rows : List MainRow) → RiseAfter coding.Delta r [] (resource_ids rows) → AtMost last (resource_ids rows)
      → IdsAfter coding.Delta last r [] (map id_in (column_in (stored_main o r s rows) 1)) (resource_ids rows)
  resources_stored o r s [] rise few = tt
  resources_stored o r s (row ∷ rows) rise few =
      one_more last r row.resource_id _ (resource_ids rows) rise few (resources_stored (past_id o row.id) (past_id r row.resource_id) (past_id s row.scope_id) rows)

  pub scopes_stored : (o r s : ℕ) (rows : List MainRow) → AllByRecursion IsShaped rows → RiseAfter coding.Delta s [] (scope_ids rows) → AtMost last (scope_ids rows)
      → IdsAfter coding.Delta last s [] (map id_in (column_in (stored_main o r s rows) 4)) (scope_ids rows)
  scopes_stored o r s [] shaped rise few = tt
  scopes_stored o r s (row ∷ rows) shaped rise few =
      let ns : List (Option ℕ) = map id_in (column_in (stored_main (past_id o row.id) (past_id r row.resource_id) (past_id s row.scope_id) rows) 4) in
      subst (λ (cell : Cell). IdsAfter coding.Delta last s [] (id_in cell ∷ ns) (row.scope_id ∷ scope_ids rows)) (sym (scope_cell o r s row shaped.0))
      (one_more last s row.scope_id ns (scope_ids rows) rise few (scopes_stored (past_id o row.id) (past_id r row.resource_id) (past_id s row.scope_id) rows shaped.1))

-- ---- the rows

abbrev Fits : MainRow → List Cell → Type 0
Fits row cells = main_row row.id row.resource_id row.scope_id cells ≡ row

fits : (o r s : ℕ) (row : MainRow) → IsShaped row → Fits row (stored_row o r s row)
fits o r s row shaped = rw (shaped.0, shaped.1) refl

fitting : (o r s : ℕ) (rows : List MainRow) → AllByRecursion IsShaped rows → AllZip Fits rows (stored_main o r s rows)
fitting o r s [] shaped = tt
fitting o r s (row ∷ rows) shaped = (fits o r s row shaped.0, fitting (past_id o row.id) (past_id r row.resource_id) (past_id s row.scope_id) rows shaped.1)

sizes : (xs : List MainRow) (rows : List (List Cell)) → AllZip Fits xs rows → length xs ≡ length rows
sizes [] [] fit = refl
sizes [] (row ∷ rows) fit = absurd fit
sizes (x ∷ xs) [] fit = absurd fit
sizes (x ∷ xs) (row ∷ rows) fit = ap suc (sizes xs rows fit.1)

at_place : (xs : List MainRow) (rows : List (List Cell)) (k : ℕ) (d : MainRow) → AllZip Fits xs rows → k < length xs
    → get_or xs k d ≡ main_row (get_or (own_ids xs) k None) (get_or (resource_ids xs) k None) (get_or (scope_ids xs) k None) (get_or rows k [])
at_place [] rows k d fit within = absurd (omega arith)
at_place (x ∷ xs) [] k d fit within = absurd fit
at_place (x ∷ xs) (row ∷ rows) zero d fit within = sym fit.0
at_place (x ∷ xs) (row ∷ rows) (suc k) d fit within = at_place xs rows k d fit.1 (omega arith)

pub rows_are : (o r s : ℕ) (rows : List MainRow) → AllByRecursion IsShaped rows
    → rows ≡ main_rows (own_ids rows) (resource_ids rows) (scope_ids rows) (stored_main o r s rows)
unfolding main_rows
rows_are o r s rows shaped =
    let fit = fitting o r s rows shaped in
    let long = sizes rows (stored_main o r s rows) fit in
    fill_by_all _ rows (length (stored_main o r s rows)) (main_row None None None []) long
    (λ k within. at_place rows (stored_main o r s rows) k (main_row None None None []) fit (omega (arith, within, long)))
