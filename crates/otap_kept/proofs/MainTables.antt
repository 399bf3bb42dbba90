-- The main table of kept rows has them, with their new numbers.
use Rattle.std.proofs.Common.{◌≡◌, ℕ, suc, ◌+◌, ◌≤◌, ◌<◌, ◌^◌, Bool, true, List, [], ◌∷◌, Option, None, Some, length, map, refl, sym, ◌∙◌, inl, inr, arith, length-append}
use Rattle.std.specs.Prelude.{filter, nat_le}
use Rattle.std.specs.List.{AllByRecursion, range_with_len}
use Rattle.std.proofs.lemmas.Bool.{and_parts, cases_Bool, cases_lt}
use Rattle.std.proofs.lemmas.Bool.Decides.{nat_tests}
use Rattle.std.proofs.lemmas.List.{get_or_past, length-map}
use Rattle.otap_cells.specs.declared.payload.Kind.{Kind}
use Rattle.otap_cells.specs.declared.profile.Coding.TheVariants as coding
use Rattle.otap_cells.specs.Cells.{Cell}
use Rattle.otap_cells.specs.Columns.{coding_at, width_of}
use Rattle.otap_cells.specs.ColumnIds.{IdsOf, id_in}
use Rattle.otap_cells.specs.GivenIds.{HasIds}
use Rattle.otap_cells.specs.Ids.{AtMost, IdsAfter, RiseAfter}
use Rattle.otap_cells.specs.Tables.{Table, column_in, profile_table}
use Rattle.otap_cells.proofs.WithoutRuns.{delta_too}
use Rattle.otap_groups.specs.Kinds.{IsMain}
use Rattle.otap_groups.specs.Rows.{MainRow, main_row_at, main_rows}
use Rattle.otap_groups.proofs.StoredRows.{coding_is, greatest_is}
use Rattle.otap_checks.specs.Reading.{main_rows_in}
use Rattle.otap_attrs.proofs.TablePairs.{ids_are}
use Rattle.otap_kept.specs.Kept.{rise}
use Rattle.otap_kept.specs.Numbers.{first_ids, first_ids_after, new_number, rise_after, with_id}
use Rattle.otap_kept.specs.Rows.{own_ids, placed_if, renewed, renewed_from, resource_ids, scope_ids, under}
use Rattle.otap_kept.specs.Tables.{kept_main, stored_main}
use Rattle.otap_groups.specs.Flat.{PlacedIn}
use Rattle.otap_groups.specs.Rows.{ChildRow}
use Rattle.otap_kept.proofs.AttributeTables.{AreLow}
use Rattle.otap_kept.proofs.MainRows.{IsShaped, own_stored, resources_stored, rows_are, scopes_stored}
use Rattle.otap_kept.proofs.NewNumbers.{found_at, is_among}

-- ---- numbers are few

pub number_low : (ids : List (Option ℕ)) (id k : ℕ) → new_number ids (Some id) ≡ Some k → k < length ids
number_low ids id k e =
    let x = found_at 0 ids id k e in
    elim (cases_lt x.j (length ids)) [
      | inl low ↦ omega (arith, low, x.is)
      | inr high ↦ absurd (let s : None ≡ Some id = sym (get_or_past ids x.j None high) ∙ x.at in cc s)
    ]

few_with : (known : List (Option ℕ)) (id : Option ℕ) → length (with_id known id) ≤ suc (length known)
few_with known None = omega arith
few_with known (Some id) = elim (cases_Bool (is_among known id)) [
  | inl t ↦ rw t (omega arith)
  | inr f ↦ rw f (omega (arith, length-append known (Some id ∷ [])))
]

few_after : (known ids : List (Option ℕ)) → length (first_ids_after known ids) ≤ length known + length ids
few_after known [] = omega arith
few_after known (id ∷ ids) = omega (arith, few_after (with_id known id) ids, few_with known id)

pub few_first : (ids : List (Option ℕ)) → length (first_ids ids) ≤ length ids
unfolding first_ids
few_first ids = omega (arith, few_after [] ids)

low_more : (n : ℕ) (row : ChildRow) (rest : List (PlacedIn ChildRow)) (o : Option ℕ) → ((k : ℕ) → o ≡ Some k → k ≤ 4294967295) → AreLow rest → AreLow (placed_if o row rest)
low_more n row rest None low all = all
low_more n row rest (Some k) low all = (low k refl, all)

pub under_low : (ids : List (Option ℕ)) → length ids ≤ 2 ^ 32 → (rows : List ChildRow) → AreLow (under ids rows)
under_low ids few [] = tt
under_low ids few (row ∷ rows) = low_more 0 row (under ids rows) (new_number ids row.parent) (low row.parent) (under_low ids few rows) where
  low : (parent : Option ℕ) (k : ℕ) → new_number ids parent ≡ Some k → k ≤ 4294967295
  low None k e = absurd (let s : None ≡ Some k = e in cc s)
  low (Some p) k e = omega (arith, number_low ids p k e, few)

-- ---- renewed rows

at_most_more : (last : ℕ) (id : Option ℕ) (ids : List (Option ℕ)) → ((k : ℕ) → id ≡ Some k → k ≤ last) → AtMost last ids → AtMost last (id ∷ ids)
at_most_more last None ids low few = few
at_most_more last (Some k) ids low few = (low k refl, few)

pub numbers_low : (ids : List (Option ℕ)) → length ids ≤ 2 ^ 32 → (id : Option ℕ) (k : ℕ) → new_number ids id ≡ Some k → k ≤ 4294967295
numbers_low ids few None k e = absurd (let s : None ≡ Some k = e in cc s)
numbers_low ids few (Some p) k e = omega (arith, number_low ids p k e, few)

module _ (resources scopes : List (Option ℕ)) where
  own_rise : (before n : ℕ) (rows : List MainRow) → before ≤ n → RiseAfter coding.Delta before [] (own_ids (renewed_from resources scopes n rows))
  own_rise before n [] low = tt
  own_rise before n (row ∷ rows) low = (low, own_rise n (suc n) rows (omega arith))

  pub own_few : (n : ℕ) (rows : List MainRow) → n + length rows ≤ 2 ^ 32 → AtMost 4294967295 (own_ids (renewed_from resources scopes n rows))
  own_few n [] few = tt
  own_few n (row ∷ rows) few = (omega arith, own_few (suc n) rows (omega arith))

  pub resources_few : length resources ≤ 2 ^ 32 → (n : ℕ) (rows : List MainRow) → AtMost 4294967295 (resource_ids (renewed_from resources scopes n rows))
  resources_few few n [] = tt
  resources_few few n (row ∷ rows) =
      at_most_more 4294967295 (new_number resources row.resource_id) _ (numbers_low resources few row.resource_id) (resources_few few (suc n) rows)

  pub scopes_few : length scopes ≤ 2 ^ 32 → (n : ℕ) (rows : List MainRow) → AtMost 4294967295 (scope_ids (renewed_from resources scopes n rows))
  scopes_few few n [] = tt
  scopes_few few n (row ∷ rows) =
      at_most_more 4294967295 (new_number scopes row.scope_id) _ (numbers_low scopes few row.scope_id) (scopes_few few (suc n) rows)

  pub shaped_renewed : (n : ℕ) (rows : List MainRow) → AllByRecursion IsShaped rows → AllByRecursion IsShaped (renewed_from resources scopes n rows)
  shaped_renewed n [] shaped = tt
  shaped_renewed n (row ∷ rows) shaped = (shaped.0, shaped_renewed (suc n) rows shaped.1)

shaped_at : (ids resource_ids scope_ids : List (Option ℕ)) (rows : List (List Cell)) (places : List ℕ) → AllByRecursion IsShaped (map (main_row_at ids resource_ids scope_ids rows) places)
shaped_at ids resource_ids scope_ids rows [] = tt
shaped_at ids resource_ids scope_ids rows (place ∷ places) = ((refl, refl), shaped_at ids resource_ids scope_ids rows places)

pub shaped_rows : (ids resource_ids scope_ids : List (Option ℕ)) (rows : List (List Cell)) → AllByRecursion IsShaped (main_rows ids resource_ids scope_ids rows)
unfolding main_rows
shaped_rows ids resource_ids scope_ids rows = shaped_at ids resource_ids scope_ids rows (range_with_len 0 (length rows))

pub shaped_filter : (test : MainRow → Bool) (rows : List MainRow) → AllByRecursion IsShaped rows → AllByRecursion IsShaped (filter test rows)
shaped_filter test [] shaped = tt
shaped_filter test (row ∷ rows) shaped = elim (cases_Bool (test row)) [
  | inl t ↦ rw t (shaped.0, shaped_filter test rows shaped.1)
  | inr f ↦ rw f (shaped_filter test rows shaped.1)
]

-- ---- the table

ids_of_column : (kind : Kind) (rows : List (List Cell)) (column : ℕ) (continues : List Bool) (ids : List (Option ℕ)) → column < width_of kind → coding_at kind column ≡ coding.Delta
    → IdsAfter coding.Delta 4294967295 0 [] (map id_in (column_in rows column)) ids → IdsOf (profile_table kind rows) column continues ids
ids_of_column kind rows column continues ids within is stands =
    rw (coding_is kind rows column within ∙ is, greatest_is kind rows column within) (delta_too _ 0 [] _ _ _ stands)

-- the ids that the table of rows has, where they rise and are few
pub record HasMainIds (kind : Kind) (rows : List MainRow) : Type 0 where
  pub own : HasIds (kept_main kind rows) 0 (own_ids rows)
  pub resource : HasIds (kept_main kind rows) 1 (resource_ids rows)
  pub scope : HasIds (kept_main kind rows) 4 (scope_ids rows)

main_ids_of : (kind : Kind) (rows : List MainRow) → IsMain kind → AllByRecursion IsShaped rows
    → RiseAfter coding.Delta 0 [] (own_ids rows) → RiseAfter coding.Delta 0 [] (resource_ids rows) → RiseAfter coding.Delta 0 [] (scope_ids rows)
    → AtMost 4294967295 (own_ids rows) → AtMost 4294967295 (resource_ids rows) → AtMost 4294967295 (scope_ids rows)
    → HasMainIds kind rows
unfolding kept_main
main_ids_of kind rows main shaped own resource scope few_own few_resource few_scope =
    let wide = main.wide in
    let cells : List (List Cell) = stored_main 0 0 0 rows in record {
      own = ids_of_column kind cells 0 _ _ (omega arith) main.ids_rise (own_stored 4294967295 0 0 0 rows own few_own);
      resource = ids_of_column kind cells 1 _ _ (omega arith) main.resource_ids_rise (resources_stored 4294967295 0 0 0 rows resource few_resource);
      scope = ids_of_column kind cells 4 _ _ (omega arith) main.scope_ids_rise (scopes_stored 4294967295 0 0 0 rows shaped scope few_scope);
    }

rows_again : (kind : Kind) (rows : List MainRow) → AllByRecursion IsShaped rows → HasMainIds kind rows → main_rows_in (kept_main kind rows) ≡ rows
unfolding kept_main
rows_again kind rows shaped ids =
    let cells : List (List Cell) = stored_main 0 0 0 rows in
    let t : Table = profile_table kind cells in
    sym (rows_are 0 0 0 rows shaped
    ∙ (λ i. main_rows (ids_are t 0 (own_ids rows) ids.own i) (ids_are t 1 (resource_ids rows) ids.resource i) (ids_are t 4 (scope_ids rows) ids.scope i) cells))

-- numbers that don't fall have distances
rises : (before : ℕ) (ids : List (Option ℕ)) → rise_after before ids ≡ true → RiseAfter coding.Delta before [] ids
rises before [] t = tt
rises before (None ∷ ids) t = (refl, rises before ids t)
rises before (Some id ∷ ids) t =
    let both = and_parts (nat_le before id) (rise_after id ids) t in
    let low : before ≤ id = grind (arith, nat_tests, both.0) in
    (low, rises id ids both.1)

module _ (kind : Kind) (rows : List MainRow) (main : IsMain kind) (shaped : AllByRecursion IsShaped rows) (few : length rows ≤ 2 ^ 32) (ordered : rise (renewed rows) ≡ true) where
  pub kept_main_ids : HasMainIds kind (renewed rows)
  unfolding renewed
  kept_main_ids =
      let resources = first_ids (resource_ids rows) in
      let scopes = first_ids (scope_ids rows) in
      let few_r : length resources ≤ 2 ^ 32 = omega (arith, few_first (resource_ids rows), length-map rows (λ (row : MainRow). row.resource_id), few) in
      let few_s : length scopes ≤ 2 ^ 32 = omega (arith, few_first (scope_ids rows), length-map rows (λ (row : MainRow). row.scope_id), few) in
      let both = and_parts (rise_after 0 (resource_ids (renewed_from resources scopes 0 rows))) (rise_after 0 (scope_ids (renewed_from resources scopes 0 rows))) ordered in
      main_ids_of kind (renewed_from resources scopes 0 rows) main (shaped_renewed resources scopes 0 rows shaped)
      (own_rise resources scopes 0 0 rows (omega arith)) (rises 0 _ both.0) (rises 0 _ both.1)
      (own_few resources scopes 0 rows (omega (arith, few))) (resources_few resources scopes few_r 0 rows) (scopes_few resources scopes few_s 0 rows)

  renewed_shaped : AllByRecursion IsShaped (renewed rows)
  unfolding renewed
  renewed_shaped = shaped_renewed (first_ids (resource_ids rows)) (first_ids (scope_ids rows)) 0 rows shaped

  -- THE MAIN TABLE THAT IS KEPT has the kept rows with their new numbers, where these don't fall
  pub kept_main_again : main_rows_in (kept_main kind (renewed rows)) ≡ renewed rows
  kept_main_again = rows_again kind (renewed rows) renewed_shaped kept_main_ids
