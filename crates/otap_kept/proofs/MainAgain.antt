-- The main rows that are kept, with their new numbers, by their places.
use Rattle.std.proofs.Common.{◌≡◌, ℕ, zero, suc, ◌+◌, ◌<◌, List, [], ◌∷◌, length, get_or, map, Option, Some, refl, sym, ap, ◌∙◌, arith}
use Rattle.std.specs.Prelude.{◌&&◌, All}
use Rattle.std.specs.List.{slice_index_or}
use Rattle.otap_cells.specs.declared.payload.Kind.{Kind}
use Rattle.otap_cells.specs.GivenIds.{ids_in}
use Rattle.otap_cells.specs.Tables.{Table, profile_table}
use Rattle.otap_groups.specs.Rows.{MainRow, id_at, main_row}
use Rattle.otap_kept.specs.Holding.{main_row_in}
use Rattle.otap_kept.specs.Kept.{rise}
use Rattle.otap_kept.specs.Numbering.{numbers_rise}
use Rattle.otap_kept.specs.Numbers.{first_ids, new_number, rise_after}
use Rattle.otap_kept.specs.Rows.{own_ids, renewed, renewed_from, resource_ids, scope_ids}
use Rattle.otap_kept.specs.Tables.{kept_main}
use Rattle.otap_kept.specs.Writing.{mains_from}

-- the new numbers of the ids at places
number_at : (kept ids : List (Option ℕ)) (places : List ℕ) (k : ℕ) → k < length places
    → id_at (map (new_number kept) (map (id_at ids) places)) k ≡ new_number kept (id_at ids (get_or places k 0))
number_at kept ids [] k within = absurd (omega arith)
number_at kept ids (place ∷ places) zero within = refl
number_at kept ids (place ∷ places) (suc k) within = number_at kept ids places k (omega (arith, within))

module _ (t : Table) where
  -- the ids of the rows at places
  pub own_at : (places : List ℕ) → own_ids (map (main_row_in t) places) ≡ map (id_at (ids_in t 0)) places
  own_at [] = refl
  own_at (place ∷ places) = ap (λ (more : List (Option ℕ)). id_at (ids_in t 0) place ∷ more) (own_at places)

  pub resources_at : (places : List ℕ) → resource_ids (map (main_row_in t) places) ≡ map (id_at (ids_in t 1)) places
  resources_at [] = refl
  resources_at (place ∷ places) = ap (λ (more : List (Option ℕ)). id_at (ids_in t 1) place ∷ more) (resources_at places)

  pub scopes_at : (places : List ℕ) → scope_ids (map (main_row_in t) places) ≡ map (id_at (ids_in t 4)) places
  scopes_at [] = refl
  scopes_at (place ∷ places) = ap (λ (more : List (Option ℕ)). id_at (ids_in t 4) place ∷ more) (scopes_at places)

  mains_again : (resources scopes keeps_r keeps_s : List (Option ℕ)) (n : ℕ) (places : List ℕ)
      → ((k m : ℕ) → m ≡ n + k → k < length places → id_at resources m ≡ new_number keeps_r (id_at (ids_in t 1) (get_or places k 0)))
      → ((k m : ℕ) → m ≡ n + k → k < length places → id_at scopes m ≡ new_number keeps_s (id_at (ids_in t 4) (get_or places k 0)))
      → mains_from resources scopes t.rows n places ≡ renewed_from keeps_r keeps_s n (map (main_row_in t) places)
  mains_again resources scopes keeps_r keeps_s n [] r s = refl
  mains_again resources scopes keeps_r keeps_s n (place ∷ places) r s =
      let one : id_at resources n ≡ new_number keeps_r (id_at (ids_in t 1) place) = r 0 n (omega arith) (omega arith) in
      let two : id_at scopes n ≡ new_number keeps_s (id_at (ids_in t 4) place) = s 0 n (omega arith) (omega arith) in
      let more = mains_again resources scopes keeps_r keeps_s (suc n) places (λ k m is within. r (suc k) m (omega (arith, is)) (omega (arith, within)))
      (λ k m is within. s (suc k) m (omega (arith, is)) (omega (arith, within))) in
      λ i. main_row (Some n) (one i) (two i) (slice_index_or t.rows place []) ∷ more i

  -- THE ROWS that are kept are these
  pub mains_are : (resources scopes : List (Option ℕ)) (places : List ℕ)
      → resources ≡ map (new_number (first_ids (map (id_at (ids_in t 1)) places))) (map (id_at (ids_in t 1)) places)
      → scopes ≡ map (new_number (first_ids (map (id_at (ids_in t 4)) places))) (map (id_at (ids_in t 4)) places)
      → mains_from resources scopes t.rows 0 places ≡ renewed (map (main_row_in t) places)
  unfolding renewed
  mains_are resources scopes places r s =
      mains_again resources scopes (first_ids (map (id_at (ids_in t 1)) places)) (first_ids (map (id_at (ids_in t 4)) places)) 0 places
      (λ k m is within. ap (λ ids. id_at ids m) r ∙ ap (id_at (map (new_number (first_ids (map (id_at (ids_in t 1)) places))) (map (id_at (ids_in t 1)) places))) (let e : m ≡ k = omega (arith, is) in e)
      ∙ number_at (first_ids (map (id_at (ids_in t 1)) places)) (ids_in t 1) places k within)
      (λ k m is within. ap (λ ids. id_at ids m) s ∙ ap (id_at (map (new_number (first_ids (map (id_at (ids_in t 4)) places))) (map (id_at (ids_in t 4)) places))) (let e : m ≡ k = omega (arith, is) in e)
      ∙ number_at (first_ids (map (id_at (ids_in t 4)) places)) (ids_in t 4) places k within)
      ∙ (λ i. renewed_from (first_ids (sym (resources_at places) i)) (first_ids (sym (scopes_at places) i)) 0 (map (main_row_in t) places))

-- in a table without rows there are none
pub no_mains : (main : Kind) (places : List ℕ) → All (λ place. place < length (profile_table main []).rows) places
    → profile_table main [] ≡ kept_main main (renewed (map (main_row_in (profile_table main [])) places))
unfolding kept_main renewed
no_mains main [] within = refl
no_mains main (place ∷ places) within = absurd (omega (arith, within 0 place (omega arith)))

-- ---- whether new numbers rise

renewed_resources : (r s : List (Option ℕ)) (n : ℕ) (rows : List MainRow) → resource_ids (renewed_from r s n rows) ≡ map (new_number r) (resource_ids rows)
renewed_resources r s n [] = refl
renewed_resources r s n (row ∷ rows) = ap (λ (more : List (Option ℕ)). new_number r row.resource_id ∷ more) (renewed_resources r s (suc n) rows)

renewed_scopes : (r s : List (Option ℕ)) (n : ℕ) (rows : List MainRow) → scope_ids (renewed_from r s n rows) ≡ map (new_number s) (scope_ids rows)
renewed_scopes r s n [] = refl
renewed_scopes r s n (row ∷ rows) = ap (λ (more : List (Option ℕ)). new_number s row.scope_id ∷ more) (renewed_scopes r s (suc n) rows)

pub rise_is : (rows : List MainRow) → rise (renewed rows) ≡ (numbers_rise (resource_ids rows) && numbers_rise (scope_ids rows))
unfolding renewed
rise_is rows =
    let r : List (Option ℕ) = first_ids (resource_ids rows) in
    let s : List (Option ℕ) = first_ids (scope_ids rows) in
    λ i. rise_after 0 (renewed_resources r s 0 rows i) && rise_after 0 (renewed_scopes r s 0 rows i)
