-- The telemetry of the kept rows is the filter of that of all rows.
use Rattle.std.proofs.Common.{◌≡◌, ℕ, suc, Bool, List, [], ◌∷◌, Option, None, Some, map, refl, sym, ◌∙◌, ap, inl, inr}
use Rattle.std.specs.Prelude.{filter}
use Rattle.std.specs.List.{AllByRecursion}
use Rattle.std.proofs.lemmas.Bool.{cases_Bool}
use Rattle.otlp_model.specs.Telemetry.{ItemEntry, item_entries, item_entry}
use Rattle.otlp_model.specs.declared.value.Pair.{Pair}
use Rattle.otap_cells.specs.Cells.{Cell}
use Rattle.otap_groups.specs.Rows.{MainRow}
use Rattle.otap_groups.specs.Groups.{regrouped, resource_of, scope_of}
use Rattle.otap_kept.proofs.RowsTold.{entry_of_row}
use Rattle.otap_kept.specs.Numbers.{first_ids, new_number}
use Rattle.otap_kept.specs.Rows.{renewed, renewed_from, resource_ids, scope_ids}
use Rattle.otap_kept.proofs.RowsTold.{told_by_rows}
use Rattle.otap_kept.proofs.NewNumbers.{HasNumber, all_numbered}

pub filtered_told : {A B : Type 0} (test : B → Bool) (f : A → B) (xs : List A) → filter test (map f xs) ≡ map f (filter (λ x. test (f x)) xs)
filtered_told test f [] = refl
filtered_told test f (x ∷ xs) = elim (cases_Bool (test (f x))) [
  | inl t ↦ rw t (ap (λ ys. f x ∷ ys) (filtered_told test f xs))
  | inr n ↦ rw n (filtered_told test f xs)
]

-- pairs are found by new numbers as they were by former ids, and none without an id
abbrev pub FindsAgain : (Option ℕ → List Pair) → (Option ℕ → List Pair) → List (Option ℕ) → Type 0
FindsAgain f f' ids = (f' None ≡ f None) × ((p n : ℕ) → new_number ids (Some p) ≡ Some n → f' (Some n) ≡ f (Some p))

found_again : (f f' : Option ℕ → List Pair) (ids : List (Option ℕ)) → FindsAgain f f' ids → (id : Option ℕ) → HasNumber ids id → f' (new_number ids id) ≡ f id
found_again f f' ids again None has = again.0
found_again f f' ids again (Some p) has = let number = has p refl in ap f' number.1 ∙ again.1 p number.0 number.1

module _ {I : Type 0} (d d' e e' : Option ℕ → List Pair) (item item' : Option ℕ → List Cell → I) where
  -- the item of each new number is read as that of the former id
  abbrev pub RenewsItems : ℕ → List MainRow → Type 0
  RenewsItems n [] = Unit {0}
  RenewsItems n (row ∷ rows) = ((cells : List Cell) → item' (Some n) cells ≡ item row.id cells) × RenewsItems (suc n) rows

  module _ (resources scopes : List (Option ℕ)) where
    abbrev pub AgreeAt : MainRow → Type 0
    AgreeAt row = (d' (new_number resources row.resource_id) ≡ d row.resource_id) × (e' (new_number scopes row.scope_id) ≡ e row.scope_id)

    renewed_entries : (n : ℕ) (rows : List MainRow) → AllByRecursion AgreeAt rows → RenewsItems n rows
        → map (entry_of_row d' e' item') (renewed_from resources scopes n rows) ≡ map (entry_of_row d e item) rows
    renewed_entries n [] agree renews = refl
    renewed_entries n (row ∷ rows) agree renews =
        let ih = renewed_entries (suc n) rows agree.1 renews.1 in
        λ i. item_entry (resource_of row.resource (agree.0.0 i)) (scope_of row.scope row.schema_url (agree.0.1 i)) (renews.0 row.own i) ∷ ih i

  pub all_agree : (resources scopes : List (Option ℕ)) → FindsAgain d d' resources → FindsAgain e e' scopes → (rows : List MainRow)
      → AllByRecursion (HasNumber resources) (resource_ids rows) → AllByRecursion (HasNumber scopes) (scope_ids rows) → AllByRecursion (AgreeAt resources scopes) rows
  all_agree resources scopes ofr ofs [] r s = tt
  all_agree resources scopes ofr ofs (row ∷ rows) r s =
      ((found_again d d' resources ofr row.resource_id r.0, found_again e e' scopes ofs row.scope_id s.0), all_agree resources scopes ofr ofs rows r.1 s.1)

  -- THE LAW, where pairs and items are found by new numbers as they were by former ids
  pub kept_told : (test : ItemEntry I → Bool) (rows kept : List MainRow) → kept ≡ filter (λ row. test (entry_of_row d e item row)) rows
      → FindsAgain d d' (first_ids (resource_ids kept)) → FindsAgain e e' (first_ids (scope_ids kept)) → RenewsItems 0 kept
      → item_entries (regrouped d' e' item' (renewed kept)) ≡ filter test (item_entries (regrouped d e item rows))
  unfolding renewed
  kept_told test rows kept is ofr ofs renews =
      let resources = first_ids (resource_ids kept) in
      let scopes = first_ids (scope_ids kept) in
      told_by_rows d' e' item' (renewed_from resources scopes 0 kept)
      ∙ renewed_entries resources scopes 0 kept
      (all_agree resources scopes ofr ofs kept (all_numbered (resource_ids kept)) (all_numbered (scope_ids kept))) renews
      ∙ ap (map (entry_of_row d e item)) is
      ∙ sym (filtered_told test (entry_of_row d e item) rows)
      ∙ ap (filter test) (sym (told_by_rows d e item rows))
