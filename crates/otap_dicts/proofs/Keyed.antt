-- The keys of a set, by what they are seen as.
use Rattle.std.proofs.Common.{◌≡◌, ℕ, ◌+◌, Bool, true, false, ◌||◌, if◌then◌else◌, List, [], ◌∷◌, ◌++◌, map, position, Some, refl, sym, ap, ◌∙◌}
use Rattle.std.specs.Prelude.{bytes_eq}
use Rattle.std.specs.List.{list_any, position_from}
use Rattle.std.proofs.lemmas.Iterator.Adapters.{position_from-zero}
use Rattle.std.proofs.lemmas.List.{map-append}
use Rattle.indexmap.specs.IndexSet.{insert_key}
use Rattle.otap_dicts.specs.declared.form.Form.{Form}
use Rattle.otap_dicts.specs.Ladders.{LadderIn, is_dictionary, in_form}

module _ {X : Type 0} (seen : X → List ℕ) where
  pub any-map : (value : List ℕ) (keys : List X) → list_any (λ key. bytes_eq value (seen key)) keys ≡ list_any (bytes_eq value) (map seen keys)
  any-map value [] = refl
  any-map value (key ∷ keys) = ap (λ rest. bytes_eq value (seen key) || rest) (any-map value keys)

  place-map : (value : List ℕ) (place : ℕ) (keys : List X) → position_from (λ key. bytes_eq value (seen key)) place keys ≡ position_from (bytes_eq value) place (map seen keys)
  place-map value place [] = refl
  place-map value place (key ∷ keys) = ap (λ rest. if bytes_eq value (seen key) then Some place else rest) (place-map value (place + 1) keys)

  pub position-map : (value : List ℕ) (keys : List X) → position (λ key. bytes_eq value (seen key)) keys ≡ position (bytes_eq value) (map seen keys)
  position-map value keys = position_from-zero (λ key. bytes_eq value (seen key)) keys ∙ place-map value 0 keys ∙ sym (position_from-zero (bytes_eq value) (map seen keys))

  pub inserted : (keys new : List X) (key : X) (value : List ℕ) → seen key ≡ value → list_any (bytes_eq value) (map seen keys) ≡ false
      → new ≡ insert_key (λ x y. bytes_eq (seen x) (seen y)) keys key → map seen new ≡ map seen keys ++ value ∷ []
  inserted keys new key value is none made =
      let absent : list_any (λ k. bytes_eq (seen key) (seen k)) keys ≡ false = any-map (seen key) keys ∙ ap (λ v. list_any (bytes_eq v) (map seen keys)) is ∙ none in
      ap (map seen) (made ∙ ap (λ (b : Bool). if b then keys else keys ++ key ∷ []) absent) ∙ map-append seen keys (key ∷ []) ∙ ap (λ v. map seen keys ++ v ∷ []) is

-- one more value in a ladder that is in a dictionary form
pub in-form : (ladder : LadderIn) (form : Form) (value : List ℕ) (values : List (List ℕ)) → is_dictionary form ≡ true → values ≡ ladder.values ++ value ∷ []
    → record { dictionary = ladder.dictionary; form = form; values = values } ≡ in_form ladder form value
in-form ladder form value values dict is = rw (dict, is) refl
