-- The new number of an id is its first place.
use Rattle.std.proofs.Common.{◌≡◌, ℕ, suc, List, [], ◌∷◌, Option, None, Some, refl, ◌∙◌, ap, inl, inr}
use Rattle.std.specs.Prelude.{◌==◌}
use Rattle.std.proofs.lemmas.Bool.{cases_Bool}
use Rattle.otap_groups.specs.declared.entry.ChildEntry.{ChildEntry}
use Rattle.otap_groups.specs.Found.{of_parent}
use Rattle.otap_groups.specs.Inside.{entries_from}
use Rattle.otap_kept.specs.Numbering.{IsNumbering, first_place}
use Rattle.otap_kept.specs.Numbers.{new_number, place_from}

first_from : (n : ℕ) (ids : List (Option ℕ)) (id : ℕ) → first_place (of_parent id (entries_from n ids)) ≡ place_from n ids id
first_from n [] id = refl
first_from n (None ∷ ids) id = first_from (suc n) ids id
first_from n (Some other ∷ ids) id = elim (cases_Bool (other == id)) [
  | inl hit ↦ rw hit refl
  | inr miss ↦ rw miss (first_from (suc n) ids id)
]

pub number_found : (ids : List (Option ℕ)) (entries : List ChildEntry) (id : ℕ) → IsNumbering ids entries → first_place (of_parent id entries) ≡ new_number ids (Some id)
number_found ids entries id is = ap first_place (is.finds id) ∙ first_from 0 ids id
