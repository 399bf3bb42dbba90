-- What an index finds are the children beside their parents.
use Rattle.std.proofs.Common.{◌≡◌, ℕ, List, [], ◌∷◌, Option, None, Some, inl, inr, refl, ap}
use Rattle.std.specs.Prelude.{◌==◌}
use Rattle.std.proofs.lemmas.Bool.{cases_Bool}
use Rattle.otap_cells.specs.Cells.{Cell}
use Rattle.otap_groups.specs.declared.entry.ChildEntry.{ChildEntry}
use Rattle.otap_groups.specs.Beside.{beside, with_parents}
use Rattle.otap_groups.specs.Found.{child_at, found}

pub beside_found : {C : Type 0} (item : Option ℕ → List Cell → C) (ids : List (Option ℕ)) (cells : List (List Cell)) (entries : List ChildEntry)
    (parent : Option ℕ) → beside parent (with_parents item ids cells entries) ≡ found item ids cells entries parent
beside_found item ids cells entries None = refl
beside_found item ids cells [] (Some parent) = refl
beside_found item ids cells (e ∷ entries) (Some parent) = elim (cases_Bool (e.parent == parent)) [
  | inl hit ↦ rw hit (ap (λ xs. child_at item ids cells e.place ∷ xs) (beside_found item ids cells entries (Some parent)))
  | inr miss ↦ rw miss (beside_found item ids cells entries (Some parent))
]

-- as a value is seen
pub beside_seen : {C : Type 0} (item : Option ℕ → List Cell → C) (ids : List (Option ℕ)) (cells : List (List Cell)) (entries : List ChildEntry)
    (seen : List (ℕ × C)) (parent : Option ℕ) → with_parents item ids cells entries ≡ seen → beside parent seen ≡ found item ids cells entries parent
beside_seen item ids cells entries seen parent is = rw (← is) (beside_found item ids cells entries parent)
