-- Words of private contracts: ids with their places, by which new numbers are found.
use Rattle.std.specs.Prelude.{◌≡◌, ℕ, Bool, true, nat_lt, if◌then◌else◌, List, [], ◌∷◌, Option, None, Some, map}
use Rattle.std.specs.List.Sorted.{IsNonDecreasingBy}
use Rattle.otap_groups.specs.declared.entry.ChildEntry.{ChildEntry}
use Rattle.otap_groups.specs.Found.{of_parent}
use Rattle.otap_groups.specs.Inside.{entries_from}
use Rattle.otap_groups.specs.Rows.{id_is}
use Rattle.otap_kept.specs.Numbers.{first_ids, new_number, rise_after}

-- the ids with their places: by id, the places of one id in their order
pub record IsNumbering (ids : List (Option ℕ)) (entries : List ChildEntry) : Type 0 where
  pub rising : IsNonDecreasingBy (λ (e : ChildEntry). e.parent) entries
  pub finds : (id : ℕ) → of_parent id entries ≡ of_parent id (entries_from 0 ids)

-- the place of the first of some entries
abbrev pub first_place : List ChildEntry → Option ℕ
first_place [] = None
first_place (entry ∷ entries) = Some entry.place

-- one entry has a lesser parent than another
abbrev pub entry_has_lesser_parent : ChildEntry → ChildEntry → Bool
entry_has_lesser_parent a b = nat_lt a.parent b.parent

-- ids without those that are null or equal to the one before; the last id that was taken is known
abbrev pub runs_after : Option ℕ → List (Option ℕ) → List (Option ℕ)
runs_after last [] = []
runs_after last (None ∷ ids) = runs_after last ids
runs_after last (Some id ∷ ids) = if id_is last (Some id) then runs_after last ids else Some id ∷ runs_after (Some id) ids

-- the new numbers of ids don't fall
abbrev pub numbers_rise : List (Option ℕ) → Bool
numbers_rise ids = rise_after 0 (map (new_number (first_ids ids)) ids)

-- the first of each id, where the new numbers don't fall
abbrev pub IsFirstIds : List (Option ℕ) → List (Option ℕ) → Type 0
IsFirstIds ids found = (found ≡ first_ids ids) × (numbers_rise ids ≡ true)
