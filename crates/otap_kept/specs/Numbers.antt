-- New numbers: ids that are kept are counted from 0.
use Rattle.std.specs.Prelude.{ℕ, suc, Bool, true, ◌&&◌, nat_le, if◌then◌else◌, List, [], ◌∷◌, ◌++◌, Option, None, Some}
use Rattle.std.specs.List.{list_any}
use Rattle.otap_groups.specs.Rows.{id_is}

-- the index of an id among ids, of which the first has the index n
abbrev pub place_from : ℕ → List (Option ℕ) → ℕ → Option ℕ
place_from n [] id = None
place_from n (other ∷ ids) id = if id_is other (Some id) then Some n else place_from (suc n) ids id

-- THE NEW NUMBER of an id: its index among the ids that are kept, in their new order. Null stays null
abbrev pub new_number : List (Option ℕ) → Option ℕ → Option ℕ
new_number ids None = None
new_number ids (Some id) = place_from 0 ids id

-- an id at the end of others, where it isn't among them and isn't null
abbrev pub with_id : List (Option ℕ) → Option ℕ → List (Option ℕ)
with_id ids None = ids
with_id ids (Some id) = if list_any (λ other. id_is other (Some id)) ids then ids else ids ++ Some id ∷ []

-- the ids that are known, and behind them the first of each other id
abbrev pub first_ids_after : List (Option ℕ) → List (Option ℕ) → List (Option ℕ)
first_ids_after known [] = known
first_ids_after known (id ∷ ids) = first_ids_after (with_id known id) ids

-- THE FIRST OF EACH ID, in the order in which they come
unfoldable pub first_ids : List (Option ℕ) → List (Option ℕ)
first_ids ids = first_ids_after [] ids

-- none of these numbers is below the one before it, and the first isn't below `before`; nulls are passed over
abbrev pub rise_after : ℕ → List (Option ℕ) → Bool
rise_after before [] = true
rise_after before (None ∷ ids) = rise_after before ids
rise_after before (Some id ∷ ids) = nat_le before id && rise_after id ids
