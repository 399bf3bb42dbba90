-- Rows that are kept, with their new numbers.
use Rattle.std.specs.Prelude.{ℕ, suc, Bool, nat_lt, List, [], ◌∷◌, Option, None, Some, map}
use Rattle.otap_cells.specs.Cells.{Cell}
use Rattle.otap_groups.specs.Flat.{PlacedIn, placed_at}
use Rattle.otap_groups.specs.Rows.{ChildRow, MainRow}
use Rattle.otap_attrs.specs.Sorting.{sorted_by}
use Rattle.otap_kept.specs.Numbers.{first_ids, new_number}

-- ---- main rows

-- the ids of main rows: their own, those of their resources, and those of their scopes
abbrev pub own_ids : List MainRow → List (Option ℕ)
own_ids rows = map (λ row. row.id) rows

abbrev pub resource_ids : List MainRow → List (Option ℕ)
resource_ids rows = map (λ row. row.resource_id) rows

abbrev pub scope_ids : List MainRow → List (Option ℕ)
scope_ids rows = map (λ row. row.scope_id) rows

-- a row with its new ids: n is its own, and those of its resource and its scope are their new numbers
abbrev pub renew : List (Option ℕ) → List (Option ℕ) → ℕ → MainRow → MainRow
renew resources scopes n row = record row {
  id = Some n;
  resource_id = new_number resources row.resource_id;
  scope_id = new_number scopes row.scope_id;
}

abbrev pub renewed_from : List (Option ℕ) → List (Option ℕ) → ℕ → List MainRow → List MainRow
renewed_from resources scopes n [] = []
renewed_from resources scopes n (row ∷ rows) = renew resources scopes n row ∷ renewed_from resources scopes (suc n) rows

-- THE MAIN ROWS that are kept with their new numbers: each row is numbered, and each resource and scope at its first row
unfoldable pub renewed : List MainRow → List MainRow
renewed rows = renewed_from (first_ids (resource_ids rows)) (first_ids (scope_ids rows)) 0 rows

-- ---- rows below, where `ids` are the former ids of the parents that are kept, in their new order

-- a row in front of others, where its parent has a new number
abbrev pub placed_if : Option ℕ → ChildRow → List (PlacedIn ChildRow) → List (PlacedIn ChildRow)
placed_if None row rows = rows
placed_if (Some parent) row rows = placed_at parent row ∷ rows

-- THE ROWS BELOW parents that are kept, in their order, each beside the new number of its parent
abbrev pub under : List (Option ℕ) → List ChildRow → List (PlacedIn ChildRow)
under ids [] = []
under ids (row ∷ rows) = placed_if (new_number ids row.parent) row (under ids rows)

-- one row has a lesser parent than another
abbrev pub has_lesser_parent : PlacedIn ChildRow → PlacedIn ChildRow → Bool
has_lesser_parent a b = nat_lt a.parent b.parent

-- THE PARTS BELOW parents that are kept: sorted by the new number of the parent, those of one parent in their order
unfoldable pub parts_under : List (Option ℕ) → List ChildRow → List (PlacedIn ChildRow)
parts_under ids rows = sorted_by has_lesser_parent (under ids rows)

-- the former ids of parts that are kept, in their new order
abbrev pub former_ids : List (PlacedIn ChildRow) → List (Option ℕ)
former_ids parts = map (λ p. p.part.id) parts

-- the cells of a row beside its ids
abbrev pub own_cells : ChildRow → List Cell
own_cells row = row.cells
