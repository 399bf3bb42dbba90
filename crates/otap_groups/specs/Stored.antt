-- Tables and their rows: what is stored for ids, and which rows a table has.
use Rattle.std.specs.Prelude.{◌≡◌, ℕ, ◌-◌, ◌≤◌, pos, Bool, List, [], ◌∷◌, ◌++◌, Option, None, Some, map, drop}
use Rattle.otlp_model.specs.declared.groups.ResourceGroup.{ResourceGroup}
use Rattle.otap_cells.specs.declared.payload.Kind.{Kind}
use Rattle.otap_cells.specs.declared.profile.Coding.{Coding}
use Rattle.otap_cells.specs.Cells.{Cell, number}
use Rattle.otap_cells.specs.Scalars.{text_cell}
use Rattle.otap_cells.specs.Columns.{coding_at}
use Rattle.otap_cells.specs.Ids.{base_of}
use Rattle.otap_cells.specs.Continuing.{again_of, goes_on_after}
use Rattle.otap_cells.specs.GivenIds.{HasIds}
use Rattle.otap_cells.specs.Tables.{Table, profile_table}
use Rattle.otap_cells.specs.Places.{attribute_parent, first_of_pair, first_of_part, main_id, part_id, part_parent, resource_id, scope_id}
use Rattle.otap_groups.specs.Rows.{MainRow, ChildRow, main_rows, child_rows}
use Rattle.otap_groups.specs.Flat.{FlatIn, PlacedIn, flat_items, placed, resource_cells, scope_cells}

-- ---- reading

-- the table has ids, and with them these main rows
pub record IsMainRows (t : Table) (rows : List MainRow) : Type 0 where
  pub ids : List (Option ℕ)
  pub resource_ids : List (Option ℕ)
  pub scope_ids : List (Option ℕ)
  pub own : HasIds t main_id ids
  pub resource : HasIds t resource_id resource_ids
  pub scope : HasIds t scope_id scope_ids
  pub are : rows ≡ main_rows ids resource_ids scope_ids t.rows

-- the same of a table whose first two columns are its own ids and its parents
pub record IsPartRows (t : Table) (rows : List ChildRow) : Type 0 where
  pub ids : List (Option ℕ)
  pub parents : List (Option ℕ)
  pub own : HasIds t part_id ids
  pub above : HasIds t part_parent parents
  pub are : rows ≡ child_rows ids parents (map (drop first_of_part) t.rows)

-- the same of a table whose first column is its parents, and which has no ids
pub record IsPairRows (t : Table) (rows : List ChildRow) : Type 0 where
  pub parents : List (Option ℕ)
  pub above : HasIds t attribute_parent parents
  pub are : rows ≡ child_rows [] parents (map (drop first_of_pair) t.rows)

-- ---- writing

abbrev pub id_cell : ℕ → Cell
id_cell n = number (pos n)

-- an item's row as it is stored: three distances, and the cells
abbrev pub stored_row : {I : Type 0} → (I → List Cell) → ℕ → ℕ → ℕ → FlatIn I → List Cell
stored_row cells_of step r s f =
    id_cell step ∷ id_cell (f.resource_id - r) ∷ resource_cells f.resource
    ++ (id_cell (f.scope_id - s) ∷ scope_cells f.scope ++ (text_cell f.scope.schema_url ∷ cells_of f.item))

-- the rows of items after a row of these ids; own ids rise by one, from 0 on
abbrev pub stored_rows : {I : Type 0} → (I → List Cell) → ℕ → ℕ → ℕ → List (FlatIn I) → List (List Cell)
stored_rows cells_of step r s [] = []
stored_rows cells_of step r s (f ∷ fs) = stored_row cells_of step r s f ∷ stored_rows cells_of 1 f.resource_id f.scope_id fs

-- THE MAIN TABLE of a request
unfoldable pub main_table : {I : Type 0} → Kind → (I → List Cell) → List (ResourceGroup I) → Table
main_table kind cells_of groups = profile_table kind (stored_rows cells_of 0 0 0 (flat_items groups))

-- a part's row as it is stored, after a row of this parent and these cells
abbrev pub stored_part : {C : Type 0} → Coding → (List Cell → List Cell → Bool) → (C → List Cell) → ℕ → ℕ → Option (List Cell) → PlacedIn C → List Cell
stored_part how test cells_of step parent before p =
    id_cell step ∷ id_cell (p.parent - base_of how (goes_on_after test before (cells_of p.part)) parent) ∷ cells_of p.part

abbrev pub stored_parts : {C : Type 0} → Coding → (List Cell → List Cell → Bool) → (C → List Cell) → ℕ → ℕ → Option (List Cell) → List (PlacedIn C) → List (List Cell)
stored_parts how test cells_of step parent before [] = []
stored_parts how test cells_of step parent before (p ∷ ps) =
    stored_part how test cells_of step parent before p ∷ stored_parts how test cells_of 1 p.parent (Some (cells_of p.part)) ps

-- THE TABLE of the parts of these parents, one list for each parent; parents are stored as the kind says
unfoldable pub part_table : {C : Type 0} → Kind → (C → List Cell) → List (List C) → Table
part_table kind cells_of lists = profile_table kind (stored_parts (coding_at kind part_parent) (again_of kind) cells_of 0 0 None (placed lists))

-- ids that don't fall from item to item, and parents that don't fall from part to part
abbrev pub Rising : {I : Type 0} → ℕ → ℕ → List (FlatIn I) → Type 0
Rising r s [] = Unit {0}
Rising r s (f ∷ fs) = (r ≤ f.resource_id) × (s ≤ f.scope_id) × Rising f.resource_id f.scope_id fs

abbrev pub RisingParts : {C : Type 0} → ℕ → List (PlacedIn C) → Type 0
RisingParts parent [] = Unit {0}
RisingParts parent (p ∷ ps) = (parent ≤ p.parent) × RisingParts p.parent ps
