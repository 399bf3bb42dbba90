-- Tables of rows that are kept. Their ids are stored as the profile says.
use Rattle.std.specs.Prelude.{ℕ, ◌-◌, List, [], ◌∷◌, ◌++◌, Option, None, Some, map}
use Rattle.otap_cells.specs.declared.payload.Kind.{Kind}
use Rattle.otap_cells.specs.Cells.{Cell, null}
use Rattle.otap_cells.specs.Columns.{coding_at}
use Rattle.otap_cells.specs.Continuing.{again_of}
use Rattle.otap_cells.specs.Tables.{Table, profile_table}
use Rattle.otap_groups.specs.Flat.{PlacedIn}
use Rattle.otap_groups.specs.Rows.{ChildRow, MainRow}
use Rattle.otap_groups.specs.Stored.{id_cell, stored_parts}
use Rattle.otap_attrs.specs.Sorting.{coded_rows}
use Rattle.otap_kept.specs.Rows.{own_cells}

-- ---- main tables

-- what is stored for an id: its distance from the one before; null for null
abbrev pub distance : ℕ → Option ℕ → Cell
distance before None = null
distance before (Some id) = id_cell (id - before)

-- the id from which the next distance is counted: null is passed over
abbrev pub past_id : ℕ → Option ℕ → ℕ
past_id before None = before
past_id before (Some id) = id

-- what is stored for a row, where these are the ids before its own
abbrev pub stored_row : ℕ → ℕ → ℕ → MainRow → List Cell
stored_row own resource scope row =
    distance own row.id ∷ distance resource row.resource_id ∷ row.resource
    ++ (distance scope row.scope_id ∷ row.scope ++ (row.schema_url ∷ row.own))

abbrev pub stored_main : ℕ → ℕ → ℕ → List MainRow → List (List Cell)
stored_main own resource scope [] = []
stored_main own resource scope (row ∷ rows) =
    stored_row own resource scope row
    ∷ stored_main (past_id own row.id) (past_id resource row.resource_id) (past_id scope row.scope_id) rows

-- THE MAIN TABLE of rows that have their new numbers
unfoldable pub kept_main : Kind → List MainRow → Table
kept_main kind rows = profile_table kind (stored_main 0 0 0 rows)

-- ---- tables below

-- THE TABLE OF PARTS: their ids count from 0, and parents are stored as the kind says
unfoldable pub kept_parts : Kind → List (PlacedIn ChildRow) → Table
kept_parts kind parts = profile_table kind (stored_parts (coding_at kind 1) (again_of kind) own_cells 0 0 None parts)

-- a row of attributes with the new number of its parent in front
abbrev pub row_of_placed : PlacedIn ChildRow → List Cell
row_of_placed p = id_cell p.parent ∷ p.part.cells

-- THE TABLE OF ATTRIBUTES: sorted, and parents in runs
unfoldable pub kept_attributes : Kind → List (PlacedIn ChildRow) → Table
kept_attributes kind rows = profile_table kind (coded_rows (map row_of_placed rows))
