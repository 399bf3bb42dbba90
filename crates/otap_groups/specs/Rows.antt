-- The rows of a batch, with their ids as they are.
use Rattle.std.specs.Prelude.{ℕ, Bool, true, false, ◌==◌, ◌&&◌, bytes_eq, List, [], ◌∷◌, Option, None, Some, codes, length, map, drop}
use Rattle.std.specs.List.{slice_index_or, range_with_len}
use Rattle.std.specs.Ordering.{int_eq}
use Rattle.lists.specs.Flags.{same_flag}
use Rattle.otap_cells.specs.ByName.{cell_of}
use Rattle.otap_cells.specs.Cells.{Cell, null, number, bits, flag, bytes}
use Rattle.otap_cells.specs.Columns.{common}
use Rattle.otap_cells.specs.Places.{first_of_item}

-- a row of a main table; `own` are the cells of its item
pub record MainRow : Type 0 where
  pub id : Option ℕ
  pub resource_id : Option ℕ
  pub resource : List Cell
  pub scope_id : Option ℕ
  pub scope : List Cell
  pub schema_url : Cell
  pub own : List Cell

-- a row of another table; a row of attributes has no id
pub record ChildRow : Type 0 where
  pub id : Option ℕ
  pub parent : Option ℕ
  pub cells : List Cell

-- ---- the rows of a table's cells

-- the row of a main table that has these ids and cells
abbrev pub main_row : Option ℕ → Option ℕ → Option ℕ → List Cell → MainRow
main_row id resource_id scope_id row = record {
  id = id;
  resource_id = resource_id;
  resource =
      cell_of common (codes "resource.schema_url") row
      ∷ cell_of common (codes "resource.dropped_attributes_count") row ∷ [];
  scope_id = scope_id;
  scope =
      cell_of common (codes "scope.name") row
      ∷ cell_of common (codes "scope.version") row
      ∷ cell_of common (codes "scope.dropped_attributes_count") row ∷ [];
  schema_url = cell_of common (codes "schema_url") row;
  own = drop first_of_item row;
}

-- an id of a list, none past its end
abbrev pub id_at : List (Option ℕ) → ℕ → Option ℕ
id_at ids place = slice_index_or ids place None

abbrev pub main_row_at : List (Option ℕ) → List (Option ℕ) → List (Option ℕ) → List (List Cell) → ℕ → MainRow
main_row_at ids resource_ids scope_ids rows place =
    main_row (id_at ids place) (id_at resource_ids place) (id_at scope_ids place) (slice_index_or rows place [])

-- the rows of a main table that has these ids
unfoldable pub main_rows : List (Option ℕ) → List (Option ℕ) → List (Option ℕ) → List (List Cell) → List MainRow
main_rows ids resource_ids scope_ids rows = map (main_row_at ids resource_ids scope_ids rows) (range_with_len 0 (length rows))

-- the row at a place of main rows; past their end one without ids and cells
abbrev pub row_at : List MainRow → ℕ → MainRow
row_at rows place = slice_index_or rows place (main_row None None None [])

abbrev pub child_row : Option ℕ → Option ℕ → List Cell → ChildRow
child_row id parent cells = record { id = id; parent = parent; cells = cells }

abbrev pub child_row_at : List (Option ℕ) → List (Option ℕ) → List (List Cell) → ℕ → ChildRow
child_row_at ids parents cells place = child_row (id_at ids place) (id_at parents place) (slice_index_or cells place [])

-- the rows of another table that has these ids, parents and other cells
unfoldable pub child_rows : List (Option ℕ) → List (Option ℕ) → List (List Cell) → List ChildRow
child_rows ids parents cells = map (child_row_at ids parents cells) (range_with_len 0 (length cells))

-- ---- which rows are equal: cells are compared as cells, and null equals null alone

abbrev pub cell_is : Cell → Cell → Bool
cell_is null null = true
cell_is (number a) (number b) = int_eq a b
cell_is (bits a) (bits b) = a == b
cell_is (flag a) (flag b) = same_flag a b
cell_is (bytes a) (bytes b) = bytes_eq a b
cell_is _ _ = false

abbrev pub cells_are : List Cell → List Cell → Bool
cells_are [] [] = true
cells_are (a ∷ xs) (b ∷ ys) = cell_is a b && cells_are xs ys
cells_are _ _ = false

abbrev pub id_is : Option ℕ → Option ℕ → Bool
id_is None None = true
id_is (Some a) (Some b) = a == b
id_is _ _ = false

-- all cells of `resource` are equal
abbrev pub same_resource : MainRow → MainRow → Bool
same_resource a b = id_is a.resource_id b.resource_id && cells_are a.resource b.resource

-- all cells of `scope`, and that of `schema_url`, are equal
abbrev pub same_scope : MainRow → MainRow → Bool
same_scope a b = id_is a.scope_id b.scope_id && (cells_are a.scope b.scope && cell_is a.schema_url b.schema_url)

-- the row names this parent
abbrev pub is_child_of : ℕ → ChildRow → Bool
is_child_of parent row = id_is row.parent (Some parent)
