-- How a table keeps its cells: column by column.
use Rattle.std.specs.Prelude.{◌≡◌, ℕ, ◌<◌, ◌≤◌, List, [], length}
use Rattle.std.specs.List.{slice_index_or}
use Rattle.otap_cells.specs.declared.payload.Kind.{Kind}
use Rattle.otap_cells.specs.Cells.{Cell, IsCellOf}
use Rattle.otap_cells.specs.Tables.{Table, table_by, by_columns, greatest_wide}
use Rattle.otap_cells.specs.Columns.{base_at, coding_at, width_of}

-- columns that make a table of this number of rows
pub record IsKept (kind : Kind) (rows : ℕ) (columns : List (List Cell)) : Type 0 where
  pub few : length columns ≤ width_of kind
  pub there : 0 < rows → length columns ≡ width_of kind
  pub short : (column : ℕ) → length (slice_index_or columns column []) ≤ rows
  pub fits : (column row : ℕ) → IsCellOf (base_at kind column) (by_columns columns column row)

-- the table that they make
abbrev pub kept_table : Kind → ℕ → List (List Cell) → Table
kept_table kind rows columns = table_by kind (coding_at kind) (λ column. greatest_wide) rows (by_columns columns)
