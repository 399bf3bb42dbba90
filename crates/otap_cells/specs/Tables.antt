-- Tables: rows of cells, under the columns of their kind.
use Rattle.std.specs.Prelude.{◌≡◌, ℕ, ◌-◌, ◌<◌, ◌≤◌, true, List, [], ◌∷◌, length, map, replicate, All, slice_set}
use Rattle.std.specs.List.{slice_index_or, range_with_len}
use Rattle.otap_cells.specs.declared.payload.Kind.{Kind}
use Rattle.otap_cells.specs.declared.profile.Coding.{Coding}
use Rattle.otap_cells.specs.declared.profile.Coding.TheVariants as coding
use Rattle.otap_cells.specs.Columns.{ColumnSpec, width_of, column_at, base_at, coding_at, is_id_at, allows}
use Rattle.otap_cells.specs.Cells.{Cell, null, nat_in, IsCellOf}
pub use Rattle.otap_cells.specs.Limits.{greatest_wide, greatest_narrow}

-- the rows of a table, each a list of cells, and the kind that names their columns; and for each column how its ids are
-- stored, and the greatest number that it may hold
pub record Table : Type 0 where
  pub kind : Kind
  pub rows : List (List Cell)
  pub codings : List Coding
  pub greatest : List ℕ

-- how the ids of a column are stored
abbrev pub coding_in : Table → ℕ → Coding
coding_in t column = slice_index_or t.codings column coding.Plain

-- the greatest number that a column of ids may hold, stored or not
abbrev pub greatest_in : Table → ℕ → ℕ
greatest_in t column = slice_index_or t.greatest column 0

-- the cell of a row in a column, null where there is none
abbrev pub cell_in : List (List Cell) → ℕ → ℕ → Cell
cell_in rows column row = slice_index_or (slice_index_or rows row []) column null

-- the cells of a column are null
abbrev pub IsNullColumn : List (List Cell) → ℕ → Type 0
IsNullColumn rows column = (row : ℕ) → row < length rows → cell_in rows column row ≡ null

-- a column of the rows, from the first row to the last
abbrev pub column_in : List (List Cell) → ℕ → List Cell
column_in rows column = map (λ row. slice_index_or row column null) rows

-- what a function gives each column of a kind
abbrev pub each_column : {A : Type 0} → Kind → (ℕ → A) → List A
each_column kind f = map f (range_with_len 0 (width_of kind))

-- the table that has these cells, given by column and row; its rows, and one of them
abbrev pub row_by : Kind → (ℕ → ℕ → Cell) → ℕ → List Cell
row_by kind cell row = map (λ column. cell column row) (range_with_len 0 (width_of kind))

abbrev pub rows_by : Kind → ℕ → (ℕ → ℕ → Cell) → List (List Cell)
rows_by kind count cell = map (row_by kind cell) (range_with_len 0 count)

unfoldable pub table_by : Kind → (ℕ → Coding) → (ℕ → ℕ) → ℕ → (ℕ → ℕ → Cell) → Table
table_by kind coding greatest count cell = record {
  kind = kind;
  rows = rows_by kind count cell;
  codings = each_column kind coding;
  greatest = each_column kind greatest;
}

-- a table whose ids are stored as the profile says, in numbers of 32 bits
abbrev pub profile_table : Kind → List (List Cell) → Table
profile_table kind rows = record {
  kind = kind;
  rows = rows;
  codings = each_column kind (coding_at kind);
  greatest = each_column kind (λ column. greatest_wide);
}

-- the cell that columns give a row: null past a column's end, and in a column that isn't there
abbrev pub by_columns : List (List Cell) → ℕ → ℕ → Cell
by_columns columns column row = slice_index_or (slice_index_or columns column []) row null

-- each row has a cell for each column, and each cell is one of its column's base; ids are stored in a way that their column
-- allows, and no stored number of theirs is above the greatest
pub record IsTable (t : Table) : Type 0 where
  pub wide : All (λ row. length row ≡ width_of t.kind) t.rows
  pub fits : (column row : ℕ) → IsCellOf (base_at t.kind column) (cell_in t.rows column row)
  pub coded : (column : ℕ) → is_id_at t.kind column ≡ true → allows (column_at t.kind column) (coding_in t column) ≡ true
  pub bounded : (column row : ℕ) → is_id_at t.kind column ≡ true → nat_in (cell_in t.rows column row) ≤ greatest_in t column

-- two tables have the same cells, and their ids are stored alike; how great the numbers may be isn't compared
pub record SameTable (a b : Table) : Type 0 where
  pub kind : a.kind ≡ b.kind
  pub rows : a.rows ≡ b.rows
  pub coding : (column : ℕ) → is_id_at a.kind column ≡ true → coding_in a column ≡ coding_in b column

-- a cell for each column, of its base
abbrev pub IsRow : List ColumnSpec → List Cell → Type 0
IsRow [] [] = Unit {0}
IsRow [] (cell ∷ cells) = ⊥
IsRow (column ∷ columns) [] = ⊥
IsRow (column ∷ columns) (cell ∷ cells) = IsCellOf column.base cell × IsRow columns cells

-- a row in which no cell was set
abbrev pub null_row : Kind → List Cell
null_row kind = replicate (width_of kind) null

-- the rows, with this cell in a column of the last one
unfoldable pub with_cell : ℕ → Cell → List (List Cell) → List (List Cell)
with_cell column cell rows = slice_set rows (length rows - 1) (slice_set (slice_index_or rows (length rows - 1) []) column cell)
