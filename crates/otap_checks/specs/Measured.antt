-- Measured numbers and lists of numbers in a row's cells.
use Rattle.std.specs.Prelude.{◌≡◌, ℕ, ◌<◌, ◌+◌, ◌==◌, ◌/◌, false, length}
use Rattle.otap_cells.specs.Cells.{Cell, bytes_in, null}
use Rattle.otap_cells.specs.Tables.{Table, cell_in}

-- the cell isn't null
abbrev pub IsThere : Cell → Type 0
IsThere null = ⊥
IsThere _ = Unit {0}

-- how many numbers of 64 bits a cell has
abbrev pub element_count : Cell → ℕ
element_count cell = length (bytes_in cell) / 8

-- a row has an integer and, in the column after it, a double
pub record HasTwoValues (t : Table) (column : ℕ) : Type 0 where
  pub row : ℕ
  pub there : row < length t.rows
  pub int : IsThere (cell_in t.rows column row)
  pub double : IsThere (cell_in t.rows (column + 1) row)

-- a row has lists of different lengths in two columns
pub record HasUnevenLists (t : Table) (first second : ℕ) : Type 0 where
  pub row : ℕ
  pub there : row < length t.rows
  pub other : (element_count (cell_in t.rows first row) == element_count (cell_in t.rows second row)) ≡ false
