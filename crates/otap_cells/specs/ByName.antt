-- Cells by the names of their columns.
use Rattle.std.specs.Prelude.{ℕ, List, drop}
use Rattle.otap_cells.specs.Cells.{Cell, cell_at}
use Rattle.otap_cells.specs.Columns.{ColumnSpec, place_in}

-- the cell of a name, of the cells that these columns have. Where no column has the name it is the cell behind the last column
abbrev pub cell_of : List ColumnSpec → List ℕ → List Cell → Cell
cell_of columns name cells = cell_at cells (place_in columns name)

-- the cells from that of a name on
abbrev pub cells_from : List ColumnSpec → List ℕ → List Cell → List Cell
cells_from columns name cells = drop (place_in columns name) cells
