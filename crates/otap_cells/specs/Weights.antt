-- Row weights: a unit for each row, and the bytes of each text, binary, fixed and list cell that isn't null.
use Rattle.std.specs.Prelude.{ℕ, ◌+◌, List, length, sum_by}
use Rattle.otap_cells.specs.Cells.{Cell, bytes_in}
use Rattle.otap_cells.specs.Limits.{row_unit}
use Rattle.otap_cells.specs.Tables.{Table}
pub use Rattle.otap_cells.specs.Limits.{row_weight_limit}

abbrev pub cell_weight : Cell → ℕ
cell_weight cell = length (bytes_in cell)

abbrev pub weight_of_row : List Cell → ℕ
weight_of_row row = row_unit + sum_by cell_weight row

abbrev pub weight_of_table : Table → ℕ
weight_of_table table = sum_by weight_of_row table.rows

-- the row weight of a set of tables
abbrev pub weight_of_tables : List Table → ℕ
weight_of_tables tables = sum_by weight_of_table tables
