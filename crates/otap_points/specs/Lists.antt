-- Lists of numbers of 64 bits as cells: 8 bytes for each number, the lowest first. The empty list is null, and null reads as it.
use Rattle.std.specs.Prelude.{ℕ, List}
use Rattle.std.specs.List.{flat_map}
use Rattle.byteorder.specs.Endian.{little_bytes}
use Rattle.lists.specs.Numbers.{little_numbers}
use Rattle.otap_cells.specs.Cells.{Cell, bytes_in}
use Rattle.otap_cells.specs.Scalars.{text_cell}
use Rattle.otap_checks.specs.Measured.{element_count}

-- the bytes of numbers
abbrev pub bytes_of : List ℕ → List ℕ
bytes_of numbers = flat_map (little_bytes 8) numbers

abbrev pub list_cell : List ℕ → Cell
list_cell numbers = text_cell (bytes_of numbers)

-- THE LIST that a cell reads as
abbrev pub list_in : Cell → List ℕ
list_in cell = little_numbers (element_count cell) (bytes_in cell)
