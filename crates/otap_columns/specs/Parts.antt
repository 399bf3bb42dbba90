-- The bytes of a cell.
use Rattle.std.specs.Prelude.{ℕ, List, Option, None, Some}
use Rattle.otap_cells.specs.Cells.{Cell, null, number, bits, flag, bytes}

-- those of a text, a binary, an id of a trace or span, or a list; other cells have none
abbrev pub bytes_of_cell : Cell → Option (List ℕ)
bytes_of_cell null = None
bytes_of_cell (number n) = None
bytes_of_cell (bits n) = None
bytes_of_cell (flag b) = None
bytes_of_cell (bytes part) = Some part
