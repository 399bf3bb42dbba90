-- The lines of a table's rows.
use Rattle.std.specs.Prelude.{ℕ, ◌+◌, ◌/◌, if◌then◌else◌, List, [], ◌∷◌, ◌++◌, length, map, codes}
use Rattle.std.specs.List.{join_with_byte}
use Rattle.std.specs.Simd.{first_chunks}
use Rattle.std.specs.Fmt.{decimal, signed_decimal}
use Rattle.std.specs.Int.{w64, to_be_bytes}
use Rattle.byteorder.specs.Endian.{little_number}
use Rattle.hex.specs.Hex.{encode_lower}
use Rattle.otap_cells.specs.declared.profile.Base.{Base}
use Rattle.otap_cells.specs.declared.profile.Base.TheVariants as base
use Rattle.otap_cells.specs.Cells.{Cell, null, number, bits, flag, bytes}
use Rattle.otap_cells.specs.Columns.{ColumnSpec, columns_of}
use Rattle.otap_cells.specs.Tables.{Table}
use Rattle.otap_gateway.specs.Lines.{line_feed}
use Rattle.otap_gateway.specs.Quoting.{quoted}

-- 64 bits: those of a double, also in a list, as 16 hexadecimal digits, the highest first; others as a number without a sign
abbrev pub bits_text : Base → ℕ → List ℕ
bits_text base.Double n = encode_lower (to_be_bytes w64 n)
bits_text base.ListF64 n = encode_lower (to_be_bytes w64 n)
bits_text holds n = decimal n

-- the numbers of a list, 8 bytes each, the lowest first
abbrev pub elements : List ℕ → List ℕ
elements part = map (little_number 8) (first_chunks 8 (length part / 8) part)

-- a list: its elements between brackets, with a comma between any two
abbrev pub elements_text : Base → List ℕ → List ℕ
elements_text holds numbers = join_with_byte 44 (map (bits_text holds) numbers)

abbrev pub list_text : Base → List ℕ → List ℕ
list_text holds part = codes "[" ++ elements_text holds (elements part) ++ codes "]"

-- bytes: a text in quotes, a list by its elements, others as hexadecimal digits
abbrev pub bytes_text : Base → List ℕ → List ℕ
bytes_text base.Utf8 part = codes "\"" ++ quoted part ++ codes "\""
bytes_text base.ListU64 part = list_text base.ListU64 part
bytes_text base.ListF64 part = list_text base.ListF64 part
bytes_text holds part = encode_lower part

-- a cell as it is stored, by what its column holds
abbrev pub cell_text : Base → Cell → List ℕ
cell_text holds null = []
cell_text holds (number n) = signed_decimal n
cell_text holds (bits n) = bits_text holds n
cell_text holds (flag b) = if b then codes "true" else codes "false"
cell_text holds (bytes part) = bytes_text holds part

-- the column's name and the cell; nothing where the cell is null
abbrev pub named_cell : ColumnSpec → Cell → List ℕ
named_cell column null = []
named_cell column cell = codes " " ++ column.name ++ codes "=" ++ cell_text column.base cell

-- the cells of a row, under these columns
abbrev pub cells_text : List ColumnSpec → List Cell → List ℕ
cells_text (column ∷ columns) (cell ∷ cells) = named_cell column cell ++ cells_text columns cells
cells_text _ _ = []

abbrev pub row_line : List ColumnSpec → ℕ → List Cell → List ℕ
row_line columns place row = codes "row " ++ decimal place ++ codes ":" ++ cells_text columns row ++ line_feed

-- a line for each row, counted from a number on
abbrev pub row_lines : List ColumnSpec → ℕ → List (List Cell) → List ℕ
row_lines columns place [] = []
row_lines columns place (row ∷ rows) = row_line columns place row ++ row_lines columns (place + 1) rows

-- the lines of a table
abbrev pub table_text : Table → List ℕ
table_text table = row_lines (columns_of table.kind) 0 table.rows
