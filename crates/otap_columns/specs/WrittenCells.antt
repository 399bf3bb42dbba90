-- What is written for a cell.
use Rattle.std.specs.Prelude.{ℕ, ◌≤◌, List, map, Option, Some, None, option_map, position, bytes_eq}
use Rattle.byteorder.specs.Endian.{little_bytes}
use Rattle.otap_cells.specs.declared.profile.Base.{Base}
use Rattle.otap_cells.specs.Cells.{Cell}
use Rattle.otap_cells.specs.Columns.{base_at}
use Rattle.otap_cells.specs.Tables.{Table, column_in}
use Rattle.otap_dicts.specs.Limits.{narrow_limit, value_limit}
use Rattle.otap_columns.specs.declared.forms.ColumnForm.{ColumnForm}
use Rattle.otap_columns.specs.declared.forms.ColumnForm.TheVariants as form
use Rattle.otap_columns.specs.Observed.{bytes_for}

-- the index of a value among values; null has none
abbrev pub place_among : List (List ℕ) → Option (List ℕ) → Option ℕ
place_among values None = None
place_among values (Some value) = position (bytes_eq value) values

-- this index in so many bytes
abbrev pub index_bytes : ℕ → List (List ℕ) → Option (List ℕ) → Option (List ℕ)
index_bytes width values value = option_map (little_bytes width) (place_among values value)

-- the indexes of a form reach all values
abbrev pub FitsIndexes : ColumnForm → ℕ → Type 0
FitsIndexes form.Dict8 count = count ≤ narrow_limit
FitsIndexes form.Dict16 count = count ≤ value_limit
FitsIndexes form count = Unit {0}

-- WHAT IS WRITTEN for a cell: its index in a dictionary's form, else its bytes
abbrev pub stored_for : Base → ColumnForm → List (List ℕ) → Cell → Option (List ℕ)
stored_for holds form.Dict8 values cell = index_bytes 1 values (bytes_for holds form.Dict8 cell)
stored_for holds form.Dict16 values cell = index_bytes 2 values (bytes_for holds form.Dict16 cell)
stored_for holds form.Absent values cell = bytes_for holds form.Absent cell
stored_for holds form.Plain values cell = bytes_for holds form.Plain cell
stored_for holds form.Wide values cell = bytes_for holds form.Wide cell
stored_for holds (form.Coded how) values cell = bytes_for holds (form.Coded how) cell

-- a column of a table, as it is written
unfoldable pub stored_column : ColumnForm → List (List ℕ) → Table → ℕ → List (Option (List ℕ))
stored_column form values t column = map (stored_for (base_at t.kind column) form values) (column_in t.rows column)
