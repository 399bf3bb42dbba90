-- How the writer builds the record batch of a table: used in private contracts.
use Rattle.std.specs.Prelude.{◌≡◌, ◌<◌, ◌≤◌, ℕ, true, List, length, None}
use Rattle.std.specs.List.{slice_index_or}
use Rattle.arrow_ipc.specs.Batches.{BatchIn}
use Rattle.arrow_arrays.specs.Written.{PartIn}
use Rattle.otap_cells.specs.Columns.{base_at, width_of}
use Rattle.otap_cells.specs.Tables.{Table, IsTable, column_in}
use Rattle.otap_cells.specs.Weights.{row_weight_limit, weight_of_table}
use Rattle.otap_columns.specs.Schemas.{Forms, ArraySlot, is_present, is_dictionary, item_in}
use Rattle.otap_columns.specs.Seen.{SeenIn}
use Rattle.otap_columns.specs.SeenInside.{filled_up, places_of_cells}
use Rattle.otap_columns.specs.WrittenCells.{FitsIndexes}
use Rattle.otap_columns.specs.BuiltCells.{FitsColumn, with_parts}
use Rattle.otap_columns.specs.WrittenRows.{AreSlotParts, unseen}

-- the values of the dictionaries of columns, by a list of what is kept of them
abbrev pub columns_in : List SeenIn → ℕ → List (List ℕ)
columns_in columns column = (slice_index_or columns column unseen).ladder.values

-- a table can be written in forms: each cell fits its form, indexes reach all values and are known, and the table is light
pub record CanWrite (forms : Forms) (columns : List SeenIn) (t : Table) : Type 0 where
  pub table : IsTable t
  pub count : length columns ≡ width_of t.kind
  pub fits : (column : ℕ) → column < width_of t.kind → is_present (forms column) ≡ true → FitsColumn (forms column) t column
  pub few : (column : ℕ) → FitsIndexes (forms column) (length (columns_in columns column))
  pub single : (column : ℕ) → is_dictionary (forms column) ≡ true → item_in (base_at t.kind column) ≡ None
  pub placed : (column : ℕ) → column < width_of t.kind → is_dictionary (forms column) ≡ true
      → filled_up (length t.rows) (slice_index_or columns column unseen).places ≡ places_of_cells (base_at t.kind column) (forms column) (columns_in columns column) (column_in t.rows column)
  pub light : weight_of_table t ≤ row_weight_limit

-- the parts of slots were added to a batch
pub record AddsSlots (forms : Forms) (values : ℕ → List (List ℕ)) (t : Table) (slots : List ArraySlot) (old new : BatchIn) : Type 0 where
  pub parts : List PartIn
  pub whole : new ≡ with_parts old parts
  pub are : AreSlotParts t.kind forms values t slots parts
