-- The ids of a table's columns, where the table's own cells say which rows continue a run.
use Rattle.std.specs.Prelude.{◌≡◌, ℕ, true, List, Option}
use Rattle.std.specs.List.{AllZip}
use Rattle.otap_cells.specs.Columns.{is_id_at}
use Rattle.otap_cells.specs.Tables.{Table, SameTable, coding_in, greatest_in}
use Rattle.otap_cells.specs.Ids.{undone}
use Rattle.otap_cells.specs.declared.ids.IdFault.{IdFault}
use Rattle.otap_cells.specs.ColumnIds.{HasIdFault, IdsOf, stored_in}
use Rattle.otap_cells.specs.Continuing.{continues_in}

-- THE IDS of a column
abbrev pub HasIds : Table → ℕ → List (Option ℕ) → Type 0
HasIds t column ids = IdsOf t column (continues_in t) ids

-- the same as a list; it means nothing where the stored numbers encode no ids
unfoldable pub ids_in : Table → ℕ → List (Option ℕ)
ids_in t column = undone (coding_in t column) (greatest_in t column) (continues_in t) (stored_in t column)

-- WHAT IS WRONG WITH A COLUMN of ids: a parent is null, or else an id would be above the greatest number
abbrev pub ColumnDefect : IdFault → Table → ℕ → Type 0
ColumnDefect fault t column = HasIdFault t column (continues_in t) fault

-- a table reads as another one: the same cells, and the ids that the other one has
pub record ReadsAs (a b : Table) : Type 0 where
  pub same : SameTable a b
  pub ids : (column : ℕ) (ids : List (Option ℕ)) → is_id_at b.kind column ≡ true → HasIds b column ids → HasIds a column ids

-- each table reads as the other one at the same index
abbrev pub ReadAs : List Table → List Table → Type 0
ReadAs tables others = AllZip ReadsAs tables others
