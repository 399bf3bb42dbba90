-- Columns that are found once: used in an invariant and in private contracts.
use Rattle.std.specs.Prelude.{◌≡◌, ℕ, ◌*◌, ◌<◌, ◌≤◌, ⊤, true, List, Option, None, Some, length, slice_get, ◌%◌, ◌⊎◌, IsUtf8}
use Rattle.std.specs.Option.{ForSome, option_copied}
use Rattle.arrow_buffers.specs.declared.width.Width.TheVariants.{Bit}
use Rattle.arrow_buffers.specs.Columns.{HasWidth, cell_len}
use Rattle.arrow_ipc.specs.Batches.{BatchIn}
use Rattle.arrow_arrays.specs.declared.column.ColumnView.{ColumnView}
pub use Rattle.arrow_arrays.specs.Views.{IsIndexSize}
use Rattle.arrow_arrays.specs.Views.{has_no_bitmap, cell_seen}
use Rattle.otap_cells.specs.declared.payload.Kind.{Kind}
use Rattle.otap_cells.specs.Cells.{IsCellOf}
use Rattle.otap_cells.specs.Columns.{base_at}
use Rattle.otap_cells.specs.Tables.{Table, cell_in}
use Rattle.otap_cells.specs.declared.profile.Base.{Base}
use Rattle.otap_cells.specs.declared.profile.Base.TheVariants as base
use Rattle.otap_columns.specs.declared.reader.resolved.ResolvedColumn.{ResolvedColumn}
use Rattle.otap_columns.specs.Known.{stored_cell}
use Rattle.otap_columns.specs.Dictionaries.{DictionaryIn}
use Rattle.otap_columns.specs.Substreams.{SubstreamIn, value_by_index, field_value, column_value}

-- the bytes that a cell of a base is stored in, which isn't null
abbrev pub FitsBase : Base → List ℕ → Type 0
FitsBase base.U8 value = length value ≡ 1
FitsBase base.U16 value = length value ≡ 2
FitsBase base.U32 value = length value ≡ 4
FitsBase base.U64 value = length value ≡ 8
FitsBase base.I32 value = length value ≡ 4
FitsBase base.I64 value = length value ≡ 8
FitsBase base.Double value = length value ≡ 8
FitsBase base.Bool value = HasWidth Bit value
FitsBase base.Utf8 value = IsUtf8 value
FitsBase base.Binary value = ⊤
FitsBase base.Fixed16 value = length value ≡ 16
FitsBase base.Fixed8 value = length value ≡ 8
FitsBase base.Timestamp value = length value ≡ 8
FitsBase base.Duration value = length value ≡ 8
FitsBase base.ListU64 value = length value % 8 ≡ 0
FitsBase base.ListF64 value = length value % 8 ≡ 0
FitsBase (base.Id wide) value = (length value ≡ 2) ⊎ (length value ≡ 4)

-- a cell, or the value to which it leads as an index
abbrev pub led_to : Option DictionaryIn → Option (List ℕ) → Option (List ℕ)
led_to None cell = cell
led_to (Some d) cell = value_by_index d.values cell

-- the value in a row of a column
abbrev pub resolved_value : ResolvedColumn → ℕ → Option (List ℕ)
resolved_value c row = led_to (option_copied c.dictionary) (cell_seen c.stored row)

-- each cell holds an index
abbrev pub HasIndexSizes : ColumnView → Type 0
HasIndexSizes v = (row : ℕ) → ForSome (cell_seen v row) IsIndexSize

-- where there is a dictionary
abbrev pub LeadsBy : Option DictionaryIn → ColumnView → Type 0
LeadsBy None v = ⊤
LeadsBy (Some d) v = HasIndexSizes v

-- what a column says of itself is so: each cell holds an index where there is a dictionary, and no bitmap has bytes where it is
-- whole
pub record IsResolved (c : ResolvedColumn) : Type 0 where
  pub indexes : LeadsBy (option_copied c.dictionary) c.stored
  pub whole : c.whole ≡ true → has_no_bitmap c.stored ≡ true

-- the column of the field at an index is this one
pub record IsFieldColumn (s : SubstreamIn) (batch : BatchIn) (place : ℕ) (c : ResolvedColumn) : Type 0 where
  pub values : (row : ℕ) → resolved_value c row ≡ field_value s batch row place (slice_get s.arrays place)
  pub resolved : IsResolved c

-- the column of a table is this one, and its cells hold the column's base
pub record IsColumn (kind : Kind) (s : SubstreamIn) (batch : BatchIn) (column : ℕ) (c : ResolvedColumn) : Type 0 where
  pub values : (row : ℕ) → resolved_value c row ≡ column_value kind s batch column row
  pub resolved : IsResolved c
  pub base : c.base ≡ base_at kind column
  pub fits : (row : ℕ) → ForSome (column_value kind s batch column row) (FitsBase (base_at kind column))

-- what a column shows is the cells of a column of a table, each of its base
pub record ShowsColumn (t : Table) (column : ℕ) (c : ResolvedColumn) : Type 0 where
  pub base : c.base ≡ base_at t.kind column
  pub cells : (row : ℕ) → row < length t.rows → stored_cell c.base (resolved_value c row) ≡ cell_in t.rows column row
  pub holds : (row : ℕ) → IsCellOf (base_at t.kind column) (cell_in t.rows column row)
  pub fits : (row : ℕ) → ForSome (resolved_value c row) (FitsBase c.base)
  pub resolved : IsResolved c

-- so many rows of a column have no more than so many bytes together, since none of them has more than so many
pub record AtMost (c : ResolvedColumn) (rows most : ℕ) : Type 0 where
  pub each : ℕ
  pub bytes : (row : ℕ) → cell_len (resolved_value c row) ≤ each
  pub all : rows * each ≤ most
