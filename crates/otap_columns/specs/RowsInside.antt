-- What a view of a record keeps.
use Rattle.std.specs.Prelude.{◌≡◌, ℕ, ◌<◌, ◌≤◌, Ok, length, get_or}
use Rattle.arrow_arrays.specs.Arrays.{arrays_check}
use Rattle.otap_cells.specs.Columns.{width_of}
use Rattle.otap_cells.specs.Tables.{Table, IsTable}
use Rattle.otap_columns.specs.declared.reader.resolved.ResolvedColumn.{ResolvedColumn}
use Rattle.otap_columns.specs.declared.reader.view.RowsView.TheInside as rows
use Rattle.otap_columns.specs.Resolved.{IsColumn}
use Rattle.otap_columns.specs.Substreams.{table_of_batch}

abbrev pub rows_view : rows.Inside → Table
rows_view v = table_of_batch v.reader.now.kind v.reader.now.substream v.batch

-- each column of the table was found
pub record IsRowsInside (v : rows.Inside) : Type 0 where
  pub fine : arrays_check v.batch v.reader.now.substream.arrays ≡ Ok tt
  pub sound : IsTable (rows_view v)
  pub room : width_of v.reader.now.kind ≤ length v.columns
  pub columns : (column : ℕ) (d : ResolvedColumn) → column < width_of v.reader.now.kind
      → IsColumn v.reader.now.kind v.reader.now.substream v.batch column (get_or v.columns column d)
