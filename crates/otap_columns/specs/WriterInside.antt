-- What a writer does on the way from one table to the next: used in private contracts.
use Rattle.std.specs.Prelude.{◌≡◌, ℕ, ◌<◌, Bool, List, length}
use Rattle.std.specs.List.{slice_index_or}
use Rattle.otap_cells.specs.declared.payload.Kind.{Kind}
use Rattle.otap_cells.specs.Columns.{width_of}
use Rattle.otap_cells.specs.Tables.{Table}
use Rattle.otap_columns.specs.declared.forms.ColumnForm.{ColumnForm}
use Rattle.otap_columns.specs.Seen.{SeenIn}
use Rattle.otap_columns.specs.SeenInside.{SeesTable, form_kept}
use Rattle.otap_columns.specs.FormsIn.{forms_in}
use Rattle.otap_columns.specs.WrittenRows.{unseen}
use Rattle.otap_columns.specs.BuiltRows.{columns_in}
use Rattle.otap_columns.specs.Writers.{AreSeen, AreWritable, is_started}

-- the columns of a kind were observed in these tables, and each of them can be written
pub record IsReady (tables : List Table) (kind : Kind) (started : Bool) (columns : List SeenIn) : Type 0 where
  pub begun : started ≡ is_started tables
  pub writable : AreWritable kind tables
  pub seen : AreSeen kind tables columns

-- the columns were observed in a table
pub record SeesAll (kind : Kind) (t : Table) (old new : List SeenIn) : Type 0 where
  pub count : length new ≡ length old
  pub each : (column : ℕ) → column < width_of kind → SeesTable kind column t (slice_index_or old column unseen) (slice_index_or new column unseen)

-- forms are those that follow from what is kept
pub record AreForms (kind : Kind) (columns : List SeenIn) (forms : List ColumnForm) : Type 0 where
  pub count : length forms ≡ width_of kind
  pub each : (column : ℕ) → column < width_of kind → forms_in forms column ≡ form_kept kind column (slice_index_or columns column unseen)

-- numbers are those of the values of the dictionaries
abbrev pub AreCounts : Kind → List SeenIn → List ℕ → Type 0
AreCounts kind columns counts = (column : ℕ) → column < width_of kind → slice_index_or counts column 0 ≡ length (columns_in columns column)
