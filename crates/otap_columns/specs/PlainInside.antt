-- The forms that are listed for all columns of a table: used in private contracts.
use Rattle.std.specs.Prelude.{◌≡◌, ℕ, ◌<◌, List, length}
use Rattle.otap_cells.specs.Columns.{width_of}
use Rattle.otap_cells.specs.Tables.{Table}
use Rattle.otap_columns.specs.declared.forms.ColumnForm.{ColumnForm}
use Rattle.otap_columns.specs.FormsIn.{forms_in}
use Rattle.otap_columns.specs.Plain.{plain_forms}

pub record ArePlain (t : Table) (forms : List ColumnForm) : Type 0 where
  pub count : length forms ≡ width_of t.kind
  pub each : (column : ℕ) → column < width_of t.kind → forms_in forms column ≡ plain_forms t column
