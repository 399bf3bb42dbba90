-- What the writer keeps of columns from one table to the next: used in private contracts.
use Rattle.std.specs.Prelude.{◌≡◌, ℕ, ◌-◌, length, map, replicate, ◌&&◌, ◌||◌, not, Bool, true, false, if◌then◌else◌, List, ◌∷◌, ◌++◌, [], Option, None, Some}
use Rattle.otap_cells.specs.declared.payload.Kind.{Kind}
use Rattle.otap_cells.specs.Columns.{base_at, is_id_at}
use Rattle.otap_cells.specs.declared.profile.Base.{Base}
use Rattle.otap_cells.specs.Cells.{Cell}
use Rattle.otap_cells.specs.Tables.{Table, column_in}
use Rattle.otap_dicts.specs.Ladders.{LadderIn, is_dictionary, observed}
use Rattle.otap_dicts.specs.declared.form.Form.{Form}
use Rattle.otap_dicts.specs.declared.form.Form.TheVariants as ladder
use Rattle.otap_columns.specs.declared.forms.ColumnForm.{ColumnForm}
use Rattle.otap_columns.specs.declared.forms.ColumnForm.TheVariants as form
use Rattle.otap_columns.specs.Observed.{bytes_for, is_wide, is_own_id, of_ladder}
use Rattle.otap_columns.specs.WrittenCells.{place_among}
use Rattle.otap_columns.specs.Seen.{SeenIn, IsSeenAfter}

-- the indexes of cells among values
abbrev pub places_of_cells : Base → ColumnForm → List (List ℕ) → List Cell → List (Option ℕ)
places_of_cells holds form values cells = map (λ cell. place_among values (bytes_for holds form cell)) cells

-- the indexes of a number of cells, where those of the first ones are given and the others have none
abbrev pub filled_up : ℕ → List (Option ℕ) → List (Option ℕ)
filled_up count places = places ++ replicate (count - length places) None

-- a ladder after a cell, which null leaves as it was
abbrev pub observed_if : LadderIn → Option (List ℕ) → LadderIn
observed_if ladder None = ladder
observed_if ladder (Some value) = observed ladder value

-- where the old state is the one after some tables, the new one is the one after these and this table; where the column is a
-- dictionary it has the indexes of the table's cells
pub record SeesTable (kind : Kind) (column : ℕ) (t : Table) (old new : SeenIn) : Type 0 where
  pub at : (tables : List Table) → IsSeenAfter kind tables column old → IsSeenAfter kind (tables ++ t ∷ []) column new
  pub placed : is_dictionary new.ladder.form ≡ true → filled_up (length t.rows) new.places ≡ places_of_cells (base_at kind column) form.Wide new.ladder.values (column_in t.rows column)

-- no value was observed
abbrev pub is_absent : Form → Bool
is_absent ladder.Absent = true
is_absent told = false

-- the form of a column of ids, and of any column, that follows from a state
abbrev pub id_form_kept : Bool → Bool → Bool → ColumnForm
id_form_kept own absent wide = if absent && not own then form.Absent else (if wide then form.Wide else form.Plain)

abbrev pub form_kept : Kind → ℕ → SeenIn → ColumnForm
form_kept kind column s =
    if is_id_at kind column then id_form_kept (is_own_id kind column) (is_absent s.ladder.form) (is_wide (base_at kind column) || s.wide)
    else of_ladder s.ladder.form
