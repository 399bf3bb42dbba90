-- The values that the columns of tables had, the bytes that store them, and the form in which a column is written after them
-- (OpenTelemetry Arrow Protocol, "Schema and Dictionary Resets"; the forms and their limits are this gateway's profile).
use Rattle.std.specs.Prelude.{ℕ, ◌||◌, Bool, false, nat_lt, if◌then◌else◌, List, [], ◌∷◌, length, map, drop, codes, bytes_eq, Option, Some, None, ℤ, unsigned_abs}
use Rattle.std.specs.Int.{w32, w64, cast_unsigned}
use Rattle.std.specs.List.{flat_map, list_any}
use Rattle.byteorder.specs.Endian.{little_bytes}
use Rattle.arrow_buffers.specs.Columns.{bit_byte}
use Rattle.otap_cells.specs.declared.payload.Kind.{Kind}
use Rattle.otap_cells.specs.declared.profile.Base.{Base}
use Rattle.otap_cells.specs.declared.profile.Base.TheVariants as base
use Rattle.otap_cells.specs.Cells.{Cell, null, number, bits, flag, bytes}
use Rattle.otap_cells.specs.Columns.{column_at, name_at, base_at, coding_at, is_id_at}
use Rattle.otap_cells.specs.ColumnIds.{stored_in}
use Rattle.otap_cells.specs.Continuing.{continues_in}
use Rattle.otap_cells.specs.Ids.{undone}
use Rattle.otap_cells.specs.Payload.{is_main}
use Rattle.otap_cells.specs.Tables.{Table, column_in, greatest_wide, greatest_narrow}
use Rattle.otap_dicts.specs.declared.form.Form.{Form}
use Rattle.otap_dicts.specs.declared.form.Form.TheVariants as ladder
use Rattle.otap_dicts.specs.Forms.{distinct, form_of}
use Rattle.otap_columns.specs.declared.forms.ColumnForm.{ColumnForm}
use Rattle.otap_columns.specs.declared.forms.ColumnForm.TheVariants as form

-- ---- bytes

-- an id in a form: 4 bytes where it is wide, coded or not, else 2
abbrev pub id_width : ColumnForm → ℕ
id_width form.Wide = 4
id_width (form.Coded how) = 4
id_width other = 2

-- the bytes of a number, little-endian
abbrev pub bytes_of_number : Base → ColumnForm → ℤ → List ℕ
bytes_of_number base.U8 form n = little_bytes 1 (unsigned_abs n)
bytes_of_number base.U16 form n = little_bytes 2 (unsigned_abs n)
bytes_of_number base.U32 form n = little_bytes 4 (unsigned_abs n)
bytes_of_number base.I32 form n = little_bytes 4 (cast_unsigned w32 n)
bytes_of_number base.I64 form n = little_bytes 8 (cast_unsigned w64 n)
bytes_of_number (base.Id wide) form n = little_bytes (id_width form) (unsigned_abs n)
bytes_of_number other form n = []

-- THE BYTES THAT STORE A CELL in a column of a base that has a form; null has none
abbrev pub bytes_for : Base → ColumnForm → Cell → Option (List ℕ)
bytes_for holds form null = None
bytes_for holds form (number n) = Some (bytes_of_number holds form n)
bytes_for holds form (bits n) = Some (little_bytes 8 n)
bytes_for holds form (flag b) = Some (bit_byte b)
bytes_for holds form (bytes part) = Some part

-- ---- the values of a column

-- those of cells, of which null has none
abbrev pub given : List (Option (List ℕ)) → List (List ℕ)
given [] = []
given (None ∷ cells) = given cells
given (Some value ∷ cells) = value ∷ given cells

abbrev pub bytes_of_values : Kind → ℕ → Table → List (List ℕ)
bytes_of_values kind column t = given (map (bytes_for (base_at kind column) form.Wide) (column_in t.rows column))

-- ALL THAT A COLUMN HAD in tables
unfoldable pub values_in_tables : Kind → List Table → ℕ → List (List ℕ)
values_in_tables kind tables column = flat_map (bytes_of_values kind column) tables

-- ---- ids

-- the ids of the rows of a main table, which are always written
abbrev pub is_own_id : Kind → ℕ → Bool
is_own_id kind column = if is_main kind then bytes_eq (name_at kind column) (codes "id") else false

-- the ids of a column, by its stored numbers
abbrev pub profile_ids_in : Kind → ℕ → Table → List (Option ℕ)
profile_ids_in kind column t = undone (coding_at kind column) greatest_wide (continues_in t) (stored_in t column)

-- one of them needs more than 16 bits
abbrev pub is_above : Option ℕ → Bool
is_above None = false
is_above (Some id) = nat_lt greatest_narrow id

abbrev pub has_wide_id : Kind → ℕ → Table → Bool
has_wide_id kind column t = list_any is_above (profile_ids_in kind column t)

-- a base whose ids are always wide
abbrev pub is_wide : Base → Bool
is_wide (base.Id wide) = wide
is_wide other = false

-- ---- forms

-- a column without values isn't written
abbrev pub if_seen : List (List ℕ) → ColumnForm → ColumnForm
if_seen [] told = form.Absent
if_seen (value ∷ values) told = told

-- ids are wide from the first id on that needs it
abbrev pub id_form : Kind → List Table → ℕ → ColumnForm
id_form kind tables column = if is_wide (base_at kind column) || list_any (has_wide_id kind column) tables then form.Wide else form.Plain

abbrev pub id_form_if : Bool → Kind → List Table → ℕ → ColumnForm
id_form_if own kind tables column = if own then id_form kind tables column else if_seen (values_in_tables kind tables column) (id_form kind tables column)

-- the form of a ladder
abbrev pub of_ladder : Form → ColumnForm
of_ladder ladder.Absent = form.Absent
of_ladder ladder.Dict8 = form.Dict8
of_ladder ladder.Dict16 = form.Dict16
of_ladder ladder.Plain = form.Plain

-- THE FORM OF A COLUMN after tables
unfoldable pub form_at : Kind → List Table → ℕ → ColumnForm
form_at kind tables column =
    if is_id_at kind column then id_form_if (is_own_id kind column) kind tables column
    else of_ladder (form_of (column_at kind column).dictionary (values_in_tables kind tables column))

-- THE VALUES OF ITS DICTIONARY: all distinct ones, in the order of their first occurrence
unfoldable pub dictionary_values : Kind → List Table → ℕ → List (List ℕ)
dictionary_values kind tables column = distinct (values_in_tables kind tables column)

-- those that weren't there before
unfoldable pub new_at : Kind → List Table → List Table → ℕ → List (List ℕ)
new_at kind before now column = drop (length (dictionary_values kind before column)) (dictionary_values kind now column)
