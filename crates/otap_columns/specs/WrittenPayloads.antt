-- What an exporter writes: for the tables of a kind, one after the other, the records of their payloads (OpenTelemetry Arrow
-- Protocol, "Schema and Dictionary Resets" and "Delta Dictionaries").
use Rattle.std.specs.Prelude.{◌≡◌, ◌≢◌, ◌↔◌, ℕ, zero, suc, ◌<◌, ◌≤◌, ⊤, Bool, true, false, not, ◌&&◌, if◌then◌else◌, List, [], ◌∷◌, ◌++◌, length, map, slice_get, Option, Some, pos, Ok}
use Rattle.lists.specs.EachAfter.{EachAfter}
use Rattle.lists.specs.Payloads.{PayloadIn}
use Rattle.arrow_schema.specs.declared.spec.ArrowType.{ArrowType}
use Rattle.arrow_schema.specs.declared.spec.ArrowType.TheVariants.{Struct}
use Rattle.arrow_schema.specs.declared.spec.FieldSpec.{FieldSpec}
use Rattle.arrow_ipc.specs.declared.messages.IpcMessage.{IpcMessage}
use Rattle.arrow_ipc.specs.declared.messages.IpcMessage.TheVariants.{Schema, Dictionary, Rows}
use Rattle.arrow_ipc.specs.Batches.{BatchIn}
use Rattle.arrow_ipc.specs.Fronts.{front_of, left_of}
use Rattle.arrow_arrays.specs.declared.spec.ArraySpec.{ArraySpec}
use Rattle.arrow_arrays.specs.Arrays.{arrays_of, arrays_check, array_place}
use Rattle.arrow_arrays.specs.Cells.{array_check, own_cell, place_of_values}
use Rattle.arrow_arrays.specs.Written.{HasWholeStructs}
use Rattle.otap_cells.specs.declared.payload.Kind.{Kind}
use Rattle.otap_cells.specs.Columns.{base_at, coding_at, is_id_at, width_of}
use Rattle.otap_cells.specs.ColumnIds.{stored_in}
use Rattle.otap_cells.specs.Continuing.{continues_in}
use Rattle.otap_cells.specs.GivenIds.{HasIds}
use Rattle.otap_cells.specs.Ids.{Ids}
use Rattle.otap_cells.specs.Payload.{number_of}
use Rattle.otap_cells.specs.Tables.{Table, IsTable, SameTable, cell_in, coding_in, greatest_wide}
use Rattle.otap_columns.specs.declared.forms.ColumnForm.{ColumnForm}
use Rattle.otap_columns.specs.declared.forms.ColumnForm.TheVariants as form
use Rattle.otap_columns.specs.Streams.{opens, stream_of}
use Rattle.otap_columns.specs.Dictionaries.{values_of}
use Rattle.otap_columns.specs.Known.{known_column}
use Rattle.otap_columns.specs.Limits.{held_of_kind}
use Rattle.otap_columns.specs.Substreams.{held_in, value_by_index, is_index_below, logical, schema_in}
use Rattle.otap_columns.specs.Records.{IsRead}
use Rattle.otap_columns.specs.Schemas.{Forms, is_dictionary, arrow_type_in, schema_for}
use Rattle.otap_columns.specs.Observed.{bytes_for, form_at, dictionary_values, new_at}

-- ---- the messages of a record

-- an opening record has a batch for each dictionary, any other for each that got new values
abbrev pub has_some : List (List ℕ) → Bool
has_some [] = false
has_some (value ∷ values) = true

abbrev pub is_wanted : Bool → Kind → List Table → List Table → ℕ → Bool
is_wanted true kind before now column = is_dictionary (form_at kind now column)
is_wanted false kind before now column = is_dictionary (form_at kind now column) && has_some (new_at kind before now column)

-- with all its values, or with the new ones
abbrev pub wanted_values : Bool → Kind → List Table → List Table → ℕ → List (List ℕ)
wanted_values true kind before now column = dictionary_values kind now column
wanted_values false kind before now column = new_at kind before now column

abbrev pub batch_if : Bool → Bool → ℕ → BatchIn → List IpcMessage
batch_if wanted delta column batch = if wanted then Dictionary (pos column) delta batch ∷ [] else []

-- what each of the first n columns has
abbrev pub heads : (ℕ → List IpcMessage) → ℕ → List IpcMessage
heads head zero = []
heads head (suc n) = heads head n ++ head n

abbrev pub schema_if : Bool → List FieldSpec → List IpcMessage
schema_if opening fields = if opening then Schema fields ∷ [] else []

-- the dictionary batches, in the order of their columns; the id of a dictionary is the index of its column
abbrev pub batches_for : Kind → Bool → List Table → List Table → (ℕ → BatchIn) → ℕ → List IpcMessage
batches_for kind opening before now batches column = batch_if (is_wanted opening kind before now column) (not opening) column (batches column)

-- THE MESSAGES of the record of a table, which is the last of the tables so far
unfoldable pub messages_for : Kind → Bool → List Table → List Table → (ℕ → BatchIn) → BatchIn → List IpcMessage
messages_for kind opening before now batches rows =
    schema_if opening (schema_for kind (form_at kind now)) ++ heads (batches_for kind opening before now batches) (width_of kind) ++ Rows rows ∷ []

-- ---- what their batches hold

-- a dictionary batch holds values, and has no fault
pub record HoldsValues (type : ArrowType) (values : List (List ℕ)) (batch : BatchIn) : Type 0 where
  pub are : values_of type batch ≡ map (λ value. Some value) values
  pub fine : array_check batch (place_of_values type) ≡ Ok tt

-- an index leads to a value
pub record LeadsTo (values : List (List ℕ)) (value index : Option (List ℕ)) : Type 0 where
  pub is : value_by_index (map (λ value. Some value) values) index ≡ value
  pub below : is_index_below (length values) index ≡ true

-- what is stored for a value in a form
abbrev pub Stores : ColumnForm → List (List ℕ) → Option (List ℕ) → Option (List ℕ) → Type 0
Stores form.Absent values value found = ⊤
Stores form.Plain values value found = found ≡ value
Stores form.Dict8 values value found = LeadsTo values value found
Stores form.Dict16 values value found = LeadsTo values value found
Stores form.Wide values value found = found ≡ value
Stores (form.Coded how) values value found = found ≡ value

-- a record batch holds the cells of a table whose columns have these forms, and has no fault
pub record HoldsRows (kind : Kind) (forms : Forms) (values : ℕ → List (List ℕ)) (t : Table) (batch : BatchIn) : Type 0 where
  pub count : batch.rows ≡ length t.rows
  pub fine : arrays_check batch (arrays_of (schema_for kind forms)) ≡ Ok tt
  -- no row of a struct is null, and each struct has an empty bitmap
  pub whole : (row : ℕ) → row < length t.rows → HasWholeStructs (arrays_of (schema_for kind forms)) batch row
  pub bitmaps : (place : ℕ) (a : ArraySpec) → slice_get (arrays_of (schema_for kind forms)) place ≡ Some a → a.kind ≡ Struct → slice_get batch.buffers a.buffer ≡ Some []
  pub cells : (column place row : ℕ) (a : ArraySpec) → known_column kind (arrays_of (schema_for kind forms)) place ≡ Some column → slice_get (arrays_of (schema_for kind forms)) place ≡ Some a
      → row < length t.rows → Stores (forms column) (values column) (bytes_for (base_at kind column) (forms column) (cell_in t.rows column row)) (own_cell batch (array_place a) row)

-- ---- records and payloads

-- a table that is written: its ids are stored as the profile says, and its stored numbers are those of ids
pub record IsWritableTable (kind : Kind) (t : Table) : Type 0 where
  pub kind_is : t.kind ≡ kind
  pub table : IsTable t
  pub coded : (column : ℕ) → is_id_at kind column ≡ true → coding_in t column ≡ coding_at kind column
  pub ids : (column : ℕ) → is_id_at kind column ≡ true → (ids : List (Option ℕ)) × Ids (coding_at kind column) greatest_wide (continues_in t) (stored_in t column) ids

-- a sub-stream goes on exactly where one is open and its schema stays
abbrev pub GoesOn : Kind → List Table → List Table → Type 0
GoesOn kind before now = (before ≢ []) × (schema_for kind (form_at kind before) ≡ schema_for kind (form_at kind now))

-- THE RECORD of a table after others
pub record IsRecord (kind : Kind) (before : List Table) (t : Table) (opening : Bool) (bytes : List ℕ) : Type 0 where
  pub batches : ℕ → BatchIn
  pub rows : BatchIn
  pub goes_on : (opening ≡ false) ↔ GoesOn kind before (before ++ t ∷ [])
  pub messages : front_of bytes ≡ messages_for kind opening before (before ++ t ∷ []) batches rows
  pub ends : left_of bytes ≡ []
  pub values : (column : ℕ) → column < width_of kind → is_wanted opening kind before (before ++ t ∷ []) column ≡ true
      → HoldsValues (arrow_type_in (base_at kind column) (form_at kind (before ++ t ∷ []) column)) (wanted_values opening kind before (before ++ t ∷ []) column) (batches column)
  pub holds : HoldsRows kind (form_at kind (before ++ t ∷ [])) (dictionary_values kind (before ++ t ∷ [])) t rows

-- a payload after others of its type
pub record IsWritten (kind : Kind) (before : List Table) (past : List PayloadIn) (t : Table) (p : PayloadIn) : Type 0 where
  pub type : p.kind ≡ pos (number_of kind)
  pub writable : IsWritableTable kind t
  pub record_is : IsRecord kind before t (opens past p) p.bytes

-- THE POLICY: the payloads of the tables of a kind, one for each
abbrev pub AreWrittenAs : Kind → List Table → List PayloadIn → Type 0
AreWrittenAs kind tables payloads = EachAfter (IsWritten kind) [] [] tables payloads

-- ---- the far end

-- a payload is read, after those before it, as a table with the same cells, whose ids are stored alike; its sub-stream then has
-- the schema of the columns' forms
pub record IsReadAs (kind : Kind) (before : List Table) (past : List PayloadIn) (t : Table) (p : PayloadIn) : Type 0 where
  pub read : IsRead kind (if opens past p then [] else stream_of (pos (number_of kind)) past) p.bytes
  pub table : Table
  pub gives : logical kind (stream_of (pos (number_of kind)) (past ++ p ∷ [])) ≡ Some table
  pub same : SameTable table t
  -- its ids, within the type that the schema gives them, are those of the table that was written
  pub ids : (column : ℕ) (ids : List (Option ℕ)) → is_id_at kind column ≡ true → Ids (coding_at kind column) greatest_wide (continues_in t) (stored_in t column) ids → HasIds table column ids
  pub schema : schema_in (stream_of (pos (number_of kind)) (past ++ p ∷ [])) ≡ Some (schema_for kind (form_at kind (before ++ t ∷ [])))
  -- and how much the far end holds
  pub held : held_in (stream_of (pos (number_of kind)) (past ++ p ∷ [])) ≤ held_of_kind kind
