-- What a sub-stream is after some of its messages: the arrays of its schema, and its dictionaries.
use Rattle.std.specs.Prelude.{ℕ, Bool, true, nat_lt, List, [], ◌∷◌, length, Option, Some, None, option_map, slice_get, slice_index_or}
use Rattle.std.specs.List.{flat_map}
use Rattle.byteorder.specs.Endian.{little_number}
use Rattle.lists.specs.Since.{last_after}
use Rattle.arrow_schema.specs.declared.spec.ArrowType.{ArrowType}
use Rattle.arrow_schema.specs.declared.spec.DictSpec.{DictSpec}
use Rattle.arrow_schema.specs.declared.spec.FieldSpec.{FieldSpec}
use Rattle.arrow_buffers.specs.Below.{all_below}
use Rattle.arrow_ipc.specs.declared.messages.IpcMessage.{IpcMessage}
use Rattle.arrow_ipc.specs.declared.messages.IpcMessage.TheVariants.{Schema, Dictionary, Rows}
use Rattle.arrow_ipc.specs.Batches.{BatchIn}
use Rattle.arrow_arrays.specs.declared.spec.ArraySpec.{ArraySpec}
use Rattle.arrow_arrays.specs.Arrays.{arrays_of, cell_of}
use Rattle.otap_cells.specs.declared.payload.Kind.{Kind}
use Rattle.otap_cells.specs.Cells.{Cell}
use Rattle.otap_cells.specs.Columns.{base_at}
use Rattle.otap_cells.specs.Tables.{Table, table_by}
use Rattle.otap_columns.specs.Dictionaries.{DictionaryIn, dictionaries_in, values_for, held_weight}
use Rattle.otap_columns.specs.Known.{place_at, column_coding, column_greatest, stored_cell}

pub record SubstreamIn : Type 0 where
  pub arrays : List ArraySpec
  pub dictionaries : List DictionaryIn

-- the schema of a stream: its first message, where that is one
abbrev pub schema_in : List IpcMessage → Option (List FieldSpec)
schema_in [] = None
schema_in (Schema fields ∷ messages) = Some fields
schema_in (Dictionary id delta batch ∷ messages) = None
schema_in (Rows batch ∷ messages) = None

-- THE SUB-STREAM AFTER MESSAGES; there is none where they don't begin with a schema
abbrev pub substream_of : List IpcMessage → List FieldSpec → SubstreamIn
substream_of messages fields = record { arrays = arrays_of fields; dictionaries = dictionaries_in (arrays_of fields) messages }

unfoldable pub substream_in : List IpcMessage → Option SubstreamIn
substream_in messages = option_map (substream_of messages) (schema_in messages)

-- what a sub-stream holds
abbrev pub held_if : Option SubstreamIn → ℕ
held_if None = 0
held_if (Some s) = held_weight s.dictionaries

unfoldable pub held_in : List IpcMessage → ℕ
held_in messages = held_if (substream_in messages)

-- ---- cells

-- the value at an index
abbrev pub value_by_index : List (Option (List ℕ)) → Option (List ℕ) → Option (List ℕ)
value_by_index values None = None
value_by_index values (Some index) = slice_index_or values (little_number (length index) index) None

-- an index is below a number; null is no index
abbrev pub is_index_below : ℕ → Option (List ℕ) → Bool
is_index_below count None = true
is_index_below count (Some index) = nat_lt (little_number (length index) index) count

-- what is in a field: with a dictionary the value at the index
abbrev pub replaced : List DictionaryIn → ArrowType → Option DictSpec → Option (List ℕ) → Option (List ℕ)
replaced dictionaries kind None cell = cell
replaced dictionaries kind (Some dict) cell = value_by_index (values_for kind dict.id dictionaries) cell

abbrev pub field_value : SubstreamIn → BatchIn → ℕ → ℕ → Option ArraySpec → Option (List ℕ)
field_value s batch row place None = None
field_value s batch row place (Some a) = replaced s.dictionaries a.kind a.dict (cell_of s.arrays batch place row)

-- the value in a row of a known column; a column that is missing is null in each row
abbrev pub value_if : SubstreamIn → BatchIn → ℕ → Option ℕ → Option (List ℕ)
value_if s batch row None = None
value_if s batch row (Some place) = field_value s batch row place (slice_get s.arrays place)

unfoldable pub column_value : Kind → SubstreamIn → BatchIn → ℕ → ℕ → Option (List ℕ)
column_value kind s batch column row = value_if s batch row (place_at kind s.arrays column)

-- THE CELL of a known column and a row
unfoldable pub column_cell : Kind → SubstreamIn → BatchIn → ℕ → ℕ → Cell
column_cell kind s batch column row = stored_cell (base_at kind column) (column_value kind s batch column row)

-- the table of a record batch, read in a sub-stream; its schema says how ids are stored
unfoldable pub table_of_batch : Kind → SubstreamIn → BatchIn → Table
table_of_batch kind s batch = table_by kind (column_coding kind s.arrays) (column_greatest kind s.arrays) batch.rows (column_cell kind s batch)

-- ---- indexes

-- each index of a field leads to a value
abbrev pub field_fits : SubstreamIn → BatchIn → ℕ → ArrowType → Option DictSpec → Bool
field_fits s batch place kind None = true
field_fits s batch place kind (Some dict) = all_below (λ row. is_index_below (length (values_for kind dict.id s.dictionaries)) (cell_of s.arrays batch place row)) batch.rows

abbrev pub field_fits_if : SubstreamIn → BatchIn → ℕ → Option ArraySpec → Bool
field_fits_if s batch place None = true
field_fits_if s batch place (Some a) = field_fits s batch place a.kind a.dict

-- each index of each field, known or not, leads to a value
unfoldable pub indexes_fit : SubstreamIn → BatchIn → Bool
indexes_fit s batch = all_below (λ place. field_fits_if s batch place (slice_get s.arrays place)) (length s.arrays)

-- ---- the table that a stream ends with

abbrev pub record_batches : IpcMessage → List BatchIn
record_batches (Schema fields) = []
record_batches (Dictionary id delta batch) = []
record_batches (Rows batch) = batch ∷ []

-- the last record batch
unfoldable pub last_rows : List IpcMessage → Option BatchIn
last_rows messages = last_after None (flat_map record_batches messages)

abbrev pub table_if : Kind → Option SubstreamIn → Option BatchIn → Option Table
table_if kind None batch = None
table_if kind (Some s) None = None
table_if kind (Some s) (Some batch) = Some (table_of_batch kind s batch)

-- THE LOGICAL TABLE of the payload whose messages end a stream: its last record batch, read with the stream's schema and
-- with the dictionaries after all of its messages
unfoldable pub logical : Kind → List IpcMessage → Option Table
logical kind messages = table_if kind (substream_in messages) (last_rows messages)
