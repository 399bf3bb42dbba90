-- What is wrong with a record, read after the messages of its sub-stream so far, and what a record is in which nothing is wrong.
use Rattle.std.specs.Prelude.{◌≡◌, ◌≢◌, ℕ, Bool, true, false, List, [], ◌∷◌, ◌++◌, Option, Some, None, ℤ, Ok, Any, not, ◌||◌, is_ok, ◌⊎◌}
use Rattle.std.specs.List.{list_any, list_all}
use Rattle.lists.specs.EachAfter.{AllAfter}
use Rattle.arrow_schema.specs.declared.spec.FieldSpec.{FieldSpec}
use Rattle.arrow_buffers.specs.declared.fault.BufferFault.{BufferFault}
use Rattle.arrow_ipc.specs.declared.fault.IpcFault.{IpcFault}
use Rattle.arrow_ipc.specs.declared.messages.IpcMessage.{IpcMessage}
use Rattle.arrow_ipc.specs.declared.messages.IpcMessage.TheVariants.{Schema, Dictionary, Rows}
use Rattle.arrow_ipc.specs.Batches.{BatchIn}
use Rattle.arrow_ipc.specs.Faults as ipc
use Rattle.arrow_ipc.specs.Fronts.{front_of, left_of}
use Rattle.arrow_arrays.specs.Arrays.{arrays_of, arrays_check, HasFault}
use Rattle.arrow_arrays.specs.Cells.{array_check, place_of_values}
use Rattle.arrow_arrays.specs.Faults.{IsArrayFault}
use Rattle.otap_cells.specs.declared.payload.Kind.{Kind}
use Rattle.otap_columns.specs.declared.refusal.ColumnRefusal.{ColumnRefusal}
use Rattle.otap_columns.specs.declared.refusal.ColumnRefusal.TheVariants.{Order, Ipc, Column, Buffers, BadIndex, DictionarySize, Memory}
use Rattle.otap_columns.specs.Dictionaries.{DictionaryIn, has_id, all_grown, is_too_large}
use Rattle.otap_columns.specs.Known.{columns_fit}
use Rattle.otap_columns.specs.Substreams.{SubstreamIn, schema_in, substream_in, indexes_fit}

abbrev pub is_schema : IpcMessage → Bool
is_schema (Schema fields) = true
is_schema (Dictionary id delta batch) = false
is_schema (Rows batch) = false

abbrev pub is_rows : IpcMessage → Bool
is_rows (Schema fields) = false
is_rows (Dictionary id delta batch) = false
is_rows (Rows batch) = true

-- the values of a dictionary batch have a fault, as those of a dictionary of this id
abbrev pub HasValueFault : List DictionaryIn → ℤ → BatchIn → BufferFault → Type 0
HasValueFault dictionaries id batch fault = Any (λ d. (has_id id d ≡ true) × IsArrayFault batch (place_of_values d.kind) fault) dictionaries

-- the values have no fault, if they are those of this dictionary
abbrev pub is_fine_for : ℤ → BatchIn → DictionaryIn → Bool
is_fine_for id batch d = not (has_id id d) || is_ok (array_check batch (place_of_values d.kind))

-- the buffers of a message have a fault, read in a sub-stream
abbrev pub HasBufferFault : SubstreamIn → IpcMessage → BufferFault → Type 0
HasBufferFault s (Schema fields) fault = ⊥
HasBufferFault s (Dictionary id delta batch) fault = HasValueFault s.dictionaries id batch fault
HasBufferFault s (Rows batch) fault = HasFault batch s.arrays fault

-- no buffer of the messages has a fault, each read in the sub-stream before it
abbrev pub HasFineBuffers : List IpcMessage → IpcMessage → Type 0
HasFineBuffers before m = (s : SubstreamIn) (fault : BufferFault) → substream_in before ≡ Some s → HasBufferFault s m fault → ⊥

-- THE DEFECTS OF A RECORD, whose bytes are read after the messages `past` of its sub-stream; a record that opens one is read
-- after none. Several may hold side by side. Where the messages of a sub-stream don't begin with a schema, nothing is read by one:
-- they are out of order, and only the columns of a schema among them may be wrong too.
pub data Stands (kind : Kind) (past : List IpcMessage) (bytes : List ℕ) : ColumnRefusal → Type 0 where
  -- a sub-stream begins with another message than a schema
  begins_otherwise : (m : IpcMessage) (after : List IpcMessage) → past ≡ [] → front_of bytes ≡ m ∷ after → is_schema m ≡ false → Stands kind past bytes Order
  -- a schema comes after other messages
  schema_later : (before after : List IpcMessage) (fields : List FieldSpec) → front_of bytes ≡ before ++ Schema fields ∷ after → past ++ before ≢ [] → Stands kind past bytes Order
  -- a message comes after a record batch
  more_after_rows : (before after : List IpcMessage) (batch : BatchIn) (m : IpcMessage) → front_of bytes ≡ before ++ Rows batch ∷ m ∷ after → Stands kind past bytes Order
  -- the record ends without a record batch
  no_rows : left_of bytes ≡ [] → list_any is_rows (front_of bytes) ≡ false → Stands kind past bytes Order
  -- no field has the id of a dictionary batch
  unknown_id : (before after : List IpcMessage) (id : ℤ) (delta : Bool) (batch : BatchIn) (s : SubstreamIn) → front_of bytes ≡ before ++ Dictionary id delta batch ∷ after
      → substream_in (past ++ before) ≡ Some s → list_any (has_id id) s.dictionaries ≡ false → Stands kind past bytes Order
  -- a fault comes after the last message that can be read
  ends_badly : (fault : IpcFault) → ipc.Stands (left_of bytes) fault → Stands kind past bytes (Ipc fault)
  -- a known column of a schema has a type that doesn't store its base, or an encoding that it doesn't allow
  other_type : (before after : List IpcMessage) (fields : List FieldSpec) → front_of bytes ≡ before ++ Schema fields ∷ after → columns_fit kind (arrays_of fields) ≡ false
      → Stands kind past bytes Column
  -- the buffers of a message have a fault
  bad_buffers : (before after : List IpcMessage) (m : IpcMessage) (fault : BufferFault) (s : SubstreamIn) → front_of bytes ≡ before ++ m ∷ after
      → substream_in (past ++ before) ≡ Some s → HasBufferFault s m fault → Stands kind past bytes (Buffers fault)
  -- no buffer has a fault, and an index of a record batch leads to no value, after all messages of the record
  bad_index : (before after : List IpcMessage) (batch : BatchIn) (here s : SubstreamIn) → front_of bytes ≡ before ++ Rows batch ∷ after → substream_in (past ++ before) ≡ Some here
      → AllAfter HasFineBuffers past (front_of bytes) → substream_in (past ++ front_of bytes) ≡ Some s → indexes_fit s batch ≡ false → Stands kind past bytes BadIndex
  -- a dictionary has too many values after a dictionary batch
  too_many_values : (before after : List IpcMessage) (id : ℤ) (delta : Bool) (batch : BatchIn) (s : SubstreamIn) → front_of bytes ≡ before ++ Dictionary id delta batch ∷ after
      → substream_in (past ++ before) ≡ Some s → list_any is_too_large (all_grown id delta batch s.dictionaries) ≡ true → Stands kind past bytes DictionarySize

-- what a call returns instead of a reader: a defect of the record, or out of memory
abbrev pub Refuses : Kind → List IpcMessage → List ℕ → ColumnRefusal → Type 0
Refuses kind past bytes (Memory e) = Unit {0}
Refuses kind past bytes refusal = Stands kind past bytes refusal

-- ---- records without a defect

-- a dictionary batch that dictionaries take: one has its id, its values have no fault, and they are not too many
pub record IsFineBatch (id : ℤ) (delta : Bool) (batch : BatchIn) (dictionaries : List DictionaryIn) : Type 0 where
  pub known : list_any (has_id id) dictionaries ≡ true
  pub fine : list_all (is_fine_for id batch) dictionaries ≡ true
  pub few : list_any is_too_large (all_grown id delta batch dictionaries) ≡ false

-- a message that a sub-stream takes after those before it, by what it is after them; its first message is its schema
abbrev pub IsFineIn : Kind → List IpcMessage → Option SubstreamIn → IpcMessage → Type 0
IsFineIn kind before None (Schema fields) = (before ≡ []) × (columns_fit kind (arrays_of fields) ≡ true)
IsFineIn kind before None (Dictionary id delta batch) = ⊥
IsFineIn kind before None (Rows batch) = ⊥
IsFineIn kind before (Some s) (Schema fields) = ⊥
IsFineIn kind before (Some s) (Dictionary id delta batch) = IsFineBatch id delta batch s.dictionaries
IsFineIn kind before (Some s) (Rows batch) = arrays_check batch s.arrays ≡ Ok tt

abbrev pub IsFine : Kind → List IpcMessage → IpcMessage → Type 0
IsFine kind before m = IsFineIn kind before (substream_in before) m

-- A RECORD WITHOUT A DEFECT, after the messages of its sub-stream so far
pub record IsRead (kind : Kind) (past : List IpcMessage) (bytes : List ℕ) : Type 0 where
  pub ends : left_of bytes ≡ []
  -- its one record batch is the last message
  pub before : List IpcMessage
  pub batch : BatchIn
  pub messages : front_of bytes ≡ before ++ Rows batch ∷ []
  pub only : list_any is_rows before ≡ false
  -- each message is one that the sub-stream takes after those before it
  pub each : AllAfter (IsFine kind) past (front_of bytes)
  pub after : SubstreamIn
  pub is_after : substream_in (past ++ front_of bytes) ≡ Some after
  pub indexes : indexes_fit after batch ≡ true

-- ---- each record is one or the other

-- messages that begin with a schema
abbrev pub HasSchema : List IpcMessage → Type 0
HasSchema messages = (fields : List FieldSpec) × (schema_in messages ≡ Some fields)

-- a record can come after nothing, and after these
abbrev pub CanGoOn : List IpcMessage → Type 0
CanGoOn past = (past ≡ []) ⊎ HasSchema past

-- it is read, or has a defect
abbrev pub IsJudged : Kind → List IpcMessage → List ℕ → Type 0
IsJudged kind past bytes = IsRead kind past bytes ⊎ ((refusal : ColumnRefusal) × Stands kind past bytes refusal)
