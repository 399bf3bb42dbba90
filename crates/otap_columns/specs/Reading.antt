-- How a reader goes through the messages of a record: what the first message of the rest does, or why it is refused. Used in private contracts.
use Rattle.std.specs.Prelude.{◌≡◌, ℕ, Bool, true, false, not, List, [], ◌∷◌, ◌++◌, drop, ◌⊎◌, Some, ℤ, Ok, ◌<◌, length}
use Rattle.std.specs.List.{list_any}
use Rattle.lists.specs.EachAfter.{AllAfter}
use Rattle.arrow_schema.specs.declared.spec.FieldSpec.{FieldSpec}
use Rattle.arrow_schema.specs.Readable.{IsReadable}
use Rattle.arrow_ipc.specs.declared.fault.IpcFault.{IpcFault}
use Rattle.arrow_ipc.specs.declared.messages.IpcMessage.{IpcMessage}
use Rattle.arrow_ipc.specs.declared.messages.IpcMessage.TheVariants.{Schema, Dictionary, Rows}
use Rattle.arrow_ipc.specs.Batches.{BatchIn}
use Rattle.arrow_ipc.specs.Faults as ipc
use Rattle.arrow_ipc.specs.Fronts.{MessagesIn, front_of, left_of, rest_of, record_batch_in}
use Rattle.arrow_arrays.specs.Arrays.{arrays_of, arrays_check, HasFault}
use Rattle.arrow_arrays.specs.Cells.{place_of_values}
use Rattle.arrow_arrays.specs.Faults.{IsArrayFault}
use Rattle.otap_cells.specs.declared.payload.Kind.{Kind}
use Rattle.otap_columns.specs.declared.reader.messages.AnyBatch.{AnyBatch}
use Rattle.otap_columns.specs.declared.reader.messages.AnyBatch.TheVariants as any
use Rattle.otap_columns.specs.declared.refusal.ColumnRefusal.{ColumnRefusal}
use Rattle.otap_columns.specs.declared.refusal.ColumnRefusal.TheVariants.{Order, Ipc, Column, Buffers, BadIndex, Memory, DictionarySize}
use Rattle.otap_columns.specs.Dictionaries.{empty_dictionaries, all_grown, DictionaryIn, has_id, grown, grown_if, is_too_large}
use Rattle.otap_columns.specs.Known.{columns_fit}
use Rattle.otap_columns.specs.Records.{is_schema, is_rows, IsFineBatch, IsFine, HasValueFault}
use Rattle.otap_columns.specs.Substreams.{SubstreamIn, substream_in, indexes_fit}
use Rattle.otap_columns.specs.Views.{ReaderIn}
use Rattle.otap_columns.specs.Limits.{dictionary_limit}

-- the message was the first of what was left to read, and was taken off
pub record Passes (old new : MessagesIn) (m : IpcMessage) : Type 0 where
  pub front : front_of (rest_of old) ≡ m ∷ front_of (rest_of new)
  pub left : left_of (rest_of old) ≡ left_of (rest_of new)
  pub bytes : new.bytes ≡ old.bytes

-- a record batch is found again by its offset
abbrev pub FindsRows : MessagesIn → IpcMessage → Type 0
FindsRows m (Schema fields) = Unit {0}
FindsRows m (Dictionary id delta batch) = Unit {0}
FindsRows m (Rows batch) = record_batch_in (drop m.place m.bytes) ≡ Some batch

-- a schema that is read is one that can be read
abbrev pub HasReadableSchema : IpcMessage → Type 0
HasReadableSchema (Schema fields) = IsReadable fields
HasReadableSchema (Dictionary id delta batch) = Unit {0}
HasReadableSchema (Rows batch) = Unit {0}

-- a message that is no schema, by what it holds
abbrev pub IsAnyBatch : IpcMessage → AnyBatch → Type 0
IsAnyBatch (Schema fields) f = ⊥
IsAnyBatch (Dictionary id delta batch) f = f ≡ any.Dictionary id delta batch
IsAnyBatch (Rows batch) f = f ≡ any.Rows batch

-- a record batch was taken off
pub record PassesRows (old new : MessagesIn) (batch : BatchIn) : Type 0 where
  pub passes : Passes old new (Rows batch)
  pub finds : record_batch_in (drop old.place old.bytes) ≡ Some batch

-- a message that is no schema was taken off
abbrev pub PassesNext : MessagesIn → MessagesIn → AnyBatch → Type 0
PassesNext old new (any.Dictionary id delta batch) = Passes old new (Dictionary id delta batch)
PassesNext old new (any.Rows batch) = PassesRows old new batch

-- ---- what is left, by its messages and by what ends them

-- nothing is left
abbrev pub IsAtEnd : List IpcMessage → List ℕ → Type 0
IsAtEnd front left = (front ≡ []) × (left ≡ [])

-- a fault comes first
abbrev pub IsAtFault : List IpcMessage → List ℕ → IpcFault → Type 0
IsAtFault front left fault = (front ≡ []) × ipc.Stands left fault

-- a message that passes the test comes first
abbrev pub FirstPasses : (IpcMessage → Bool) → List IpcMessage → Type 0
FirstPasses p front = (m : IpcMessage) × (after : List IpcMessage) × (front ≡ m ∷ after) × (p m ≡ true)

-- why no message is given
abbrev pub RefusesNext : List IpcMessage → List ℕ → ColumnRefusal → Type 0
RefusesNext front left (Ipc fault) = IsAtFault front left fault
RefusesNext front left (Memory e) = Unit {0}
RefusesNext front left refusal = ⊥

-- why a sub-stream doesn't begin: there is no message, another one than a schema, or a fault
abbrev pub RefusesFirst : List IpcMessage → List ℕ → ColumnRefusal → Type 0
RefusesFirst front left Order = IsAtEnd front left ⊎ FirstPasses (λ m. not (is_schema m)) front
RefusesFirst front left (Ipc fault) = IsAtFault front left fault
RefusesFirst front left (Memory e) = Unit {0}
RefusesFirst front left refusal = ⊥

-- why no batch follows: there is no message, a schema, or a fault
abbrev pub RefusesOrder : List IpcMessage → List ℕ → ColumnRefusal → Type 0
RefusesOrder front left Order = IsAtEnd front left ⊎ FirstPasses is_schema front
RefusesOrder front left (Ipc fault) = IsAtFault front left fault
RefusesOrder front left (Memory e) = Unit {0}
RefusesOrder front left refusal = ⊥

-- why a record doesn't end: a message or a fault follows
abbrev pub RefusesEnd : List IpcMessage → List ℕ → ColumnRefusal → Type 0
RefusesEnd front left Order = FirstPasses (λ m. true) front
RefusesEnd front left (Ipc fault) = IsAtFault front left fault
RefusesEnd front left (Memory e) = Unit {0}
RefusesEnd front left refusal = ⊥

-- ---- what a sub-stream does with it

-- the sub-stream that a schema opens
abbrev pub opened : List FieldSpec → SubstreamIn
opened fields = record { arrays = arrays_of fields; dictionaries = empty_dictionaries (arrays_of fields) }

-- why a schema opens none
abbrev pub RefusesOpen : Kind → List FieldSpec → ColumnRefusal → Type 0
RefusesOpen kind fields Column = columns_fit kind (arrays_of fields) ≡ false
RefusesOpen kind fields (Memory e) = Unit {0}
RefusesOpen kind fields refusal = ⊥

-- after a dictionary batch
abbrev pub with_batch : ℤ → Bool → BatchIn → SubstreamIn → SubstreamIn
with_batch id delta batch s = record { arrays = s.arrays; dictionaries = all_grown id delta batch s.dictionaries }

-- a dictionary batch was taken off, and its values were taken
pub record TakesBatch (s : SubstreamIn) (old new : MessagesIn) (s' : SubstreamIn) : Type 0 where
  pub id : ℤ
  pub delta : Bool
  pub batch : BatchIn
  pub passes : Passes old new (Dictionary id delta batch)
  pub fine : IsFineBatch id delta batch s.dictionaries
  pub after : s' ≡ with_batch id delta batch s

-- why a dictionary doesn't take a batch of its own
abbrev pub RefusesValues : Bool → BatchIn → DictionaryIn → ColumnRefusal → Type 0
RefusesValues delta batch d (Buffers fault) = IsArrayFault batch (place_of_values d.kind) fault
RefusesValues delta batch d DictionarySize = dictionary_limit < length (grown delta batch d).values
RefusesValues delta batch d (Memory e) = Unit {0}
RefusesValues delta batch d refusal = ⊥

-- why dictionaries don't take a batch
abbrev pub RefusesDictionaryBatch : ℤ → Bool → BatchIn → List DictionaryIn → ColumnRefusal → Type 0
RefusesDictionaryBatch id delta batch dictionaries Order = list_any (has_id id) dictionaries ≡ false
RefusesDictionaryBatch id delta batch dictionaries (Buffers fault) = HasValueFault dictionaries id batch fault
RefusesDictionaryBatch id delta batch dictionaries DictionarySize = list_any is_too_large (all_grown id delta batch dictionaries) ≡ true
RefusesDictionaryBatch id delta batch dictionaries (Memory e) = Unit {0}
RefusesDictionaryBatch id delta batch dictionaries refusal = ⊥

-- why a dictionary doesn't take a batch of some id
abbrev pub RefusesIf : ℤ → Bool → BatchIn → DictionaryIn → ColumnRefusal → Type 0
RefusesIf id delta batch d (Buffers fault) = (has_id id d ≡ true) × IsArrayFault batch (place_of_values d.kind) fault
RefusesIf id delta batch d DictionarySize = is_too_large (grown_if id delta batch d) ≡ true
RefusesIf id delta batch d (Memory e) = Unit {0}
RefusesIf id delta batch d refusal = ⊥

-- why the first message isn't taken: it is out of order, or a dictionary batch that is refused
pub record RefusesFirstBatch (s : SubstreamIn) (front : List IpcMessage) (refusal : ColumnRefusal) : Type 0 where
  pub id : ℤ
  pub delta : Bool
  pub batch : BatchIn
  pub after : List IpcMessage
  pub first : front ≡ Dictionary id delta batch ∷ after
  pub refuses : RefusesDictionaryBatch id delta batch s.dictionaries refusal

abbrev pub RefusesMessage : SubstreamIn → List IpcMessage → List ℕ → ColumnRefusal → Type 0
RefusesMessage s front left refusal = RefusesOrder front left refusal ⊎ RefusesFirstBatch s front refusal

-- messages that a sub-stream takes, whatever it went through before; none of them is a record batch
pub record TakesAll (s : SubstreamIn) (messages : List IpcMessage) (s' : SubstreamIn) : Type 0 where
  pub plain : list_any is_rows messages ≡ false
  pub after : (before : List IpcMessage) → substream_in before ≡ Some s → substream_in (before ++ messages) ≡ Some s'
  pub each : (kind : Kind) (before : List IpcMessage) → substream_in before ≡ Some s → AllAfter (IsFine kind) before messages

-- the dictionary batches up to a record batch were taken, and this was taken off
pub record TakesFront (old : ReaderIn) (m : MessagesIn) (new : ReaderIn) (m' : MessagesIn) (batch : BatchIn) : Type 0 where
  pub messages : List IpcMessage
  pub takes : TakesAll old.substream messages new.substream
  pub front : front_of (rest_of m) ≡ messages ++ Rows batch ∷ front_of (rest_of m')
  pub left : left_of (rest_of m) ≡ left_of (rest_of m')
  pub finds : record_batch_in (drop new.place m.bytes) ≡ Some batch

-- why they weren't: some were, and the next one is refused
pub record RefusesFront (s : SubstreamIn) (front : List IpcMessage) (left : List ℕ) (refusal : ColumnRefusal) : Type 0 where
  pub messages : List IpcMessage
  pub s' : SubstreamIn
  pub takes : TakesAll s messages s'
  pub rest : List IpcMessage
  pub front_is : front ≡ messages ++ rest
  pub refuses : RefusesMessage s' rest left refusal

-- a record batch without a fault, whose indexes lead to values
pub record FitsRows (s : SubstreamIn) (batch : BatchIn) : Type 0 where
  pub fine : arrays_check batch s.arrays ≡ Ok tt
  pub indexes : indexes_fit s batch ≡ true

abbrev pub RefusesRows : SubstreamIn → BatchIn → ColumnRefusal → Type 0
RefusesRows s batch (Buffers fault) = HasFault batch s.arrays fault
RefusesRows s batch BadIndex = (arrays_check batch s.arrays ≡ Ok tt) × (indexes_fit s batch ≡ false)
RefusesRows s batch refusal = ⊥

-- why a record isn't taken whose record batch comes first
pub record RefusesAtRows (s : SubstreamIn) (front : List IpcMessage) (left : List ℕ) (refusal : ColumnRefusal) : Type 0 where
  pub batch : BatchIn
  pub after : List IpcMessage
  pub first : front ≡ Rows batch ∷ after
  pub refuses : RefusesEnd after left refusal ⊎ (IsAtEnd after left × RefusesRows s batch refusal)

-- a record was taken
pub record TakesRecord (old : ReaderIn) (m : MessagesIn) (new : ReaderIn) : Type 0 where
  pub messages : List IpcMessage
  pub batch : BatchIn
  pub takes : TakesAll old.substream messages new.substream
  pub front : front_of (rest_of m) ≡ messages ++ Rows batch ∷ []
  pub left : left_of (rest_of m) ≡ []
  pub finds : record_batch_in (drop new.place m.bytes) ≡ Some batch
  pub fits : FitsRows new.substream batch

-- why it wasn't: before its record batch, after it, or by it
pub record RefusesRecord (s : SubstreamIn) (front : List IpcMessage) (left : List ℕ) (refusal : ColumnRefusal) : Type 0 where
  pub messages : List IpcMessage
  pub s' : SubstreamIn
  pub takes : TakesAll s messages s'
  pub rest : List IpcMessage
  pub front_is : front ≡ messages ++ rest
  pub refuses : RefusesMessage s' rest left refusal ⊎ RefusesAtRows s' rest left refusal

-- the kind, and whether it is broken, are as they were
pub record KeepsReader (old new : ReaderIn) : Type 0 where
  pub kind : new.kind ≡ old.kind
  pub broken : new.broken ≡ old.broken
