-- What one frame adds to the file of a sub-stream: used in the private contracts of `file`.
use Rattle.std.specs.Prelude.{◌≡◌, ◌≤◌, ◌<◌, ◌+◌, ℕ, suc, not, Bool, true, false, if◌then◌else◌, List, [], ◌∷◌, ◌++◌, length, bytes_eq, Option, Some, None, All, ⊤}
use Rattle.std.specs.Option.{option_map}
use Rattle.std.specs.List.{AllZip}
use Rattle.arrow_schema.specs.Readable.{IsReadable}
use Rattle.arrow_schema.specs.declared.spec.FieldSpec.{FieldSpec}
use Rattle.arrow_ipc.specs.declared.messages.IpcMessage.{IpcMessage}
use Rattle.arrow_ipc.specs.Batches.{BatchIn}
use Rattle.arrow_file.specs.Limits.{max_batches}
use Rattle.arrow_file.specs.Writers as writers
use Rattle.arrow_file.specs.Writers.{WriterIn}
use Rattle.otlp_model.specs.declared.request.Signal.{Signal}
use Rattle.otap_capture.specs.Batch.{BatchContent, ReadsBatch}
use Rattle.otap_capture.specs.Capture.{Frame, Message}
use Rattle.otap_cells.specs.declared.payload.Kind.{Kind}
use Rattle.otap_cells.specs.Tables.{Table, IsTable}
use Rattle.otap_columns.specs.Plain.{HoldsPlain, plain_schema}
use Rattle.otap_columns.specs.Streams.{open_id}
use Rattle.otap_columns.specs.Substreams.{logical, schema_in}
use Rattle.otap_consume.specs.Defects.{Accepts, tables_of}
use Rattle.otap_consume.specs.Outcomes.{Outcome, Accepted, OutcomeAfter, is_broken, payloads_after}
use Rattle.otap_consume.specs.Payloads.{payload_type_of}
use Rattle.otap_consume.specs.Segments.{SegmentIn, StandsFor, IsTaken}
use Rattle.otap_gateway.specs.declared.jobs.file.Position.{Position}
use Rattle.otap_gateway.specs.declared.jobs.file.Position.TheVariants.{Before, Within, After}
use Rattle.otap_gateway.specs.declared.jobs.file.Substream.{Substream}
use Rattle.otap_gateway.specs.declared.jobs.file.TableFile.{TableFile}
use Rattle.otap_gateway.specs.declared.jobs.file.TableFile.TheVariants as table_file
use Rattle.otap_gateway.specs.EncodingSteps.{HasMore}
use Rattle.otap_gateway.specs.Filing.{Files, chosen, filed, opened}
use Rattle.otap_gateway.specs.JobStates.{HasRepliedBy}
use Rattle.otap_gateway.specs.Reply.{ReplyText, Closing}

-- ---- the position, by how many sub-streams opened

abbrev pub IsPosition : ℕ → ℕ → Position → Type 0
IsPosition number count (Before others) = count + others ≡ number
IsPosition number count Within = count ≡ suc number
IsPosition number count After = suc number < count

abbrev pub is_within : Position → Bool
is_within (Before others) = false
is_within Within = true
is_within After = false

-- once one more opened
pub record Passes (old new : Position) : Type 0 where
  pub at : (number count : ℕ) → IsPosition number count old → IsPosition number (suc count) new

-- the payload with this schema id opens a sub-stream
abbrev pub opens_anew : Option (List ℕ) → List ℕ → Bool
opens_anew None id = true
opens_anew (Some current) id = not (bytes_eq current id)

-- ---- the file, by the tables

-- a writer has a record batch for each table
pub record HasBatches (tables : List Table) (writer : WriterIn) (count : ℕ) : Type 0 where
  pub first : Table
  pub others : List Table
  pub whole : tables ≡ first ∷ others
  pub batches : List BatchIn
  pub sound : All IsTable tables
  pub rows : AllZip HoldsPlain tables batches
  pub stands : writers.StandsFor (plain_schema first) batches writer
  pub readable : IsReadable (plain_schema first)
  pub counted : count ≡ length tables
  pub blocks : length writer.blocks ≡ length tables
  pub few : length tables ≤ max_batches

abbrev pub HoldsTables : List Table → TableFile → Type 0
HoldsTables tables table_file.Empty = tables ≡ []
HoldsTables tables (table_file.Written writer batches) = HasBatches tables writer batches
HoldsTables tables table_file.TooMany = max_batches < length tables

-- a file holds some tables
pub record HoldsSome (file : TableFile) : Type 0 where
  pub tables : List Table
  pub holds : HoldsTables tables file

-- one more record batch, for a table
pub record AddsBatch (t : Table) (writer : WriterIn) (count : ℕ) (new : TableFile) : Type 0 where
  pub starts : writers.StandsFor (plain_schema t) [] writer → IsReadable (plain_schema t) → count ≡ 0 → HoldsTables (t ∷ []) new
  pub goes_on : (tables : List Table) → HasBatches tables writer count → HoldsTables (tables ++ t ∷ []) new

-- one more table, whatever the file holds
pub record AddsTable (t : Table) (old new : TableFile) : Type 0 where
  pub at : (tables : List Table) → HoldsTables tables old → HoldsTables (tables ++ t ∷ []) new

-- the tables have the schema of the first
abbrev pub AreAlike : List Table → Type 0
AreAlike [] = ⊤
AreAlike (t ∷ tables) = All (λ u. plain_schema u ≡ plain_schema t) tables

-- tables that are read in one sub-stream have one schema of all columns
abbrev pub HaveOneSchema : Type 0
HaveOneSchema = (kind : Kind) (fields : List FieldSpec) (before after : List IpcMessage) (t u : Table) → schema_in before ≡ Some fields → schema_in after ≡ Some fields
    → logical kind before ≡ Some t → logical kind after ≡ Some u → plain_schema t ≡ plain_schema u

-- ---- the sub-stream, by what frames gave

-- the schema id of the type's sub-stream that is open in the segment
abbrev pub open_in : Substream → Option (List ℕ)
open_in s = option_map (λ id. id.items) s.schema_id

pub record HasFiled (kind : Kind) (number : ℕ) (outcomes : List Outcome) (s : Substream) : Type 0 where
  pub position : IsPosition number (opened kind outcomes) s.position
  pub current : open_in s ≡ open_id (payload_type_of kind) (payloads_after outcomes)
  pub file : HoldsTables (chosen kind number outcomes) s.file

-- the segment and the sub-stream after frames that gave these
pub record HasFile (kind : Kind) (number : ℕ) (segment : SegmentIn) (s : Substream) (outcomes : List Outcome) : Type 0 where
  pub frames : StandsFor segment.signal outcomes segment
  pub tables : HasFiled kind number outcomes s

abbrev pub HasFrames : Kind → ℕ → SegmentIn → Substream → List Frame → List ReplyText → Type 0
HasFrames kind number segment s frames replies = HasRepliedBy (OutcomeAfter segment.signal) filed (HasFile kind number segment s) frames replies

pub record HasSomeFile (kind : Kind) (segment : SegmentIn) (s : Substream) : Type 0 where
  pub number : ℕ
  pub outcomes : List Outcome
  pub has : HasFile kind number segment s outcomes

-- it has taken nothing
pub record IsNewSubstream (number : ℕ) (s : Substream) : Type 0 where
  pub position : s.position ≡ Before number
  pub current : s.schema_id ≡ None
  pub file : s.file ≡ table_file.Empty

-- ---- steps

-- a frame gave a batch that is accepted after these
pub record IsAcceptedBatch (signal : Signal) (outcomes : List Outcome) (frame : Frame) (batch : BatchContent) (tables : List Table) : Type 0 where
  pub bytes : List ℕ
  pub message : frame ≡ Message bytes
  pub reads : ReadsBatch bytes batch
  pub whole : is_broken outcomes ≡ false
  pub accepts : Accepts signal (payloads_after outcomes) batch.payloads
  pub same : tables ≡ tables_of signal (payloads_after outcomes) batch.payloads

-- it is the frame that the segment took last
pub record HasAccepted (frame : Frame) (segment : SegmentIn) : Type 0 where
  pub taken : IsTaken frame segment
  pub outcomes : List Outcome
  pub batch : BatchContent
  pub tables : List Table
  pub is : IsAcceptedBatch segment.signal outcomes frame batch tables
  pub stands : StandsFor segment.signal (outcomes ++ Accepted batch tables ∷ []) segment

-- the sub-stream takes it too, whatever came before
pub record TakesBatch (kind : Kind) (frame : Frame) (segment : SegmentIn) (old new : Substream) : Type 0 where
  pub at : (number : ℕ) (outcomes : List Outcome) (batch : BatchContent) (tables : List Table) → IsAcceptedBatch segment.signal outcomes frame batch tables
      → StandsFor segment.signal (outcomes ++ Accepted batch tables ∷ []) segment → HasFiled kind number outcomes old
      → HasFiled kind number (outcomes ++ Accepted batch tables ∷ []) new

-- the schema id of a payload is noted
pub record Notes (id : List ℕ) (old new : Substream) : Type 0 where
  pub position : (number count : ℕ) → IsPosition number count old.position → IsPosition number (if opens_anew (open_in old) id then suc count else count) new.position
  pub current : open_in new ≡ Some id
  pub file : new.file ≡ old.file

-- a table is added
pub record AddsRows (t : Table) (old new : Substream) : Type 0 where
  pub position : new.position ≡ old.position
  pub current : new.schema_id ≡ old.schema_id
  pub file : AddsTable t old.file new.file

-- one frame more: its outcome, whose text is the reply; the new state is the one after this outcome too
pub record TakesFrame (kind : Kind) (frame : Frame) (old new : SegmentIn) (s s' : Substream) (number : ℕ) (reply : ReplyText) : Type 0 where
  pub at : (place : ℕ) (outcomes : List Outcome) → HasFile kind place old s outcomes → HasMore (OutcomeAfter old.signal) filed (HasFile kind place new s') outcomes frame number reply

-- what is added at the end, by the tables whose schema is one
pub record ClosesFile (file : TableFile) (closing : Closing) : Type 0 where
  pub at : (tables : List Table) → HoldsTables tables file → AreAlike tables → Files tables closing
