-- The payloads of a sub-stream that holds tables plain, as those of an Arrow file, and what they are read as.
use Rattle.std.specs.Prelude.{◌≡◌, ◌≤◌, false, if◌then◌else◌, List, [], ◌∷◌, ◌++◌, Some, pos}
use Rattle.lists.specs.Payloads.{PayloadIn}
use Rattle.arrow_ipc.specs.declared.messages.IpcMessage.{IpcMessage}
use Rattle.arrow_ipc.specs.declared.messages.IpcMessage.TheVariants.{Rows}
use Rattle.arrow_ipc.specs.Batches.{BatchIn}
use Rattle.arrow_ipc.specs.Fronts.{front_of, left_of}
use Rattle.otap_cells.specs.Payload.{number_of}
use Rattle.otap_cells.specs.Tables.{Table, IsTable, SameTable}
use Rattle.otap_columns.specs.Limits.{held_of_kind}
use Rattle.otap_columns.specs.Plain.{HoldsPlain, plain_schema}
use Rattle.otap_columns.specs.Records.{IsRead}
use Rattle.otap_columns.specs.Streams.{opens, stream_of}
use Rattle.otap_columns.specs.Substreams.{held_in, logical, schema_in}
use Rattle.otap_columns.specs.WrittenPayloads.{schema_if}

-- the messages of the sub-stream that is open for the tables of a kind
abbrev pub stream_for : Table → List PayloadIn → List IpcMessage
stream_for t payloads = stream_of (pos (number_of t.kind)) payloads

-- A PAYLOAD HOLDS A TABLE PLAIN, after other payloads: the record batch of its rows, and before that, where it opens a sub-stream,
-- the schema of its columns; else this is the schema of the sub-stream that is open
pub record HoldsTable (past : List PayloadIn) (t : Table) (p : PayloadIn) : Type 0 where
  pub type : p.kind ≡ pos (number_of t.kind)
  pub table : IsTable t
  pub batch : BatchIn
  pub holds : HoldsPlain t batch
  pub messages : front_of p.bytes ≡ schema_if (opens past p) (plain_schema t) ++ Rows batch ∷ []
  pub ends : left_of p.bytes ≡ []
  pub goes_on : opens past p ≡ false → schema_in (stream_for t past) ≡ Some (plain_schema t)

-- IT IS READ AGAIN, as a table with the same cells, whose ids are stored alike; its sub-stream has the schema of the columns
pub record IsReadAgain (past : List PayloadIn) (t : Table) (p : PayloadIn) : Type 0 where
  pub read : IsRead t.kind (if opens past p then [] else stream_for t past) p.bytes
  pub table : Table
  pub gives : logical t.kind (stream_for t (past ++ p ∷ [])) ≡ Some table
  pub same : SameTable table t
  pub schema : schema_in (stream_for t (past ++ p ∷ [])) ≡ Some (plain_schema t)
  -- and how much the reader holds
  pub held : held_in (stream_for t (past ++ p ∷ [])) ≤ held_of_kind t.kind
