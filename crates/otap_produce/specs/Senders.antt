-- The senders of a signal after the tables that they sent, and the message of more tables.
use Rattle.std.specs.Prelude.{◌≡◌, ◌≤◌, ◌<◌, ◌+◌, ◌^◌, ℕ, ℤ, pos, true, List, ◌++◌, length, map, All, Option, Some, None, if◌then◌else◌}
use Rattle.std.specs.Fmt.{decimal}
use Rattle.lists.specs.Payloads.{PayloadIn}
use Rattle.otlp_model.specs.declared.request.Signal.{Signal}
use Rattle.otap_capture.specs.Batch.{batch_content, canon_batch, payloads_in}
use Rattle.otap_capture.specs.Capture.{longest_frame}
use Rattle.otap_cells.specs.declared.payload.Kind.{Kind}
use Rattle.otap_cells.specs.Payload.{kinds_of, number_of}
use Rattle.otap_cells.specs.Tables.{Table}
use Rattle.otap_cells.specs.Weights.{row_weight_limit, weight_of_tables}
use Rattle.otap_columns.specs.Limits.{tables_limit}
use Rattle.otap_columns.specs.Streams.{open_id}
use Rattle.otap_columns.specs.TableSets.{AreLaidAfter, of_kind, openings}
use Rattle.otap_columns.specs.Writers.{HasWritten, WriterIn}
use Rattle.otap_produce.specs.Policy.{IsMessageFor}
use Rattle.otap_produce.specs.TableOrder.{HaveWritable}

-- the sender of a kind: the writer of its records, and the number that is the schema id of its last payload
pub record SenderIn : Type 0 where
  pub writer : WriterIn
  pub last : ℕ

-- the senders of a segment, and how many payloads opened a sub-stream in it
pub record SendersIn : Type 0 where
  pub senders : List SenderIn
  pub openings : ℕ

-- ---- the tables that led to them

abbrev pub last_id : SenderIn → Option (List ℕ)
last_id s = if s.writer.started then Some (decimal s.last) else None

-- a sender wrote the tables of its kind among these, and the last payload of its type has its last number as schema id
pub record HasSentTables (tables : List Table) (payloads : List PayloadIn) (s : SenderIn) : Type 0 where
  pub written : HasWritten (of_kind s.writer.kind tables) s.writer
  pub last : open_id (pos (number_of s.writer.kind)) payloads ≡ last_id s
  pub before : s.writer.started ≡ true → s.last < openings payloads

abbrev pub kinds_in : List SenderIn → List Kind
kinds_in senders = map (λ s. s.writer.kind) senders

-- SENDERS THAT SENT TABLES as these payloads
pub record HaveSent (tables : List Table) (payloads : List PayloadIn) (s : SendersIn) : Type 0 where
  pub each : All (HasSentTables tables payloads) s.senders
  pub openings : s.openings ≡ openings payloads

-- some tables were sent, as some payloads
pub record HaveHistory (s : SendersIn) : Type 0 where
  pub tables : List Table
  pub payloads : List PayloadIn
  pub sent : HaveSent tables payloads s

-- ---- the tables of one more message

-- SENDERS ARE READY FOR TABLES: these are tables of their signal that can be written, in the order of its kinds and within the
-- limit on row weight, and there are numbers left for the schema ids of a message
pub record AreReadyForAll (tables : List Table) (s : SendersIn) : Type 0 where
  pub signal : Signal
  pub kinds : kinds_in s.senders ≡ kinds_of signal
  pub history : HaveHistory s
  pub writable : HaveWritable signal tables
  pub light : weight_of_tables tables ≤ row_weight_limit
  pub room : s.openings + tables_limit < 2 ^ 64

-- the message of tables, after those before them and the payloads of these, is laid out
abbrev pub IsLaidFor : List Table → List PayloadIn → List Table → List ℕ → Type 0
IsLaidFor before past tables message = AreLaidAfter before past tables (payloads_in message)

-- TABLES ARE SENT under an id: the bytes are the canonical spelling of a batch with this id, and short. Whatever tables were sent
-- before, as whatever payloads, the bytes are the message of these tables after them, and laid out; and now these are sent too.
pub record SendsMessage (number : ℤ) (tables : List Table) (old new : SendersIn) (bytes : List ℕ) : Type 0 where
  pub canonical : bytes ≡ canon_batch (batch_content bytes)
  pub id : (batch_content bytes).id ≡ number
  pub short : length bytes ≤ longest_frame
  pub message : (before : List Table) (past : List PayloadIn) → HaveSent before past old → IsMessageFor before past number tables bytes
  pub laid : (before : List Table) (past : List PayloadIn) → HaveSent before past old → IsLaidFor before past tables bytes
  pub sent : (before : List Table) (past : List PayloadIn) → HaveSent before past old → HaveSent (before ++ tables) (past ++ payloads_in bytes) new
