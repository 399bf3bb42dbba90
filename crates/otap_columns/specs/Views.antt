-- What a reader of a sub-stream is, and what its views show.
use Rattle.std.specs.Prelude.{◌≡◌, ℕ, Bool, true, List, ◌++◌, drop, Ok, Some}
use Rattle.arrow_ipc.specs.declared.messages.IpcMessage.{IpcMessage}
use Rattle.arrow_ipc.specs.Batches.{BatchIn}
use Rattle.arrow_ipc.specs.Fronts.{front_of, record_batch_in}
use Rattle.arrow_arrays.specs.Arrays.{arrays_check}
use Rattle.otap_cells.specs.declared.payload.Kind.{Kind}
use Rattle.otap_columns.specs.Substreams.{SubstreamIn, substream_in, indexes_fit, last_rows}
use Rattle.otap_columns.specs.Records.{IsRead}

-- a reader: the kind of its tables, its sub-stream, the offset of the last record's record batch, and whether it is broken
pub record ReaderIn : Type 0 where
  pub kind : Kind
  pub substream : SubstreamIn
  pub place : ℕ
  pub broken : Bool

-- THE READER HAS READ MESSAGES: its sub-stream is the one after them
abbrev pub StandsFor : List IpcMessage → ReaderIn → Type 0
StandsFor messages r = substream_in messages ≡ Some r.substream

-- it has read messages that end with those of the record in these bytes, and finds the record's record batch there
pub record StandsForRecord (messages : List IpcMessage) (bytes : List ℕ) (r : ReaderIn) : Type 0 where
  pub stands : StandsFor messages r
  pub finds : last_rows messages ≡ record_batch_in (drop r.place bytes)

-- the bytes have a record batch without a fault at the reader's offset, and its indexes lead to values
pub record Shows (r : ReaderIn) (bytes : List ℕ) : Type 0 where
  pub batch : BatchIn
  pub found : record_batch_in (drop r.place bytes) ≡ Some batch
  pub fine : arrays_check batch r.substream.arrays ≡ Ok tt
  pub indexes : indexes_fit r.substream batch ≡ true

-- a record was taken: for all messages that the reader had read, the record has no defect after them, and then the reader
-- has read these and the record's own
abbrev pub Takes : ReaderIn → List ℕ → ReaderIn → Type 0
Takes old bytes new = (past : List IpcMessage) → StandsFor past old → IsRead old.kind past bytes × StandsForRecord (past ++ front_of bytes) bytes new
