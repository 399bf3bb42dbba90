-- What the views keep: parts that lie in the bytes.
use Rattle.std.specs.Prelude.{◌≡◌, ◌≤◌, true, length, map, Option, None, Some}
use Rattle.std.specs.List.{list_all}
use Rattle.flat_tables.specs.Tables.{VectorIn}
use Rattle.arrow_ipc.specs.declared.batch.BatchView.TheInside as batch
use Rattle.arrow_ipc.specs.declared.messages.Messages.TheInside as messages
use Rattle.arrow_ipc.specs.Fronts.{MessagesIn}
use Rattle.arrow_ipc.specs.Batches.{BatchIn, structs_of, lies_in, buffer_of}

abbrev pub batch_in : batch.Inside → BatchIn
batch_in b = record { rows = b.rows; nodes = structs_of b.nodes; buffers = map (buffer_of b.body.now) (structs_of b.buffers) }

-- a vector of structs of two 64-bit numbers
abbrev pub HasPairs : Option VectorIn → Type 0
HasPairs None = Unit {0}
HasPairs (Some v) = v.width ≡ 16

-- each buffer lies in the body
pub record IsBatchInside (b : batch.Inside) : Type 0 where
  pub nodes : HasPairs b.nodes
  pub buffers : HasPairs b.buffers
  pub inside : list_all (lies_in (length b.body.now)) (structs_of b.buffers) ≡ true

abbrev pub messages_in : messages.Inside → MessagesIn
messages_in m = record { bytes = m.bytes.now; place = m.place; ended = m.ended }

-- the offset is in the bytes
pub record IsMessagesInside (m : messages.Inside) : Type 0 where
  pub place : m.place ≤ length m.bytes.now
