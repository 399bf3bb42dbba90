-- What the far end makes of the messages of a segment.
use Rattle.std.specs.Prelude.{◌≡◌, ℕ, pos, List, length}
use Rattle.std.specs.List.{flat_map}
use Rattle.lists.specs.Payloads.{PayloadIn}
use Rattle.otlp_model.specs.Same.{Same}
use Rattle.otlp_model.specs.declared.request.Request.{Request}
use Rattle.otap_capture.specs.Batch.{ReadsBatch, batch_content, payloads_in}
use Rattle.otap_capture.specs.Capture.{Message}
use Rattle.otap_cells.specs.Tables.{Table}
use Rattle.otap_consume.specs.Defects.{tables_of}
use Rattle.otap_signals.specs.Meanings.{Meaning}
use Rattle.otap_consume.specs.Receiving.{IsInFormat}

-- the payloads of messages, in order
abbrev pub payloads_in_all : List (List ℕ) → List PayloadIn
payloads_in_all messages = flat_map payloads_in messages

-- the tables of a message, after the messages of its segment before it
abbrev pub tables_after : Meaning → List (List ℕ) → List ℕ → List Table
tables_after m messages message = tables_of m.signal (payloads_in_all messages) (payloads_in message)

-- A MESSAGE IS RECEIVED AS A REQUEST, after the requests and the messages of its segment before it: it is in the format, its
-- batch id is the number of those before it, and what its tables mean is the same telemetry
pub record IsReceivedAs (m : Meaning) (requests : List Request) (messages : List (List ℕ)) (request : Request) (message : List ℕ) : Type 0 where
  pub format : IsInFormat m (payloads_in_all messages) (Message message)
  pub reads : ReadsBatch message (batch_content message)
  pub id : (batch_content message).id ≡ pos (length requests)
  pub same : Same request (m.request (tables_after m messages message))
