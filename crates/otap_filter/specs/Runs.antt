-- What a filter writes for the frames of a capture, and what the far end makes of it.
use Rattle.std.specs.Prelude.{◌≡◌, ◌≤◌, ◌⊎◌, ⊤, ℕ, All, true, List, []}
use Rattle.lists.specs.EachAfter.{EachAfter}
use Rattle.otlp_model.specs.Same.{SameTelemetry}
use Rattle.otlp_model.specs.Telemetry.{telemetry}
use Rattle.otlp_model.specs.declared.request.Signal.{Signal}
use Rattle.otlp_model.specs.declared.value.Pair.{Pair}
use Rattle.otap_capture.specs.Batch.{BatchContent, payloads_in}
use Rattle.otap_capture.specs.Capture.{Frame}
use Rattle.otap_cells.specs.Tables.{Table}
use Rattle.otap_cells.specs.Weights.{weight_of_tables}
use Rattle.otap_signals.specs.BySignal.{meaning_by, request_in}
use Rattle.otap_kept.specs.declared.whose.Whose.{Whose}
use Rattle.otap_kept.specs.Filtered.{filtered}
use Rattle.otap_kept.specs.Kept.{is_ordered, kept}
use Rattle.otap_consume.specs.Defects.{tables_of}
use Rattle.otap_consume.specs.Outcomes.{Outcome, Accepted}
use Rattle.otap_consume.specs.Receiving.{ReceivedAfter}
use Rattle.otap_transit.specs.Arrivals.{AreLaidSets, AreMessagesOfSets, Arrives, IsFitSet, SetArrives}
use Rattle.otap_transit.specs.Layouts.{AreLaidPayloads}
use Rattle.otap_transit.specs.Transits.{payloads_in_all}
use Rattle.otap_filter.specs.Filtering.{Answer, Answers, Batch, FrameResult, Refused, Reset, Unordered, messages_sent, outcomes_in, sets_before}

-- ---- the messages since the latest reset

-- THE MESSAGES OF A SEGMENT are those of the sets that were sent, one for each, which are fit to be sent; each message is laid out,
-- which can be said by the bytes alone; and each set arrives
pub record AreMessagesOf (of : Signal) (whose : Whose) (pair : Pair) (given : List FrameResult) : Type 0 where
  pub fit : All (IsFitSet (meaning_by of)) (sets_before of whose pair given)
  pub messages : AreMessagesOfSets (sets_before of whose pair given) (messages_sent given)
  pub laid : AreLaidSets (sets_before of whose pair given) (messages_sent given)
  pub by_bytes : AreLaidPayloads (payloads_in_all (messages_sent given))
  pub arrive : EachAfter (SetArrives (meaning_by of)) [] [] (sets_before of whose pair given) (messages_sent given)

-- ---- what is read of one message

-- the tables of a message, after the messages since the latest reset
abbrev pub tables_read : Signal → List FrameResult → List ℕ → List Table
tables_read of given message = tables_of of (payloads_in_all (messages_sent given)) (payloads_in message)

-- THE FILTER OF A BATCH ARRIVES, after frames that gave these: the message is in the format, its batch has the id, and what is read
-- of it is the filter of the telemetry of the batch's tables; the rows that are kept weigh no more than those of the batch
pub record FilterArrives (of : Signal) (whose : Whose) (pair : Pair) (given : List FrameResult) (batch : BatchContent) (tables : List Table)
    (message : List ℕ) : Type 0 where
  pub arrives : Arrives (meaning_by of) (payloads_in_all (messages_sent given)) batch.id (kept of whose pair tables) message
  pub same : SameTelemetry (filtered whose pair (telemetry (request_in of tables))) (telemetry (request_in of (tables_read of given message)))
  pub rows : weight_of_tables (kept of whose pair tables) ≤ weight_of_tables tables

-- each batch that is answered by a message
abbrev pub ArrivesIf : Signal → Whose → Pair → List FrameResult → Outcome → Answer → Type 0
ArrivesIf of whose pair given (Accepted batch tables) (Batch id message) = FilterArrives of whose pair given batch tables message
ArrivesIf of whose pair given outcome answer = ⊤

abbrev pub HasArrived : Signal → Whose → Pair → List FrameResult → FrameResult → Type 0
HasArrived of whose pair given gives = ArrivesIf of whose pair given gives.outcome gives.answer

-- ---- that there is an answer

-- the answer to an outcome is a message: the batch is accepted, and what is kept of it is ordered
abbrev pub NeedsMessage : Signal → Whose → Pair → Outcome → Type 0
NeedsMessage of whose pair (Accepted batch tables) = is_ordered of whose pair tables ≡ true
NeedsMessage of whose pair outcome = ⊥

abbrev pub HasAnswer : Signal → Whose → Pair → List FrameResult → Outcome → Type 0
HasAnswer of whose pair given outcome = (answer : Answer) × Answers of whose pair given outcome answer

-- A FRAME HAS AN OUTCOME after frames that gave these. It has an answer too; but where this is a message, nothing is said of it
pub record HasOutcome (of : Signal) (whose : Whose) (pair : Pair) (given : List FrameResult) (frame : Frame) : Type 0 where
  pub outcome : Outcome
  pub received : ReceivedAfter (meaning_by of) (outcomes_in given) frame outcome
  pub answered : NeedsMessage of whose pair outcome ⊎ HasAnswer of whose pair given outcome

-- ---- that there is no other one

-- answers of one kind, with the same id or the same refusal; messages may have other bytes
abbrev pub AreAlike : Answer → Answer → Type 0
AreAlike (Batch id message) (Batch other bytes) = id ≡ other
AreAlike (Unordered id) (Unordered other) = id ≡ other
AreAlike (Refused refusal) (Refused other) = refusal ≡ other
AreAlike Reset Reset = ⊤
AreAlike answer other = ⊥
