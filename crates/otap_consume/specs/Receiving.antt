-- What each frame of a capture gives a receiver: what it gives a segment, and of a batch that the segment takes, whether a later
-- stage refuses it.
use Rattle.std.specs.Prelude.{◌≡◌, ℕ, ℤ, List, [], Option, None, Some}
use Rattle.lists.specs.EachAfter.{EachAfter}
use Rattle.lists.specs.Payloads.{PayloadIn}
use Rattle.otap_capture.specs.declared.batch.BatchRefusal.{BatchRefusal}
use Rattle.otap_capture.specs.Batch.{BatchContent, ReadsBatch, RefusesBatch}
use Rattle.otap_capture.specs.Capture.{Frame, Message, Packed}
use Rattle.otap_cells.specs.Tables.{Table}
use Rattle.otap_consume.specs.declared.refusal.Cause.{Cause}
use Rattle.otap_consume.specs.declared.refusal.Cause.TheVariants.{Compressed}
use Rattle.otap_consume.specs.declared.refusal.Refusal.{Refusal}
use Rattle.otap_consume.specs.Defects.{Refuses, Accepts, tables_of}
use Rattle.otap_signals.specs.Meanings.{Meaning}
use Rattle.otap_consume.specs.LateStages.{IsDefectOfRows, HasFineRows}
use Rattle.otap_consume.specs.Outcomes.{Outcome, Accepted, Refused, Reset, OutcomeAfter, refused, unread_cause}

-- WHAT IS MADE OF AN OUTCOME of the stages 0 to 4: a batch stays accepted, or a later stage refuses it
pub data Settles (m : Meaning) : Outcome → Outcome → Type 0 where
  accepted : (batch : BatchContent) (tables : List Table) → HasFineRows m tables → Settles m (Accepted batch tables) (Accepted batch tables)
  refuses : (batch : BatchContent) (tables : List Table) (cause : Cause) (payload : Option ℤ) → IsDefectOfRows m tables cause payload
      → Settles m (Accepted batch tables) (refused (Some batch.id) cause payload)
  stays_refused : (refusal : Refusal) → Settles m (Refused refusal) (Refused refusal)
  resets : Settles m Reset Reset

-- WHAT A FRAME GIVES A RECEIVER after frames with these outcomes
pub record ReceivedAfter (m : Meaning) (outcomes : List Outcome) (frame : Frame) (outcome : Outcome) : Type 0 where
  pub seen : Outcome
  pub gives : OutcomeAfter m.signal outcomes frame seen
  pub settles : Settles m seen outcome

-- THE OUTCOMES of the frames of a capture
abbrev pub Received : Meaning → List Frame → List Outcome → Type 0
Received m frames outcomes = EachAfter (λ past before frame outcome. ReceivedAfter m before frame outcome) [] [] frames outcomes

-- ---- the format

-- WHAT IS WRONG WITH A FRAME after these payloads of the accepted batches of its segment, by cause and payload type. A stage finds
-- something wrong only where no earlier stage does
pub data HasDefect (m : Meaning) (past : List PayloadIn) : Frame → Cause → Option ℤ → Type 0 where
  compressed : HasDefect m past Packed Compressed None
  unreadable : (bytes : List ℕ) (refusal : BatchRefusal) → RefusesBatch bytes refusal → HasDefect m past (Message bytes) (unread_cause refusal) None
  early : (bytes : List ℕ) (batch : BatchContent) (cause : Cause) (payload : Option ℤ) → ReadsBatch bytes batch → Refuses m.signal past batch.payloads cause payload
      → HasDefect m past (Message bytes) cause payload
  late : (bytes : List ℕ) (batch : BatchContent) (cause : Cause) (payload : Option ℤ) → ReadsBatch bytes batch → Accepts m.signal past batch.payloads
      → IsDefectOfRows m (tables_of m.signal past batch.payloads) cause payload → HasDefect m past (Message bytes) cause payload

-- A FRAME IS IN THE FORMAT: it is a message with which nothing is wrong in any stage
pub record IsInFormat (m : Meaning) (past : List PayloadIn) (frame : Frame) : Type 0 where
  pub bytes : List ℕ
  pub message : frame ≡ Message bytes
  pub fine : (cause : Cause) (payload : Option ℤ) → HasDefect m past frame cause payload → ⊥
