-- What each frame of a capture gives. Nothing is kept from frame to frame: each outcome looks back over those before it.
use Rattle.std.specs.Prelude.{ℕ, ℤ, Bool, true, false, List, [], Option, Some, None, MatchBool}
use Rattle.std.specs.List.{flat_map, list_any}
use Rattle.lists.specs.EachAfter.{EachAfter}
use Rattle.lists.specs.Since.{since}
use Rattle.lists.specs.Payloads.{PayloadIn}
use Rattle.otlp_model.specs.declared.request.Signal.{Signal}
use Rattle.otap_capture.specs.declared.batch.BatchRefusal.{BatchRefusal}
use Rattle.otap_capture.specs.declared.batch.BatchRefusal.TheVariants as unread
use Rattle.otap_capture.specs.Batch.{BatchContent, ReadsBatch, RefusesBatch}
use Rattle.otap_capture.specs.Capture.{Frame, Message, Packed}
use Rattle.otap_capture.specs.Capture as capture
use Rattle.otap_cells.specs.Tables.{Table}
use Rattle.otap_consume.specs.declared.refusal.Cause.{Cause}
use Rattle.otap_consume.specs.declared.refusal.Cause.TheVariants.{Compressed, BadMessage, Repeated, BadUtf8, PayloadType, PayloadTwice, SchemaIdTaken}
use Rattle.otap_consume.specs.declared.refusal.Cause.TheVariants.{Column, TooManyItems, RowsTooHeavy, HeldTooMuch, Row, TreeTooHeavy, Broken}
use Rattle.otap_consume.specs.declared.refusal.Refusal.{Refusal}
use Rattle.otap_consume.specs.Defects.{Refuses, Accepts, tables_of}

-- a frame gives a batch with its logical tables, a refusal, or a reset
pub data Outcome : Type 0 where
  Accepted : BatchContent → List Table → Outcome
  Refused : Refusal → Outcome
  Reset : Outcome

-- the stage of a cause
abbrev pub stage_of : Cause → ℕ
stage_of Broken = 0
stage_of Compressed = 1
stage_of BadMessage = 1
stage_of Repeated = 1
stage_of BadUtf8 = 1
stage_of PayloadType = 2
stage_of PayloadTwice = 2
stage_of SchemaIdTaken = 2
stage_of (Column refusal) = 3
stage_of TooManyItems = 4
stage_of RowsTooHeavy = 4
stage_of HeldTooMuch = 4
stage_of (Row why) = 5
stage_of TreeTooHeavy = 6

abbrev pub refusal_of : Option ℤ → Cause → Option ℤ → Refusal
refusal_of id cause payload = record { id = id; stage = stage_of cause; cause = cause; payload = payload }

abbrev pub refused : Option ℤ → Cause → Option ℤ → Outcome
refused id cause payload = Refused (refusal_of id cause payload)

-- the cause of a message that can't be read
abbrev pub unread_cause : BatchRefusal → Cause
unread_cause unread.BadMessage = BadMessage
unread_cause unread.Repeated = Repeated
unread_cause unread.BadUtf8 = BadUtf8

-- ---- the segment so far

abbrev pub is_reset : Outcome → Bool
is_reset (Accepted batch tables) = false
is_reset (Refused refusal) = false
is_reset Reset = true

abbrev pub is_refused : Outcome → Bool
is_refused (Accepted batch tables) = false
is_refused (Refused refusal) = true
is_refused Reset = false

abbrev pub payloads_if : Outcome → List PayloadIn
payloads_if (Accepted batch tables) = batch.payloads
payloads_if (Refused refusal) = []
payloads_if Reset = []

-- the outcomes since the latest reset
abbrev pub segment : List Outcome → List Outcome
segment outcomes = since is_reset outcomes

-- a frame of the segment was refused
unfoldable pub is_broken : List Outcome → Bool
is_broken outcomes = list_any is_refused (segment outcomes)

-- the payloads of the accepted batches of the segment, in order
unfoldable pub payloads_after : List Outcome → List PayloadIn
payloads_after outcomes = flat_map payloads_if (segment outcomes)

-- ---- outcomes

-- WHAT A FRAME GIVES after these payloads of the accepted batches of its segment, of which no frame was refused
pub data GivesOutcome (signal : Signal) (past : List PayloadIn) : Frame → Outcome → Type 0 where
  compressed : GivesOutcome signal past Packed (refused None Compressed None)
  unreadable : (bytes : List ℕ) (refusal : BatchRefusal) → RefusesBatch bytes refusal → GivesOutcome signal past (Message bytes) (refused None (unread_cause refusal) None)
  refuses : (bytes : List ℕ) (batch : BatchContent) (cause : Cause) (payload : Option ℤ) → ReadsBatch bytes batch
      → Refuses signal past batch.payloads cause payload → GivesOutcome signal past (Message bytes) (refused (Some batch.id) cause payload)
  accepts : (bytes : List ℕ) (batch : BatchContent) → ReadsBatch bytes batch → Accepts signal past batch.payloads
      → GivesOutcome signal past (Message bytes) (Accepted batch (tables_of signal past batch.payloads))
  resets : GivesOutcome signal past capture.Reset Reset

-- what a frame gives in a broken segment: the id is named where the message can be read
pub data StaysBroken : Frame → Outcome → Type 0 where
  compressed : StaysBroken Packed (refused None Broken None)
  unreadable : (bytes : List ℕ) (refusal : BatchRefusal) → RefusesBatch bytes refusal → StaysBroken (Message bytes) (refused None Broken None)
  readable : (bytes : List ℕ) (batch : BatchContent) → ReadsBatch bytes batch → StaysBroken (Message bytes) (refused (Some batch.id) Broken None)
  resets : StaysBroken capture.Reset Reset

-- WHAT A FRAME GIVES after frames with these outcomes
abbrev pub OutcomeAfter : Signal → List Outcome → Frame → Outcome → Type 0
OutcomeAfter signal outcomes frame outcome =
    MatchBool (is_broken outcomes) (StaysBroken frame outcome) (GivesOutcome signal (payloads_after outcomes) frame outcome)

-- THE OUTCOMES of the frames of a capture
abbrev pub Outcomes : Signal → List Frame → List Outcome → Type 0
Outcomes signal frames outcomes = EachAfter (λ past before frame outcome. OutcomeAfter signal before frame outcome) [] [] frames outcomes
