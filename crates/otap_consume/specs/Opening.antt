-- How a frame is opened: the stages up to the records of a batch, and then how large it is as a whole.
use Rattle.std.specs.Prelude.{◌≡◌, ◌⊎◌, ℕ, ℤ, false, List, [], ◌∷◌, ◌++◌, Option, Some, Result, Ok, Err}
use Rattle.std.specs.declared.alloc.AllocError.{AllocError}
use Rattle.lists.specs.Payloads.{PayloadIn}
use Rattle.otlp_model.specs.Weight.{weight_of}
use Rattle.otlp_model.specs.declared.request.Signal.{Signal}
use Rattle.otap_capture.specs.Batch.{BatchContent, ReadsBatch}
use Rattle.otap_capture.specs.Capture.{Frame, Message}
use Rattle.otap_cells.specs.Weights.{weight_of_tables}
use Rattle.otap_signals.specs.BySignal.{meaning_by, request_in}
use Rattle.otap_signals.specs.Meanings.{Meaning}
use Rattle.otap_consume.specs.declared.not_taken.NotTaken.{NotTaken}
use Rattle.otap_consume.specs.declared.not_taken.NotTaken.TheVariants.{Defect, Memory}
use Rattle.otap_consume.specs.declared.opened.Checked.{Checked}
use Rattle.otap_consume.specs.declared.opened.Opened.{Opened}
use Rattle.otap_consume.specs.declared.opened.Opened.TheVariants as opened
use Rattle.otap_consume.specs.declared.opened.Weighed.{Weighed}
use Rattle.otap_consume.specs.declared.refusal.Cause.{Cause}
use Rattle.otap_consume.specs.declared.refusal.Refusal.{Refusal}
use Rattle.otap_consume.specs.declared.seen.Seen.TheVariants as seen
use Rattle.otap_consume.specs.Defects.{HasFineList, HasFineRecords, IsTooLarge, IsWithinLimits, held_after, tables_of}
use Rattle.otap_consume.specs.LateStages.{HasFineRows, IsDefectOfRows}
use Rattle.otap_consume.specs.Outcomes.{Outcome, refusal_of}
use Rattle.otap_consume.specs.Receiving.{ReceivedAfter}
use Rattle.otap_consume.specs.Segments.{SegmentIn, StandsFor, Next, CanShow}
use Rattle.otap_consume.specs.Sizes.{WithinLimits}
use Rattle.otap_consume.specs.Streams.{StreamIn, AreAfter}
use Rattle.otap_consume.specs.Untaken.{SaysDefect, IsOfSize}

-- nothing is wrong with the list of payloads or with their records, after these, and the streams took them
pub record OpensAfter (signal : Signal) (past payloads : List PayloadIn) (new : List StreamIn) : Type 0 where
  pub list : HasFineList signal past payloads
  pub records : HasFineRecords signal past payloads
  pub after : AreAfter (past ++ payloads) new

-- this holds for the payloads of a batch, and the segment shows them
pub record OpensBatch (old : SegmentIn) (batch : BatchContent) (new : SegmentIn) : Type 0 where
  pub was_whole : old.broken ≡ false
  pub whole : new.broken ≡ false
  pub same : new.signal ≡ old.signal
  pub shows : CanShow new.streams batch.payloads
  pub opens : (past : List PayloadIn) → AreAfter past old.streams → OpensAfter old.signal past batch.payloads new.streams

-- and the frame is the message of the batch
pub record OpensFrame (old : SegmentIn) (frame : Frame) (batch : BatchContent) (new : SegmentIn) : Type 0 where
  pub bytes : List ℕ
  pub message : frame ≡ Message bytes
  pub reads : ReadsBatch bytes batch
  pub opens : OpensBatch old batch new

-- WHAT THE NEXT FRAME GIVES as far as the records: a batch, or the refusal or the reset that `take` returns
abbrev pub Opens : SegmentIn → Frame → SegmentIn → Opened → Type 0
Opens old frame new (opened.Batch batch) = OpensFrame old frame batch new
Opens old frame new (opened.Refused refusal) = Next old frame new (seen.Refused refusal)
Opens old frame new opened.Reset = Next old frame new seen.Reset

-- ---- how large a batch is that was opened

-- the payloads of a batch, after others, are within the limits as a whole, or too large
abbrev pub AreWithinLimits : Signal → List PayloadIn → List PayloadIn → Type 0
AreWithinLimits signal past payloads =
    IsWithinLimits signal (tables_of signal past payloads) (held_after signal (past ++ payloads))

abbrev pub AreTooLarge : Signal → List PayloadIn → List PayloadIn → Cause → Type 0
AreTooLarge signal past payloads = IsTooLarge signal (tables_of signal past payloads) (held_after signal (past ++ payloads))

-- they are within the limits, and have this row weight
pub record Weighs (signal : Signal) (past payloads : List PayloadIn) (weight : ℕ) : Type 0 where
  pub within : AreWithinLimits signal past payloads
  pub rows : weight ≡ weight_of_tables (tables_of signal past payloads)

-- or this is why not
abbrev pub StopsBySize : Signal → List PayloadIn → List PayloadIn → NotTaken → Type 0
StopsBySize signal past payloads = SaysDefect (IsOfSize (AreTooLarge signal past payloads))

-- THE PAYLOADS THAT WERE OPENED LAST ARE WEIGHED, whichever came before them: their tables, and their row weight
pub record IsWeighed (signal : Signal) (streams : List StreamIn) (payloads : List PayloadIn) (made : Weighed) : Type 0 where
  pub tables : (past : List PayloadIn) → AreAfter (past ++ payloads) streams → made.tables ≡ tables_of signal past payloads
  pub weighs : (past : List PayloadIn) → AreAfter (past ++ payloads) streams → Weighs signal past payloads made.rows
  pub limits : WithinLimits signal made.tables made.rows

-- or they are too large
abbrev pub IsOverLimit : Signal → List StreamIn → List PayloadIn → NotTaken → Type 0
IsOverLimit signal streams payloads why =
    (past : List PayloadIn) → AreAfter (past ++ payloads) streams → StopsBySize signal past payloads why

-- ---- what it gives in the end

-- what is wrong with it, after the payloads before it: it is too large, or else its rows are wrong
abbrev pub IsLateDefect : Signal → List PayloadIn → List PayloadIn → Cause → Option ℤ → Type 0
IsLateDefect signal past payloads cause payload =
    IsOfSize (AreTooLarge signal past payloads) cause payload
    ⊎ (AreWithinLimits signal past payloads × IsDefectOfRows (meaning_by signal) (tables_of signal past payloads) cause payload)

-- THE PAYLOADS THAT WERE OPENED LAST ARE CHECKED, whichever came before them: their tables, with which nothing is wrong, and
-- the tree weight of the request that they make
pub record IsChecked (signal : Signal) (streams : List StreamIn) (payloads : List PayloadIn) (made : Checked) : Type 0 where
  pub tables : (past : List PayloadIn) → AreAfter (past ++ payloads) streams → made.tables ≡ tables_of signal past payloads
  pub within : (past : List PayloadIn) → AreAfter (past ++ payloads) streams → AreWithinLimits signal past payloads
  pub limits : WithinLimits signal made.tables (weight_of_tables made.tables)
  pub fine : HasFineRows (meaning_by signal) made.tables
  pub tree : made.tree ≡ weight_of (request_in signal made.tables)

-- or something is wrong with them
abbrev pub HasLateDefect : Signal → List StreamIn → List PayloadIn → NotTaken → Type 0
HasLateDefect signal streams payloads why =
    (past : List PayloadIn) → AreAfter (past ++ payloads) streams → SaysDefect (IsLateDefect signal past payloads) why

-- its refusal, where it is not taken; out of memory is passed on
abbrev pub refusal_by : BatchContent → NotTaken → Result Refusal AllocError
refusal_by batch (Defect cause payload) = Ok (refusal_of (Some batch.id) cause payload)
refusal_by batch (Memory e) = Err e

-- the frame gives a receiver this outcome, and the segment is then the one after one more frame
pub record LeadsTo (m : Meaning) (outcomes : List Outcome) (frame : Frame) (outcome : Outcome) (new : SegmentIn) : Type 0 where
  pub gives : ReceivedAfter m outcomes frame outcome
  pub stands : StandsFor m.signal (outcomes ++ outcome ∷ []) new

-- THE OUTCOME OF THE NEXT FRAME, after all outcomes that the segment stood for
pub record NextOutcome (m : Meaning) (old : SegmentIn) (frame : Frame) (outcome : Outcome) (new : SegmentIn) : Type 0 where
  pub at : (outcomes : List Outcome) → StandsFor m.signal outcomes old → LeadsTo m outcomes frame outcome new
