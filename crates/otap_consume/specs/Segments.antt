-- A segment: its open sub-streams, or that an earlier frame was refused.
use Rattle.std.specs.Prelude.{◌≡◌, ⊤, ℕ, Bool, false, List, [], ◌∷◌, ◌++◌, length, All}
use Rattle.lists.specs.Payloads.{PayloadIn}
use Rattle.otlp_model.specs.declared.request.Signal.{Signal}
use Rattle.otap_capture.specs.Batch.{BatchContent, ReadsBatch}
use Rattle.otap_capture.specs.Capture.{Frame, Message}
use Rattle.otap_cells.specs.Payload.{kinds_of}
use Rattle.otap_cells.specs.Tables.{Table}
use Rattle.otap_cells.specs.Weights.{weight_of_tables}
use Rattle.otap_consume.specs.declared.seen.Seen.{Seen}
use Rattle.otap_consume.specs.declared.seen.Seen.TheVariants as seen
use Rattle.otap_consume.specs.Defects.{tables_of}
use Rattle.otap_consume.specs.Outcomes.{Outcome, Accepted, Refused, Reset, OutcomeAfter, is_broken, payloads_after}
use Rattle.otap_consume.specs.PayloadTypes.{HasFineTypes}
use Rattle.otap_consume.specs.Streams.{StreamIn, AreAfter, kinds_in, ShowsAfter}

pub record SegmentIn : Type 0 where
  pub signal : Signal
  pub broken : Bool
  pub streams : List StreamIn

-- THE SEGMENT AFTER FRAMES with these outcomes: a frame since the latest reset was refused, or its streams are those
-- after the payloads that were accepted since
pub record StandsFor (signal : Signal) (outcomes : List Outcome) (s : SegmentIn) : Type 0 where
  pub same : s.signal ≡ signal
  pub broken : s.broken ≡ is_broken outcomes
  pub streams : s.broken ≡ false → AreAfter (payloads_after outcomes) s.streams

-- what is returned for an outcome: of a batch its id and its row weight
abbrev pub ReportsOutcome : Outcome → Seen → Type 0
ReportsOutcome (Accepted batch tables) (seen.Batch id rows) = (id ≡ batch.id) × (rows ≡ weight_of_tables tables)
ReportsOutcome (Refused refusal) (seen.Refused reported) = reported ≡ refusal
ReportsOutcome Reset seen.Reset = ⊤
ReportsOutcome outcome returned = ⊥

-- the next frame gives an outcome, which is returned, and the segment is the one after this frame too
pub record HasNext (signal : Signal) (outcomes : List Outcome) (frame : Frame) (returned : Seen) (new : SegmentIn) : Type 0 where
  pub outcome : Outcome
  pub gives : OutcomeAfter signal outcomes frame outcome
  pub reports : ReportsOutcome outcome returned
  pub stands : StandsFor signal (outcomes ++ outcome ∷ []) new

pub record Next (old : SegmentIn) (frame : Frame) (new : SegmentIn) (returned : Seen) : Type 0 where
  pub at : (signal : Signal) (outcomes : List Outcome) → StandsFor signal outcomes old → HasNext signal outcomes frame returned new

-- the streams show the records of these payloads: of each type there is one, and it was taken last
pub record CanShow (streams : List StreamIn) (payloads : List PayloadIn) : Type 0 where
  pub signal : Signal
  pub kinds : kinds_in streams ≡ kinds_of signal
  pub types : HasFineTypes signal payloads
  pub shows : All (ShowsAfter payloads) streams

-- the message is a batch, and the segment shows it
pub record HasTaken (bytes : List ℕ) (s : SegmentIn) : Type 0 where
  pub batch : BatchContent
  pub reads : ReadsBatch bytes batch
  pub whole : s.broken ≡ false
  pub shows : CanShow s.streams batch.payloads

abbrev pub IsTaken : Frame → SegmentIn → Type 0
IsTaken (Message bytes) s = HasTaken bytes s
IsTaken frame s = ⊥

-- where a batch is returned, it is taken
abbrev pub TakesIf : Frame → SegmentIn → Seen → Type 0
TakesIf frame s (seen.Batch id rows) = IsTaken frame s
TakesIf frame s returned = ⊤

-- the tables of the payloads that were taken last, wherever these are those of the last batch
pub record TablesOf (s : SegmentIn) (payloads : List PayloadIn) (tables : List Table) : Type 0 where
  pub long : length tables ≡ length payloads
  pub are : (signal : Signal) (outcomes : List Outcome) (batch : BatchContent) (before : List Table) → batch.payloads ≡ payloads
      → StandsFor signal (outcomes ++ Accepted batch before ∷ []) s → tables ≡ tables_of signal (payloads_after outcomes) payloads

-- a segment that has taken no frame
pub record IsNew (signal : Signal) (s : SegmentIn) : Type 0 where
  pub same : s.signal ≡ signal
  pub whole : s.broken ≡ false
  pub empty : AreAfter [] s.streams
