-- What a receiver makes of a batch that its segment opened: used in private contracts.
use Rattle.std.specs.Prelude.{ℕ, List, ◌++◌}
use Rattle.lists.specs.Payloads.{PayloadIn}
use Rattle.otlp_model.specs.declared.request.Signal.{Signal}
use Rattle.otap_capture.specs.Batch.{BatchContent}
use Rattle.otap_capture.specs.Capture.{Frame}
use Rattle.otap_signals.specs.BySignal.{meaning_by}
use Rattle.otap_signals.specs.Regroups.{IsRegrouped}
use Rattle.otap_signals.specs.declared.regrouped.Regrouped.{Regrouped}
use Rattle.otap_consume.specs.declared.taken.Given.{Given}
use Rattle.otap_consume.specs.declared.taken.Taken.{Taken}
use Rattle.otap_consume.specs.Defects.{tables_of}
use Rattle.otap_consume.specs.Opening.{OpensFrame, Weighs}
use Rattle.otap_consume.specs.Receivers.{Gives, Receives}
use Rattle.otap_consume.specs.Segments.{SegmentIn}
use Rattle.otap_consume.specs.Streams.{StreamIn, AreAfter}

-- nothing is wrong with it: its row weight, and the request of its tables
pub record MakesRequest (signal : Signal) (past payloads : List PayloadIn) (rows : ℕ) (kept : Regrouped) : Type 0 where
  pub weighs : Weighs signal past payloads rows
  pub is : IsRegrouped (meaning_by signal) (tables_of signal past payloads) kept

-- what the frame of a batch that the segment opened gives a receiver
abbrev pub ReceivesOpened : BatchContent → SegmentIn → SegmentIn → Taken → Type 0
ReceivesOpened batch mid new returned =
    (old : SegmentIn) (frame : Frame) → OpensFrame old frame batch mid → Receives (meaning_by old.signal) old frame new returned

-- the same, whichever payloads came before, with a row weight that isn't counted
pub record MakesUnweighed (signal : Signal) (streams : List StreamIn) (payloads : List PayloadIn) (kept : Regrouped) : Type 0 where
  pub rows : ℕ
  pub makes : (past : List PayloadIn) → AreAfter (past ++ payloads) streams → MakesRequest signal past payloads rows kept

-- and what its frame gives where nobody asks for weights
abbrev pub GivesOpened : BatchContent → SegmentIn → SegmentIn → Given → Type 0
GivesOpened batch mid new returned =
    (old : SegmentIn) (frame : Frame) → OpensFrame old frame batch mid → Gives (meaning_by old.signal) old frame new returned
