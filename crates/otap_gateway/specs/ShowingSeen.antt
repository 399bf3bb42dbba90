-- What `show` replies to what the segment gave: used in private contracts.
use Rattle.std.specs.Prelude.{◌≡◌, ℕ, List, [], ◌∷◌, ◌++◌}
use Rattle.otlp_model.specs.declared.request.Signal.{Signal}
use Rattle.otap_capture.specs.Batch.{BatchContent, ReadsBatch}
use Rattle.otap_capture.specs.Capture.{Frame, Message}
use Rattle.otap_cells.specs.Tables.{Table}
use Rattle.otap_consume.specs.declared.seen.Seen.{Seen}
use Rattle.otap_consume.specs.declared.seen.Seen.TheVariants as seen
use Rattle.otap_consume.specs.Defects.{tables_of}
use Rattle.otap_consume.specs.Outcomes.{Outcome, Accepted, Refused, Reset, payloads_after}
use Rattle.otap_consume.specs.Segments.{SegmentIn, StandsFor}
use Rattle.otap_gateway.specs.Lines.{printed}
use Rattle.otap_gateway.specs.Reply.{ReplyText}
use Rattle.otap_gateway.specs.Showing.{batch_text, shown}

-- a reply to a batch that the segment took last
pub record ShowsTaken (frame : Frame) (s : SegmentIn) (number : ℕ) (reply : ReplyText) : Type 0 where
  pub at : (signal : Signal) (outcomes : List Outcome) (bytes : List ℕ) (batch : BatchContent) (before : List Table) → frame ≡ Message bytes → ReadsBatch bytes batch
      → StandsFor signal (outcomes ++ Accepted batch before ∷ []) s → reply ≡ printed (batch_text number batch (tables_of signal (payloads_after outcomes) batch.payloads))

-- a reply to what the segment gave
abbrev pub ShowsSeen : Frame → SegmentIn → ℕ → Seen → ReplyText → Type 0
ShowsSeen frame s number (seen.Batch id rows) reply = ShowsTaken frame s number reply
ShowsSeen frame s number (seen.Refused refusal) reply = reply ≡ shown number (Refused refusal)
ShowsSeen frame s number seen.Reset reply = reply ≡ shown number Reset
