-- How the payloads of a batch are taken: used in private contracts.
use Rattle.std.specs.Prelude.{◌≡◌, ℕ, List, ◌++◌}
use Rattle.lists.specs.Payloads.{PayloadIn}
use Rattle.otlp_model.specs.declared.request.Signal.{Signal}
use Rattle.otap_capture.specs.Batch.{BatchContent, ReadsBatch}
use Rattle.otap_capture.specs.Capture.{Frame, Message}
use Rattle.otap_cells.specs.Weights.{weight_of_tables}
use Rattle.otap_consume.specs.declared.opened.Opened.{Opened}
use Rattle.otap_consume.specs.declared.opened.Opened.TheVariants as opened
use Rattle.otap_consume.specs.declared.seen.Seen.{Seen}
use Rattle.otap_consume.specs.declared.seen.Seen.TheVariants as seen
use Rattle.otap_consume.specs.Defects.{Accepts, tables_of}
use Rattle.otap_consume.specs.Opening.{OpensBatch, OpensFrame}
use Rattle.otap_consume.specs.Segments.{SegmentIn, Next, TakesIf}
use Rattle.otap_consume.specs.Streams.{StreamIn, AreAfter}

-- the payloads are accepted after these, and have this weight
pub record AcceptsAfter (signal : Signal) (past payloads : List PayloadIn) (new : List StreamIn) (weight : ℕ) : Type 0 where
  pub accepts : Accepts signal past payloads
  pub after : AreAfter (past ++ payloads) new
  pub rows : weight ≡ weight_of_tables (tables_of signal past payloads)

-- the next frame is the message of this batch
pub record NextBatch (old : SegmentIn) (batch : BatchContent) (new : SegmentIn) (returned : Seen) : Type 0 where
  pub at : (bytes : List ℕ) → ReadsBatch bytes batch → Next old (Message bytes) new returned

-- what such a message gives as far as the records
abbrev pub OpensMessage : SegmentIn → BatchContent → SegmentIn → Opened → Type 0
OpensMessage old batch new (opened.Batch shown) = (shown ≡ batch) × OpensBatch old batch new
OpensMessage old batch new (opened.Refused refusal) = NextBatch old batch new (seen.Refused refusal)
OpensMessage old batch new opened.Reset = ⊥

-- what the frame of a batch that the segment opened gives in the end
abbrev pub NextOpened : BatchContent → SegmentIn → SegmentIn → Seen → Type 0
NextOpened batch mid new returned =
    (old : SegmentIn) (frame : Frame) → OpensFrame old frame batch mid → Next old frame new returned × TakesIf frame new returned
