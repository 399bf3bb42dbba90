-- A filter: the pair that it looks for, the segment that it reads, and what it sent of it.
use Rattle.std.specs.Prelude.{◌≡◌, ⊤, ℕ, true, false, List, [], ◌∷◌, ◌++◌, length}
use Rattle.otlp_model.specs.declared.request.Signal.{Signal}
use Rattle.otlp_model.specs.declared.request.Signal.TheVariants.{Metrics}
use Rattle.otlp_model.specs.declared.value.Pair.{Pair}
use Rattle.otap_capture.specs.Capture.{Frame}
use Rattle.otap_kept.specs.declared.whose.Whose.{Whose}
use Rattle.otap_kept.specs.declared.whose.Whose.TheVariants.{Item}
use Rattle.otap_consume.specs.Segments.{SegmentIn}
use Rattle.otap_consume.specs.Segments as segments
use Rattle.otap_produce.specs.Senders.{HaveSent, SendersIn}
use Rattle.otap_transit.specs.Arrivals.{tables_in_all}
use Rattle.otap_transit.specs.Transits.{payloads_in_all}
use Rattle.otap_filter.specs.declared.filtered.Filtered.{Filtered}
use Rattle.otap_filter.specs.declared.filtered.Filtered.TheVariants as filtered
use Rattle.otap_filter.specs.Filtering.{Answer, Batch, FiltersAfter, FrameResult, Refused, Reset, Unordered, messages_sent, outcomes_in, sets_before}

-- the items of a signal have pairs of their own, or those of their resources are looked at; a metric has none
abbrev pub HasPairs : Signal → Whose → Type 0
HasPairs Metrics Item = ⊥
HasPairs of whose = ⊤

pub record FilterIn : Type 0 where
  pub whose : Whose
  pub pair : Pair
  pub segment : SegmentIn
  pub sent : SendersIn
  pub batches : ℕ

-- A FILTER AFTER FRAMES that gave these: it looks for the pair, its segment is the one after their outcomes, it counts the messages
-- since the latest reset, and, where no frame since then was refused, it sent these messages
pub record StandsFor (of : Signal) (by : Whose) (sought : Pair) (given : List FrameResult) (f : FilterIn) : Type 0 where
  pub whose : f.whose ≡ by
  pub pair : f.pair ≡ sought
  pub segment : segments.StandsFor of (outcomes_in given) f.segment
  pub batches : f.batches ≡ length (messages_sent given)
  pub sent : f.segment.broken ≡ false → HaveSent (tables_in_all (sets_before of by sought given)) (payloads_in_all (messages_sent given)) f.sent

-- ---- one more frame

-- what is returned, as an answer
abbrev pub answer_of : Filtered → Answer
answer_of (filtered.Batch id bytes) = Batch id bytes.items
answer_of (filtered.Unordered id) = Unordered id
answer_of (filtered.Refused refusal) = Refused refusal
answer_of filtered.Reset = Reset

-- the next frame gives this, and the filter is the one after this frame too
pub record LeadsTo (of : Signal) (whose : Whose) (pair : Pair) (given : List FrameResult) (frame : Frame) (next : FrameResult) (new : FilterIn) : Type 0 where
  pub gives : FiltersAfter of whose pair given frame next
  pub stands : StandsFor of whose pair (given ++ next ∷ []) new

-- its answer is the one that is returned
pub record HasFiltered (of : Signal) (whose : Whose) (pair : Pair) (given : List FrameResult) (frame : Frame) (new : FilterIn) (answer : Answer) : Type 0 where
  pub gives : FrameResult
  pub leads : LeadsTo of whose pair given frame gives new
  pub answers : gives.answer ≡ answer

-- THE NEXT FRAME IS FILTERED, whatever frames came before it, and whatever these gave
pub record Filters (old : FilterIn) (frame : Frame) (new : FilterIn) (answer : Answer) : Type 0 where
  pub at : (of : Signal) (whose : Whose) (pair : Pair) (given : List FrameResult) → StandsFor of whose pair given old
      → HasFiltered of whose pair given frame new answer

-- ---- what stays

-- the signal, whose pairs, and the pair
pub record HasSameRule (old new : FilterIn) : Type 0 where
  pub signal : new.segment.signal ≡ old.segment.signal
  pub whose : new.whose ≡ old.whose
  pub pair : new.pair ≡ old.pair

-- memory ran out: the filter is broken, and it counts the messages that were returned
pub record RanOut (old new : FilterIn) : Type 0 where
  pub broken : new.segment.broken ≡ true
  pub batches : new.batches ≡ old.batches
