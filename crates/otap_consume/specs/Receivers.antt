-- A receiver: the segment that it keeps, and what it returns for a frame.
use Rattle.std.specs.Prelude.{◌≡◌, ℕ, ◌≤◌, ⊤, List, [], ◌∷◌, ◌++◌}
use Rattle.otlp_model.specs.Limits.{weight_limit}
use Rattle.otlp_model.specs.Weight.{weight_of}
use Rattle.otap_capture.specs.Capture.{Frame}
use Rattle.otap_cells.specs.Weights.{weight_of_tables}
use Rattle.otap_consume.specs.declared.taken.Given.{Given}
use Rattle.otap_consume.specs.declared.taken.Given.TheVariants as given
use Rattle.otap_consume.specs.declared.taken.Taken.{Taken}
use Rattle.otap_consume.specs.declared.taken.Taken.TheVariants as taken
use Rattle.otap_signals.specs.Meanings.{Meaning}
use Rattle.otap_consume.specs.Outcomes.{Outcome, Accepted, Refused, Reset}
use Rattle.otap_consume.specs.Receiving.{ReceivedAfter}
use Rattle.otap_consume.specs.Segments.{SegmentIn, StandsFor}

-- what is returned for an outcome: of a batch its id, its request, and what its rows and its request weigh
abbrev pub taken_of : Meaning → Outcome → Taken
taken_of m (Accepted batch tables) = taken.Accepted batch.id (m.request tables) (weight_of_tables tables) (weight_of (m.request tables))
taken_of m (Refused refusal) = taken.Refused refusal
taken_of m Reset = taken.Reset

-- the next frame gives an outcome, for which this is returned, and the receiver is the one after this frame too
pub record HasReceived (m : Meaning) (outcomes : List Outcome) (frame : Frame) (new : SegmentIn) (returned : Taken) : Type 0 where
  pub outcome : Outcome
  pub gives : ReceivedAfter m outcomes frame outcome
  pub reports : returned ≡ taken_of m outcome
  pub stands : StandsFor m.signal (outcomes ++ outcome ∷ []) new

pub record Receives (m : Meaning) (old : SegmentIn) (frame : Frame) (new : SegmentIn) (returned : Taken) : Type 0 where
  pub at : (outcomes : List Outcome) → StandsFor m.signal outcomes old → HasReceived m outcomes frame new returned

-- a request that is returned is within its limit
abbrev pub HasLightRequest : Taken → Type 0
HasLightRequest (taken.Accepted id request rows tree) = weight_of request ≤ weight_limit
HasLightRequest returned = ⊤

-- what is returned of a frame with the weights of its batch, if it has one
abbrev pub weighed_as : Given → ℕ → ℕ → Taken
weighed_as (given.Accepted id request) rows tree = taken.Accepted id request rows tree
weighed_as (given.Refused refusal) rows tree = taken.Refused refusal
weighed_as given.Reset rows tree = taken.Reset

-- the same as a receiver returns, but for the weights
pub record Gives (m : Meaning) (old : SegmentIn) (frame : Frame) (new : SegmentIn) (returned : Given) : Type 0 where
  pub rows : ℕ
  pub tree : ℕ
  pub receives : Receives m old frame new (weighed_as returned rows tree)

abbrev pub GivesLightRequest : Given → Type 0
GivesLightRequest returned = HasLightRequest (weighed_as returned 0 0)
