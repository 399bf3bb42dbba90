-- The histories of the states of jobs: used in private contracts.
use Rattle.std.specs.Prelude.{◌≡◌, ℕ, List}
use Rattle.otap_capture.specs.Capture.{Frame}
use Rattle.otap_consume.specs.declared.taken.Taken.{Taken}
use Rattle.otap_signals.specs.Meanings.{Meaning}
use Rattle.otap_consume.specs.Outcomes.{OutcomeAfter}
use Rattle.otap_consume.specs.Receiving.{ReceivedAfter}
use Rattle.otap_consume.specs.Segments.{SegmentIn, StandsFor}
use Rattle.otap_gateway.specs.Receptions.{as_taken}
use Rattle.otap_gateway.specs.Reply.{ReplyText}
use Rattle.otap_gateway.specs.Showing.{shown}
use Rattle.otap_gateway.specs.Replies.{Giving, Gave, replies_from}

-- a history of frames and replies, by the outcomes after which a job has its state
pub record HasRepliedBy {O : Type 0} (Gives : Giving O) (text : ℕ → O → ReplyText) (stands : List O → Type 0) (frames : List Frame) (replies : List ReplyText) : Type 0 where
  pub outcomes : List O
  pub before : Gave Gives frames outcomes
  pub so_far : replies ≡ replies_from text 0 outcomes
  pub stood : stands outcomes

-- a history of frames and replies after which a segment has its state
abbrev pub HasShown : SegmentIn → List Frame → List ReplyText → Type 0
HasShown s frames replies = HasRepliedBy (OutcomeAfter s.signal) shown (λ outcomes. StandsFor s.signal outcomes s) frames replies

-- a history of frames and replies after which a receiver has its state
abbrev pub HasReplied : Meaning → (ℕ → Taken → ReplyText) → SegmentIn → List Frame → List ReplyText → Type 0
HasReplied m text s frames replies = HasRepliedBy (ReceivedAfter m) (as_taken m text) (λ outcomes. StandsFor m.signal outcomes s) frames replies
