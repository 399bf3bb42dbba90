-- The histories of jobs, and what a step adds to them: used in private contracts.
use Rattle.std.specs.Prelude.{◌≡◌, ℕ, List, [], ◌∷◌, ◌++◌, length}
use Rattle.otap_capture.specs.Capture.{Frame}
use Rattle.otap_gateway.specs.Reply.{ReplyText}

-- what may be replied to a frame, after these frames and the replies to them
abbrev pub Rule : Type 1
Rule = List Frame → List ReplyText → Frame → ReplyText → Type 0

-- the frames and the replies after which a job has its state
abbrev pub History : Type 1
History = List Frame → List ReplyText → Type 0

-- After each history of the old state, the reply is one that the rule allows, and the longer history is one of the new
-- state. The frames are counted from 0.
pub record Extends (R : Rule) (old new : History) (number : ℕ) (frame : Frame) (reply : ReplyText) : Type 0 where
  pub at : (frames : List Frame) (replies : List ReplyText) → length frames ≡ number → old frames replies
      → R frames replies frame reply × new (frames ++ frame ∷ []) (replies ++ reply ∷ [])

-- each history of the old state is one of the new state
abbrev pub Stays : History → History → Type 0
Stays old new = (frames : List Frame) (replies : List ReplyText) → old frames replies → new frames replies

-- a state has a history: some frames, by their number, and replies to them
pub record HasHistory (stands : History) (number : ℕ) : Type 0 where
  pub frames : List Frame
  pub replies : List ReplyText
  pub count : length frames ≡ number
  pub stood : stands frames replies
