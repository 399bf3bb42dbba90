-- Replies that are the texts of what frames gave.
use Rattle.std.specs.Prelude.{◌≡◌, ℕ, suc, List, [], ◌∷◌, length}
use Rattle.lists.specs.EachAfter.{EachAfter}
use Rattle.otap_capture.specs.Capture.{Frame}
use Rattle.otap_gateway.specs.Reply.{ReplyText}

-- what a frame may give after frames that gave these
abbrev pub Giving : Type 0 → Type 1
Giving O = List O → Frame → O → Type 0

-- what frames gave, one after the other
abbrev pub Gave : {O : Type 0} → Giving O → List Frame → List O → Type 0
Gave Gives frames outcomes = EachAfter (λ past before frame outcome. Gives before frame outcome) [] [] frames outcomes

-- the texts of outcomes, which are counted from a number on
abbrev pub replies_from : {O : Type 0} → (ℕ → O → ReplyText) → ℕ → List O → List ReplyText
replies_from text number [] = []
replies_from text number (outcome ∷ outcomes) = text number outcome ∷ replies_from text (suc number) outcomes

-- WHAT A JOB REPLIES TO A FRAME after these: the text of what the frame gives after what those gave, by outcomes that gave the
-- replies so far
pub record IsReplyAfter {O : Type 0} (Gives : Giving O) (text : ℕ → O → ReplyText) (frames : List Frame) (replies : List ReplyText) (frame : Frame) (reply : ReplyText) : Type 0 where
  pub outcomes : List O
  pub before : Gave Gives frames outcomes
  pub so_far : replies ≡ replies_from text 0 outcomes
  pub outcome : O
  pub gives : Gives outcomes frame outcome
  pub says : reply ≡ text (length frames) outcome
