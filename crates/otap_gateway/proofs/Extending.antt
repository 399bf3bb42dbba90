-- A step of a job, from what its reply is.
use Rattle.std.proofs.Common.{◌≡◌, ℕ, List, [], ◌∷◌, ◌++◌, length, IfOk, Result, Ok, Err}
use Rattle.otap_capture.specs.Capture.{Frame}
use Rattle.otap_gateway.specs.Jobs.{Rule, History, Extends}
use Rattle.otap_gateway.specs.Reply.{ReplyText}

-- where the reply has P, and P is what the rule asks after each history, the step extends them
pub extends_ok : {F : Type 0} (r : Result ReplyText F) (R : Rule) (old new : History) (number : ℕ) (frame : Frame) (P : ReplyText → Type 0) → IfOk r P
    → ((reply : ReplyText) → P reply → (frames : List Frame) (replies : List ReplyText) → length frames ≡ number → old frames replies
    → R frames replies frame reply × new (frames ++ frame ∷ []) (replies ++ reply ∷ []))
    → IfOk r (Extends R old new number frame)
extends_ok (Ok reply) R old new number frame P holds step = record { at = step reply holds }
extends_ok (Err e) R old new number frame P holds step = tt
