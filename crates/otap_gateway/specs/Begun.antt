-- What is written where something stops a run whose last reply may be only begun.
use Rattle.std.specs.Prelude.{ℕ, List, [], ◌∷◌, ◌++◌, IfSome, None, Some}
use Rattle.std.specs.declared.option.Option.{Option}
use Rattle.lists.specs.EachAfter.{EachAfter}
use Rattle.otap_capture.specs.Capture.{Frame}
use Rattle.otap_capture.specs.Outside.{AppendsFront}
use Rattle.otap_gateway.specs.Jobs.{Rule}
use Rattle.otap_gateway.specs.Reply.{ReplyText, out_text, err_text}
use Rattle.otap_gateway.specs.Runs.{Sinks, BeginsWith}

-- a frame, and the first pieces of a reply to it
pub record Begun : Type 0 where
  pub frame : Frame
  pub reply : ReplyText

abbrev pub begun_frames : Option Begun → List Frame
begun_frames None = []
begun_frames (Some b) = b.frame ∷ []

abbrev pub begun_out : Option Begun → List ℕ
begun_out None = []
begun_out (Some b) = b.reply.out

abbrev pub begun_err : Option Begun → List ℕ
begun_err None = []
begun_err (Some b) = b.reply.err

-- Something stopped the run: each sink grew by a front of the texts of the first frames of the capture, of which the last
-- may have a reply that is only begun. R says what may be replied, and B what may be begun.
pub record WritesBegun (R B : Rule) (left : Option (List ℕ)) (old new : Sinks) : Type 0 where
  pub frames : List Frame
  pub replies : List ReplyText
  pub begun : Option Begun
  pub begins : IfSome left (λ bytes. BeginsWith bytes (frames ++ begun_frames begun))
  pub texts : EachAfter R [] [] frames replies
  pub allowed : IfSome begun (λ b. B frames replies b.frame b.reply)
  pub out : AppendsFront old.out.written new.out.written (out_text replies ++ begun_out begun)
  pub err : AppendsFront old.err.written new.err.written (err_text replies ++ begun_err begun)
