-- What `show` and the jobs of a receiver write of one capture.
use Rattle.std.specs.Prelude.{⊤, ◌≤◌, List, [], All}
use Rattle.lists.specs.EachAfter.{EachAfter}
use Rattle.otap_capture.specs.Capture.{Frame}
use Rattle.otap_consume.specs.Outcomes.{Outcome, Accepted, Refused, Reset, Outcomes}
use Rattle.otap_consume.specs.Receiving.{Received}
use Rattle.otap_gateway.specs.declared.jobs.command.Command.TheVariants as command
use Rattle.otap_gateway.specs.declared.jobs.command.ReceiverText.{ReceiverText}
use Rattle.otlp_model.specs.declared.request.Signal.{Signal}
use Rattle.otap_gateway.specs.Commands.{ReplyOf}
use Rattle.otap_signals.specs.BySignal.{meaning_by}
use Rattle.otap_gateway.specs.Receptions.{as_taken, text_of}
use Rattle.otap_gateway.specs.Showing.{shown}
use Rattle.otap_gateway.specs.Replies.{replies_from}

-- no stage after the fourth refused the frame: `show` looks no further
abbrev pub IsEarly : Outcome → Type 0
IsEarly (Accepted batch tables) = ⊤
IsEarly (Refused refusal) = refusal.stage ≤ 4
IsEarly Reset = ⊤

-- ONE LIST OF OUTCOMES of the frames gives what each job of a receiver may write, and where no later stage refused a frame, what
-- `show` may write too. In any case some list of what the stages 0 to 4 make of the frames gives that.
pub record HaveTexts (signal : Signal) (frames : List Frame) : Type 0 where
  pub outcomes : List Outcome
  pub received : Received (meaning_by signal) frames outcomes
  pub receive : (text : ReceiverText) → EachAfter (ReplyOf (command.Receive text signal)) [] [] frames (replies_from (as_taken (meaning_by signal) (text_of text)) 0 outcomes)
  pub show_alike : All IsEarly outcomes → EachAfter (ReplyOf (command.Show signal)) [] [] frames (replies_from shown 0 outcomes)
  pub seen : List Outcome
  pub given : Outcomes signal frames seen
  pub show : EachAfter (ReplyOf (command.Show signal)) [] [] frames (replies_from shown 0 seen)
