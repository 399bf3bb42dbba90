-- What a run does to its sinks where its job adds something of its own at the end of the capture.
use Rattle.std.specs.Prelude.{◌≡◌, ◌⊎◌, ◌||◌, ℕ, if◌then◌else◌, List, [], ◌++◌, IfSome, is_some}
use Rattle.std.specs.declared.option.Option.{Option}
use Rattle.std.specs.declared.result.Result.{Result}
use Rattle.std.specs.declared.result.Result.TheVariants.{Ok, Err}
use Rattle.std.specs.Io.KnownBytes.{Appends}
use Rattle.lists.specs.EachAfter.{EachAfter}
use Rattle.otap_capture.specs.declared.frame.Damage.{Damage}
use Rattle.otap_capture.specs.Capture.{Frame, IsCapture}
use Rattle.otap_capture.specs.Outside.{AppendsFront}
use Rattle.otap_gateway.specs.declared.jobs.ending.Ending.{Ending}
use Rattle.otap_gateway.specs.declared.runs.stop.Stop.{Stop}
use Rattle.otap_gateway.specs.declared.runs.stop.Tally.{Tally}
use Rattle.otap_gateway.specs.Begun.{WritesBegun}
use Rattle.otap_gateway.specs.Endings.{AnswerOf, BegunOf, ClosingOf, closing_text}
use Rattle.otap_gateway.specs.Reply.{ReplyText, Closing, out_text, err_text, any_refused}
use Rattle.otap_gateway.specs.Runs.{Sinks, World, CountsFaults, IsFlushed, StopsBy, exit_status}

-- The run came to its end: the sinks grew by the texts of all frames of the capture and by what the job adds, the line of a
-- damage in its place, and all of it is passed on.
pub record EndsAll (job : Ending) (left : Option (List ℕ)) (old new : Sinks) (tally : Tally) : Type 0 where
  pub frames : List Frame
  pub end : Option Damage
  pub replies : List ReplyText
  pub closing : Closing
  pub capture : IfSome left (λ bytes. IsCapture bytes frames end)
  pub texts : EachAfter (AnswerOf job) [] [] frames replies
  pub closes : ClosingOf job frames replies closing
  pub out : Appends old.out.written new.out.written (out_text replies ++ closing.out)
  pub err : Appends old.err.written new.err.written (err_text replies ++ closing_text closing end)
  pub flushed : IsFlushed new
  pub refused : tally.refused ≡ (any_refused replies || closing.refused)
  pub damaged : tally.damaged ≡ is_some end

-- what is added is written first on out, and then on err: on err it isn't begun before out has all of it
abbrev pub GrowsInTurn : Sinks → Sinks → List ℕ → List ℕ → List ℕ → List ℕ → Type 0
GrowsInTurn old new out out' err err' =
    (AppendsFront old.out.written new.out.written (out ++ out') × Appends old.err.written new.err.written err)
    ⊎ (Appends old.out.written new.out.written (out ++ out') × AppendsFront old.err.written new.err.written (err ++ err'))

-- Something stopped it in what is added, or in passing it on.
pub record EndsPart (job : Ending) (left : Option (List ℕ)) (old new : Sinks) : Type 0 where
  pub frames : List Frame
  pub end : Option Damage
  pub replies : List ReplyText
  pub closing : Closing
  pub capture : IfSome left (λ bytes. IsCapture bytes frames end)
  pub texts : EachAfter (AnswerOf job) [] [] frames replies
  pub closes : ClosingOf job frames replies closing
  pub grows : GrowsInTurn old new (out_text replies) closing.out (err_text replies) (closing_text closing end)

-- Something stopped it before anything was added, or later.
abbrev pub EndsFront : Ending → Option (List ℕ) → Sinks → Sinks → Type 0
EndsFront job left old new = WritesBegun (AnswerOf job) (BegunOf job) left old new ⊎ EndsPart job left old new

abbrev pub LeavesEnding : Ending → Option (List ℕ) → Sinks → Sinks → Result Tally Stop → Type 0
LeavesEnding job left old new (Ok tally) = EndsAll job left old new tally
LeavesEnding job left old new (Err stop) = EndsFront job left old new

-- A run for the words of such a job.
pub record RunsEnding (job : Ending) (old new : World) (status : ℕ) : Type 0 where
  pub returned : Result Tally Stop
  pub same : status ≡ exit_status returned
  pub leaves : LeavesEnding job old.left old.sinks new.sinks returned
  pub stops : StopsBy (AnswerOf job) old new returned
  pub faults : CountsFaults old new returned

-- A run in which nothing failed, over a capture of these frames that ends well: each frame has a reply that the job allows,
-- and the job adds what it may; the sinks grew by these texts, all of it passed on, and the status is 0 exactly where nothing
-- of it is a refusal, and else 1.
pub record CompletesEnding (job : Ending) (frames : List Frame) (old new : Sinks) (status : ℕ) : Type 0 where
  pub replies : List ReplyText
  pub closing : Closing
  pub texts : EachAfter (AnswerOf job) [] [] frames replies
  pub closes : ClosingOf job frames replies closing
  pub out : Appends old.out.written new.out.written (out_text replies ++ closing.out)
  pub err : Appends old.err.written new.err.written (err_text replies ++ (closing.before ++ closing.after))
  pub flushed : IsFlushed new
  pub same : status ≡ (if any_refused replies || closing.refused then 1 else 0)
