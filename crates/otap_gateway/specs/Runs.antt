-- What a run does to its source and its sinks.
use Rattle.std.specs.Prelude.{◌≡◌, ◌⊎◌, ℕ, if◌then◌else◌, List, [], ◌++◌, length, ⊤, IfSome, Some, is_some}
use Rattle.std.specs.declared.option.Option.{Option}
use Rattle.std.specs.declared.result.Result.{Result}
use Rattle.std.specs.declared.result.Result.TheVariants.{Ok, Err}
use Rattle.std.specs.Io.KnownBytes.{Appends, Consumes, Keeps}
use Rattle.lists.specs.EachAfter.{EachAfter}
use Rattle.otap_capture.specs.declared.frame.Damage.{Damage}
use Rattle.otap_capture.specs.declared.outside.Sink.{Ghosts as SinkGhosts}
use Rattle.otap_capture.specs.declared.outside.Source.{Ghosts as SourceGhosts}
use Rattle.otap_capture.specs.Capture.{Frame, AreFrames, IsCapture}
use Rattle.otap_capture.specs.Deciding.{IsOpen}
use Rattle.otap_capture.specs.Outside.{AppendsFront, Rose}
use Rattle.otap_gateway.specs.declared.jobs.command.Command.{Command}
use Rattle.otap_gateway.specs.declared.runs.stop.Stop.{Stop}
use Rattle.otap_gateway.specs.declared.runs.stop.Stop.TheVariants as stop
use Rattle.otap_gateway.specs.declared.runs.stop.Tally.{Tally}
use Rattle.otap_gateway.specs.Commands.{ReplyOf}
use Rattle.otap_gateway.specs.Jobs.{Rule}
use Rattle.otap_gateway.specs.Lines.{end_text, words_line}
use Rattle.otap_gateway.specs.Reply.{ReplyText, out_text, err_text, any_refused}

-- a sink: what is written, what of that is passed on, and its count of faults
pub record SinkState : Type 0 where
  pub written : Option (List ℕ)
  pub passed : Option (List ℕ)
  pub faults : ℕ

pub record Sinks : Type 0 where
  pub out : SinkState
  pub err : SinkState

-- the state of a sink; the first argument has the ghost members of its type
abbrev pub sink_state : {K : Type 0} → SinkGhosts K → K → SinkState
sink_state ghosts sink = record { written = ghosts.written sink; passed = ghosts.passed sink; faults = ghosts.faults sink }

abbrev pub sinks : {O E : Type 0} → SinkGhosts O → O → SinkGhosts E → E → Sinks
sinks ghosts out ghosts' err = record { out = sink_state ghosts out; err = sink_state ghosts' err }

-- what a run meets: the bytes that the source has left, its count of faults, and the sinks
pub record World : Type 0 where
  pub left : Option (List ℕ)
  pub faults : ℕ
  pub sinks : Sinks

abbrev pub world : {S : Type 0} → SourceGhosts S → S → Sinks → World
world ghosts source sinks = record { left = ghosts.left source; faults = ghosts.faults source; sinks = sinks }

-- all that was written is passed on
pub record IsFlushed (sinks : Sinks) : Type 0 where
  pub out : sinks.out.passed ≡ sinks.out.written
  pub err : sinks.err.passed ≡ sinks.err.written

-- The run came to its end: the sinks grew by the texts of all frames of the capture, and of its damage.
pub record WritesAll (job : Command) (left : Option (List ℕ)) (old new : Sinks) (tally : Tally) : Type 0 where
  pub frames : List Frame
  pub end : Option Damage
  pub replies : List ReplyText
  pub capture : IfSome left (λ bytes. IsCapture bytes frames end)
  pub texts : EachAfter (ReplyOf job) [] [] frames replies
  pub out : Appends old.out.written new.out.written (out_text replies)
  pub err : Appends old.err.written new.err.written (err_text replies ++ end_text end)
  pub flushed : IsFlushed new
  pub refused : tally.refused ≡ any_refused replies
  pub damaged : tally.damaged ≡ is_some end

-- the bytes begin with these frames
abbrev pub BeginsWith : List ℕ → List Frame → Type 0
BeginsWith bytes frames = (front : List ℕ) × (rest : List ℕ) × (bytes ≡ front ++ rest) × AreFrames 0 front frames

-- Something stopped the run: each sink grew by a front of a text of the first frames of the capture. That of
-- its damage belongs to it where these are all its frames.
pub record WritesFront (job : Command) (left : Option (List ℕ)) (old new : Sinks) : Type 0 where
  pub frames : List Frame
  pub last : Option Damage
  pub replies : List ReplyText
  pub begins : IfSome left (λ bytes. BeginsWith bytes frames)
  pub all : IfSome last (λ damage. IfSome left (λ bytes. IsCapture bytes frames (Some damage)))
  pub texts : EachAfter (ReplyOf job) [] [] frames replies
  pub out : AppendsFront old.out.written new.out.written (out_text replies)
  pub err : AppendsFront old.err.written new.err.written (err_text replies ++ end_text last)

-- nothing is written for these replies
abbrev pub IsQuiet : List ReplyText → Type 0
IsQuiet replies = (out_text replies ≡ []) × (err_text replies ≡ [])

-- The source stopped the run: the sinks grew by the whole texts of all frames that are whole in the bytes that were taken
-- from it, and all of that is passed on. The rule says what may be replied.
pub record WritesTaken (R : Rule) (old new : World) : Type 0 where
  pub frames : List Frame
  pub replies : List ReplyText
  pub front : List ℕ
  pub rest : List ℕ
  pub taken : Consumes old.left new.left (front ++ rest)
  pub each : AreFrames 0 front frames
  pub no_more : IsOpen (length front) rest
  pub texts : EachAfter R [] [] frames replies
  pub out : Appends old.sinks.out.written new.sinks.out.written (out_text replies)
  pub err : Appends old.sinks.err.written new.sinks.err.written (err_text replies)
  pub passed : IsQuiet replies ⊎ IsFlushed new.sinks

-- what is left where the source stopped it
abbrev pub StopsBy : {T : Type 0} → Rule → World → World → Result T Stop → Type 0
StopsBy R old new (Ok x) = ⊤
StopsBy R old new (Err stop.Source) = WritesTaken R old new
StopsBy R old new (Err stop.Sink) = ⊤
StopsBy R old new (Err stop.Memory) = ⊤

-- what a run of a job leaves there
abbrev pub Stops : Command → World → World → Result Tally Stop → Type 0
Stops job old new returned = StopsBy (ReplyOf job) old new returned

abbrev pub Leaves : Command → Option (List ℕ) → Sinks → Sinks → Result Tally Stop → Type 0
Leaves job left old new (Ok tally) = WritesAll job left old new tally
Leaves job left old new (Err stop) = WritesFront job left old new

-- a fault of one of the sinks
pub record OutFailed (old new : Sinks) : Type 0 where
  pub out : Rose old.out.faults new.out.faults
  pub err : new.err.faults ≡ old.err.faults

pub record ErrFailed (old new : Sinks) : Type 0 where
  pub out : new.out.faults ≡ old.out.faults
  pub err : Rose old.err.faults new.err.faults

pub record NoneFailed (old new : Sinks) : Type 0 where
  pub out : new.out.faults ≡ old.out.faults
  pub err : new.err.faults ≡ old.err.faults

-- The faults of a run: a count rose where its object stopped the run, and no other count changed.
abbrev pub SinkFaults : {T : Type 0} → Sinks → Sinks → Result T Stop → Type 0
SinkFaults old new (Ok x) = NoneFailed old new
SinkFaults old new (Err stop.Source) = ⊥
SinkFaults old new (Err stop.Sink) = OutFailed old new ⊎ ErrFailed old new
SinkFaults old new (Err stop.Memory) = NoneFailed old new

abbrev pub CountsFaults : {T : Type 0} → World → World → Result T Stop → Type 0
CountsFaults old new (Ok x) = (new.faults ≡ old.faults) × NoneFailed old.sinks new.sinks
CountsFaults old new (Err stop.Source) = Rose old.faults new.faults × NoneFailed old.sinks new.sinks
CountsFaults old new (Err stop.Sink) = (new.faults ≡ old.faults) × (OutFailed old.sinks new.sinks ⊎ ErrFailed old.sinks new.sinks)
CountsFaults old new (Err stop.Memory) = (new.faults ≡ old.faults) × NoneFailed old.sinks new.sinks

abbrev pub stop_status : Stop → ℕ
stop_status stop.Source = 3
stop_status stop.Sink = 4
stop_status stop.Memory = 6

abbrev pub exit_status : Result Tally Stop → ℕ
exit_status (Ok tally) = if tally.damaged then 5 else (if tally.refused then 1 else 0)
exit_status (Err stop) = stop_status stop

-- A run for the words of a job.
pub record Runs (job : Command) (old new : World) (status : ℕ) : Type 0 where
  pub returned : Result Tally Stop
  pub same : status ≡ exit_status returned
  pub leaves : Leaves job old.left old.sinks new.sinks returned
  pub stops : Stops job old new returned
  pub faults : CountsFaults old new returned

-- A run in which nothing failed, over a capture of these frames that ends well: each frame has a reply that the job
-- allows, the sinks grew by the texts of these replies, all of it passed on, and the status is 0 exactly where none of them
-- is refused, and else 1.
pub record Completes (job : Command) (frames : List Frame) (old new : Sinks) (status : ℕ) : Type 0 where
  pub replies : List ReplyText
  pub texts : EachAfter (ReplyOf job) [] [] frames replies
  pub out : Appends old.out.written new.out.written (out_text replies)
  pub err : Appends old.err.written new.err.written (err_text replies)
  pub flushed : IsFlushed new
  pub same : status ≡ (if any_refused replies then 1 else 0)

-- the line is written and passed on, or a front of it is written
abbrev pub LeavesLine : Sinks → Sinks → Result (Unit {0}) Stop → Type 0
LeavesLine old new (Ok x) = Appends old.err.written new.err.written words_line × IsFlushed new
LeavesLine old new (Err stop) = AppendsFront old.err.written new.err.written words_line

abbrev pub words_status : Result (Unit {0}) Stop → ℕ
words_status (Ok x) = 2
words_status (Err stop) = stop_status stop

-- A run for words that aren't understood. Nothing is read, and the source can't have failed.
pub record RefusesWords {S : Type 0} (source source' : S) (old new : World) (status : ℕ) : Type 0 where
  pub returned : Result (Unit {0}) Stop
  pub same : status ≡ words_status returned
  pub unread : source' ≡ source
  pub out : Keeps old.sinks.out.written new.sinks.out.written
  pub line : LeavesLine old.sinks new.sinks returned
  pub faults : SinkFaults old.sinks new.sinks returned
