-- The steps of a run: used in private contracts.
use Rattle.std.specs.Prelude.{◌≡◌, ◌⊎◌, ℕ, Bool, false, List, [], length, ⊤, Some, IfSome, is_some}
use Rattle.std.specs.declared.option.Option.{Option}
use Rattle.std.specs.declared.result.Result.{Result}
use Rattle.std.specs.declared.result.Result.TheVariants.{Ok, Err}
use Rattle.std.specs.Io.KnownBytes.{Appends, Keeps}
use Rattle.lists.specs.EachAfter.{EachAfter}
use Rattle.otap_capture.specs.declared.frame.Damage.{Damage}
use Rattle.otap_capture.specs.declared.frame.FramesRefusal.{FramesRefusal}
use Rattle.otap_capture.specs.declared.frame.FramesRefusal.TheVariants as frames
use Rattle.otap_capture.specs.declared.outside.SinkRefusal.{SinkRefusal}
use Rattle.otap_capture.specs.declared.outside.SinkRefusal.TheVariants as refusal
use Rattle.otap_capture.specs.declared.outside.Source.{Ghosts as SourceGhosts}
use Rattle.otap_capture.specs.Capture.{Frame, IsCapture}
use Rattle.otap_capture.specs.Outside.{AppendsFront}
use Rattle.otap_capture.specs.Reading.{Reading, IsWaiting, TakesFrame, ComesToEnd, ahead}
use Rattle.otap_gateway.specs.declared.runs.stop.Stop.{Stop}
use Rattle.otap_gateway.specs.declared.runs.stop.Stop.TheVariants as stop
use Rattle.otap_gateway.specs.declared.runs.handler.Handled.{Handled}
use Rattle.otap_gateway.specs.declared.runs.drive.Ended.{Ended}
use Rattle.otap_gateway.specs.declared.runs.drive.Turn.{Turn}
use Rattle.otap_gateway.specs.declared.runs.drive.Turn.TheVariants as turn
use Rattle.otap_gateway.specs.Begun.{WritesBegun}
use Rattle.otap_gateway.specs.EndingRuns.{GrowsInTurn}
use Rattle.otap_gateway.specs.Endings.{closing_text}
use Rattle.otap_gateway.specs.Jobs.{Rule, History, Extends}
use Rattle.otap_gateway.specs.Lines.{end_text}
use Rattle.otap_gateway.specs.Reply.{ReplyText, Closing, out_text, err_text, any_refused}
use Rattle.otap_gateway.specs.Runs.{Sinks, World, IsFlushed}

abbrev pub stop_of_sink : SinkRefusal → Stop
stop_of_sink refusal.Failed = stop.Sink
stop_of_sink (refusal.Memory e) = stop.Memory

abbrev pub stop_of_frames : FramesRefusal → Stop
stop_of_frames frames.Source = stop.Source
stop_of_frames (frames.Memory e) = stop.Memory

-- what a run meets after the frames that were handed out
abbrev pub world_ahead : {S : Type 0} → Reading → SourceGhosts S → S → Sinks → World
world_ahead read ghosts source sinks = record { left = ahead read (ghosts.left source); faults = ghosts.faults source; sinks = sinks }

-- nothing is written
pub record KeepsBoth (old new : Sinks) : Type 0 where
  pub out : Keeps old.out.written new.out.written
  pub err : Keeps old.err.written new.err.written

-- a reply is written
pub record WritesWhole (reply : ReplyText) (old new : Sinks) (handled : Handled) : Type 0 where
  pub out : Appends old.out.written new.out.written reply.out
  pub err : Appends old.err.written new.err.written reply.err
  pub same : handled.refused ≡ reply.refused
  pub quiet : handled.wrote ≡ false → (reply.out ≡ []) × (reply.err ≡ []) × (new ≡ old)

-- or fronts of it are
pub record WritesFronts (reply : ReplyText) (old new : Sinks) : Type 0 where
  pub out : AppendsFront old.out.written new.out.written reply.out
  pub err : AppendsFront old.err.written new.err.written reply.err

abbrev pub WritesReply : ReplyText → Sinks → Sinks → Result Handled Stop → Type 0
WritesReply reply old new (Ok handled) = WritesWhole reply old new handled
WritesReply reply old new (Err stop) = WritesFronts reply old new

-- a reply to the frame is written
pub record Writes (R : Rule) (stands stands' : History) (number : ℕ) (frame : Frame) (old new : Sinks) (handled : Handled) : Type 0 where
  pub reply : ReplyText
  pub follows : Extends R stands stands' number frame reply
  pub out : Appends old.out.written new.out.written reply.out
  pub err : Appends old.err.written new.err.written reply.err
  pub same : handled.refused ≡ reply.refused
  pub quiet : handled.wrote ≡ false → (reply.out ≡ []) × (reply.err ≡ []) × (new ≡ old)

-- after each history of the state, the rule allows the text
pub record Allows (B : Rule) (stands : History) (number : ℕ) (frame : Frame) (reply : ReplyText) : Type 0 where
  pub at : (frames : List Frame) (replies : List ReplyText) → length frames ≡ number → stands frames replies → B frames replies frame reply

-- a front of what may be begun as a reply to the frame is written
pub record WritesPart (B : Rule) (stands : History) (number : ℕ) (frame : Frame) (old new : Sinks) : Type 0 where
  pub reply : ReplyText
  pub begins : Allows B stands number frame reply
  pub out : AppendsFront old.out.written new.out.written reply.out
  pub err : AppendsFront old.err.written new.err.written reply.err

-- R says what may be replied to a frame, and B what may be begun where something stops it
abbrev pub Handles : Rule → Rule → History → History → ℕ → Frame → Sinks → Sinks → Result Handled Stop → Type 0
Handles R B stands stands' number frame old new (Ok handled) = Writes R stands stands' number frame old new handled
Handles R B stands stands' number frame old new (Err stop) = KeepsBoth old new ⊎ WritesPart B stands number frame old new

-- the text of an end is written, and all is passed on
pub record Finishes (end : Option Damage) (old new : Sinks) (damaged : Bool) : Type 0 where
  pub out : Keeps old.out.written new.out.written
  pub err : Appends old.err.written new.err.written (end_text end)
  pub flushed : IsFlushed new
  pub same : damaged ≡ is_some end

-- a front of the text is written
pub record FinishesPart (end : Option Damage) (old new : Sinks) : Type 0 where
  pub out : Keeps old.out.written new.out.written
  pub err : AppendsFront old.err.written new.err.written (end_text end)

abbrev pub Ends : Option Damage → Sinks → Sinks → Result Bool Stop → Type 0
Ends end old new (Ok damaged) = Finishes end old new damaged
Ends end old new (Err stop) = FinishesPart end old new

-- a turn: the next frame is taken and its reply written
pub record TurnsFrame (R : Rule) (stands stands' : History) (number : ℕ) (read read' : Reading) (old new : World) (handled : Handled) : Type 0 where
  pub takes : TakesFrame read read' old.left new.left
  pub frame : Frame
  pub shown : Some frame ≡ read'.frame
  pub writes : Writes R stands stands' number frame old.sinks new.sinks handled

pub record TurnsFramePart (B : Rule) (stands : History) (number : ℕ) (read read' : Reading) (old new : World) : Type 0 where
  pub takes : TakesFrame read read' old.left new.left
  pub frame : Frame
  pub shown : Some frame ≡ read'.frame
  pub writes : WritesPart B stands number frame old.sinks new.sinks

-- or the capture ends, and nothing is written
pub record TurnsEnd (read read' : Reading) (old new : World) (end : Option Damage) : Type 0 where
  pub comes : ComesToEnd read read' old.left new.left end
  pub unwritten : new.sinks ≡ old.sinks

abbrev pub Turns : Rule → Rule → History → History → ℕ → Reading → Reading → World → World → Result Turn Stop → Type 0
Turns R B stands stands' number read read' old new (Ok (turn.Frame handled)) = TurnsFrame R stands stands' number read read' old new handled
Turns R B stands stands' number read read' old new (Ok (turn.End end)) = TurnsEnd read read' old new end
Turns R B stands stands' number read read' old new (Err stop) = KeepsBoth old.sinks new.sinks ⊎ TurnsFramePart B stands number read read' old new

-- what holds where the capture ended
abbrev pub OnEnd : Result Turn Stop → Type 0 → Type 0
OnEnd (Ok (turn.Frame handled)) P = ⊤
OnEnd (Ok (turn.End end)) P = P
OnEnd (Err stop) P = ⊤

-- all frames of the capture are replied to, and it ended so
pub record TakesAll (R : Rule) (stands : History) (left : Option (List ℕ)) (old new : Sinks) (ended : Ended) : Type 0 where
  pub frames : List Frame
  pub replies : List ReplyText
  pub capture : IfSome left (λ bytes. IsCapture bytes frames ended.end)
  pub history : stands frames replies
  pub texts : EachAfter R [] [] frames replies
  pub out : Appends old.out.written new.out.written (out_text replies)
  pub err : Appends old.err.written new.err.written (err_text replies)
  pub refused : ended.refused ≡ any_refused replies

abbrev pub Drives : Rule → Rule → History → Option (List ℕ) → Sinks → Sinks → Result Ended Stop → Type 0
Drives R B stands left old new (Ok ended) = TakesAll R stands left old new ended
Drives R B stands left old new (Err stop) = WritesBegun R B left old new

-- what is added at the end is written, and all is passed on
pub record Adds (closing : Closing) (end : Option Damage) (old new : Sinks) (damaged : Bool) : Type 0 where
  pub out : Appends old.out.written new.out.written closing.out
  pub err : Appends old.err.written new.err.written (closing_text closing end)
  pub flushed : IsFlushed new
  pub same : damaged ≡ is_some end

abbrev pub AddsIn : Closing → Option Damage → Sinks → Sinks → Result Bool Stop → Type 0
AddsIn closing end old new (Ok damaged) = Adds closing end old new damaged
AddsIn closing end old new (Err stop) = GrowsInTurn old new [] closing.out [] (closing_text closing end)

-- a turn in which the source failed: it was asked, and nothing was written
pub record TurnsFailing (read read' : Reading) (old new : World) : Type 0 where
  pub before : IsWaiting read
  pub after : IsWaiting read'
  pub same : Keeps old.left new.left
  pub handed : read'.handed ≡ read.handed
  pub unwritten : new.sinks ≡ old.sinks

abbrev pub TurnAsks : Reading → Reading → World → World → Result Turn Stop → Type 0
TurnAsks read read' old new (Ok turn) = ⊤
TurnAsks read read' old new (Err stop.Source) = TurnsFailing read read' old new
TurnAsks read read' old new (Err stop.Sink) = ⊤
TurnAsks read read' old new (Err stop.Memory) = ⊤

-- what was written is passed on where the source is to be asked; the result says whether some of it isn't
pub record Settled (read : Reading) (unflushed : Bool) (old new : Sinks) (still : Bool) : Type 0 where
  pub keeps : KeepsBoth old new
  pub asks : IsWaiting read → still ≡ false
  pub passed : still ≡ false → ((unflushed ≡ false) × (new ≡ old)) ⊎ IsFlushed new

abbrev pub SettlesTurn : Reading → Bool → Sinks → Sinks → Result Bool Stop → Type 0
SettlesTurn read unflushed old new (Ok still) = Settled read unflushed old new still
SettlesTurn read unflushed old new (Err stop) = KeepsBoth old new
