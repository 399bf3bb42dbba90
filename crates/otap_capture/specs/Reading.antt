-- How far a capture is read, and what each step of it does.
use Rattle.std.specs.Prelude.{◌≡◌, ℕ, ◌+◌, ◌<◌, ◌≤◌, ⊤, Bool, true, false, if◌then◌else◌, List, length, Some, None, IfSome}
use Rattle.std.specs.declared.option.Option.{Option}
use Rattle.std.specs.declared.result.Result.{Result}
use Rattle.std.specs.declared.result.Result.TheVariants.{Ok, Err}
use Rattle.std.specs.Io.KnownBytes.{Consumes, Keeps, prepend_known}
use Rattle.otap_capture.specs.declared.frame.Damage.{Damage}
use Rattle.otap_capture.specs.declared.frame.Step.{Step}
use Rattle.otap_capture.specs.declared.frame.Step.TheVariants as step
use Rattle.otap_capture.specs.declared.frame.FramesRefusal.{FramesRefusal}
use Rattle.otap_capture.specs.declared.frame.FramesRefusal.TheVariants.{Source, Memory}
use Rattle.otap_capture.specs.Capture.{Frame, IsFrame, EndsAt}
use Rattle.otap_capture.specs.Deciding.{IsOpen, IsLean}
use Rattle.otap_capture.specs.Limits.{frame_head, longest_frame, capture_limit, read_ahead, most_held}
use Rattle.otap_capture.specs.Outside.{Rose}

-- how far a capture is read
pub record Reading : Type 0 where
  -- how many bytes the frames handed out so far have
  pub handed : ℕ
  -- the bytes after them that are kept
  pub kept : List ℕ
  -- whether the source came to its end
  pub complete : Bool
  -- the frame that the last step gave
  pub frame : Option Frame
  -- the end that was returned
  pub ended : Option Step
  -- how long its buffer is: the bytes that are kept, some of those that were handed out, and room for reads
  pub held : ℕ

-- the bytes after the frames handed out, where they are known: those kept, and those that the source has left
abbrev pub ahead : Reading → Option (List ℕ) → Option (List ℕ)
ahead reading left = if reading.complete then Some reading.kept else prepend_known reading.kept left

-- the step that reports an end
abbrev pub end_step : Option Damage → Step
end_step None = step.End
end_step (Some damage) = step.Damage damage

-- the next frame of what is ahead is handed out
pub record TakesFrame (old new : Reading) (before after : Option (List ℕ)) : Type 0 where
  pub front : List ℕ
  pub frame : Frame
  pub is_frame : IsFrame front frame
  pub begins : old.handed < capture_limit
  pub taken : Consumes before after front
  pub handed : new.handed ≡ old.handed + length front
  pub further : old.handed + frame_head ≤ new.handed
  pub shown : new.frame ≡ Some frame
  pub goes_on : new.ended ≡ None

-- what is ahead has this end
pub record ComesToEnd (old new : Reading) (before after : Option (List ℕ)) (end : Option Damage) : Type 0 where
  pub same : Keeps before after
  pub ends : IfSome before (λ rest. EndsAt old.handed rest end)
  pub handed : new.handed ≡ old.handed
  pub shown : new.frame ≡ None
  pub ended : new.ended ≡ Some (end_step end)

-- nothing is handed out, and nothing is lost
pub record LosesNothing (old new : Reading) (before after : Option (List ℕ)) : Type 0 where
  pub same : Keeps before after
  pub handed : new.handed ≡ old.handed
  pub shown : new.frame ≡ None
  pub goes_on : new.ended ≡ None

abbrev pub ReadsOn : Reading → Reading → Option (List ℕ) → Option (List ℕ) → Result Step FramesRefusal → Type 0
ReadsOn old new before after (Ok step.Frame) = TakesFrame old new before after
ReadsOn old new before after (Ok step.End) = ComesToEnd old new before after None
ReadsOn old new before after (Ok (step.Damage damage)) = ComesToEnd old new before after (Some damage)
ReadsOn old new before after (Err refusal) = LosesNothing old new before after

-- the same end again, and nothing is read
pub record EndsAgain {S : Type 0} (old new : Reading) (source source' : S) (end : Step) (result : Result Step FramesRefusal) : Type 0 where
  pub returned : result ≡ Ok end
  pub unread : source' ≡ source
  pub same : new ≡ record old { frame = None }

-- a step's count of faults: it rises where the source failed, and is the same elsewhere
abbrev pub StepCounts : {T : Type 0} → ℕ → ℕ → Result T FramesRefusal → Type 0
StepCounts before now (Ok x) = now ≡ before
StepCounts before now (Err Source) = Rose before now
StepCounts before now (Err (Memory e)) = now ≡ before

-- a test returns whether a fact holds
abbrev pub TellsWhether : Bool → Type 0 → Type 0
TellsWhether true P = P
TellsWhether false P = P → ⊥

-- the next step isn't decided by the bytes that are kept, and the source may have more
pub record IsWaiting (reading : Reading) : Type 0 where
  pub goes_on : reading.ended ≡ None
  pub unread : reading.complete ≡ false
  pub is_open : IsOpen reading.handed reading.kept

-- The source is asked only where the next step isn't decided: where it fails, neither the bytes that were kept before
-- the call nor those that are kept after it decide the step. A reader can't know whether the source will fail, so this
-- holds of each time that it asks.
abbrev pub Asked : {T : Type 0} → Reading → Reading → Result T FramesRefusal → Type 0
Asked old new (Ok x) = ⊤
Asked old new (Err Source) = IsWaiting old × IsWaiting new
Asked old new (Err (Memory e)) = ⊤

-- after a frame at most read_ahead bytes are kept
abbrev pub KeepsRest : Reading → Result Step FramesRefusal → Type 0
KeepsRest new (Ok step.Frame) = length new.kept ≤ read_ahead
KeepsRest new (Ok step.End) = ⊤
KeepsRest new (Ok (step.Damage damage)) = ⊤
KeepsRest new (Err refusal) = ⊤

-- What a step leaves: all that was taken from the source is more than what was handed out before by one frame and read_ahead
-- bytes at most; those that are kept are one frame and read_ahead bytes at most; and the buffer has at most most_held bytes.
pub record KeepsFew (old new : Reading) : Type 0 where
  pub taken : new.handed + length new.kept ≤ old.handed + (longest_frame + frame_head + read_ahead)
  pub lean : IsLean new.kept
  pub memory : new.held ≤ most_held
