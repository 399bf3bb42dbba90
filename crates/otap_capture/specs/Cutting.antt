-- The steps in which a capture is read, in the words of private contracts: bytes are taken from the source, and frames are cut from them.
use Rattle.std.specs.Prelude.{◌≡◌, ◌⊎◌, ℕ, ◌+◌, ◌<◌, ◌≤◌, Bool, true, false, List, ◌++◌, length, take, drop, Some, None}
use Rattle.std.specs.declared.option.Option.{Option}
use Rattle.std.specs.declared.result.Result.{Result}
use Rattle.std.specs.declared.result.Result.TheVariants.{Ok, Err}
use Rattle.std.specs.Io.KnownBytes.{Consumes, Keeps, IsAtEnd}
use Rattle.otap_capture.specs.declared.frame.Damage.{Damage}
use Rattle.otap_capture.specs.declared.frame.FramesRefusal.{FramesRefusal}
use Rattle.otap_capture.specs.declared.frame.Why.TheVariants.{Truncated, BadFrame, TooLong, Endless}
use Rattle.otap_capture.specs.declared.frame.Step.{Step}
use Rattle.otap_capture.specs.declared.frame.Step.TheVariants as step
use Rattle.otap_capture.specs.declared.front.Flag.{Flag}
use Rattle.otap_capture.specs.declared.front.Flag.TheVariants as flags
use Rattle.otap_capture.specs.declared.front.NextFrame.{NextFrame}
use Rattle.otap_capture.specs.declared.front.NextFrame.TheVariants as fronts
use Rattle.otap_capture.specs.Capture.{Frame, IsFrame, EndsAt, reason_at, head_reason, longest_frame, capture_limit}
use Rattle.otap_capture.specs.Limits.{frame_head, read_ahead}
use Rattle.otap_capture.specs.Inside.{frame_in}
use Rattle.otap_capture.specs.Reading.{Reading, IsWaiting, end_step}

-- a frame with that flag, and that number of bytes after its head, is at the front of these bytes
pub record BeginsFrame (place : ℕ) (bytes : List ℕ) (f : Flag) (size : ℕ) : Type 0 where
  pub begins : place < capture_limit
  pub room : frame_head + size ≤ length bytes
  pub is_frame : IsFrame (take frame_head bytes ++ take size (drop frame_head bytes)) (frame_in f (take size (drop frame_head bytes)))

abbrev pub StandsAt : ℕ → List ℕ → NextFrame → Type 0
StandsAt place bytes (fronts.Frame f size) = BeginsFrame place bytes f size
StandsAt place bytes fronts.End = EndsAt place bytes None
StandsAt place bytes (fronts.Nothing why) = reason_at place bytes ≡ Some why

-- the byte of a flag, and whether its frame may have that number of bytes
abbrev pub HasFlag : Flag → ℕ → ℕ → Type 0
HasFlag flags.Message flag size = flag ≡ 0
HasFlag flags.Packed flag size = flag ≡ 1
HasFlag flags.Reset flag size = (flag ≡ 2) × (size ≡ 0)

abbrev pub StandsAfter : ℕ → ℕ → ℕ → NextFrame → Type 0
StandsAfter flag size left (fronts.Frame f n) = HasFlag f flag size × (n ≡ size) × (size ≤ longest_frame) × (size ≤ left)
StandsAfter flag size left fronts.End = ⊥
StandsAfter flag size left (fronts.Nothing why) = head_reason flag size left ≡ Some why

-- a frame is cut from what is kept
pub record CutsFrame (old new : Reading) : Type 0 where
  pub front : List ℕ
  pub frame : Frame
  pub is_frame : IsFrame front frame
  pub begins : old.handed < capture_limit
  pub kept : old.kept ≡ front ++ new.kept
  pub handed : new.handed ≡ old.handed + length front
  pub shown : new.frame ≡ Some frame
  pub ended : new.ended ≡ old.ended
  pub complete : new.complete ≡ old.complete

-- what is kept has this end
pub record CutsEnd (old new : Reading) (end : Option Damage) : Type 0 where
  pub ends : EndsAt old.handed old.kept end
  pub kept : new.kept ≡ old.kept
  pub handed : new.handed ≡ old.handed
  pub shown : new.frame ≡ old.frame
  pub ended : new.ended ≡ Some (end_step end)
  pub complete : new.complete ≡ old.complete

abbrev pub Cuts : Reading → Reading → Step → Type 0
Cuts old new step.Frame = CutsFrame old new
Cuts old new step.End = CutsEnd old new None
Cuts old new (step.Damage damage) = CutsEnd old new (Some damage)

-- bytes are taken, and nothing else changes
pub record Fills (old new : Reading) (before after : Option (List ℕ)) : Type 0 where
  pub same : Keeps before after
  pub handed : new.handed ≡ old.handed
  pub shown : new.frame ≡ old.frame
  pub ended : new.ended ≡ old.ended

-- the next step doesn't depend on what the source has left
abbrev pub IsDecided : Reading → Type 0
IsDecided reading = IsWaiting reading → ⊥

-- the same, but for what is held in memory
abbrev pub SameBut : Reading → Reading → Type 0
SameBut old new = new ≡ record old { held = new.held }

-- the source is at its end, or more bytes are kept
abbrev pub KeepsMore : Reading → Reading → Type 0
KeepsMore old new = (new.complete ≡ true) ⊎ (length old.kept < length new.kept)

-- a piece is taken from the source and appended
pub record TakesPiece (old new : List ℕ) (before after : Option (List ℕ)) : Type 0 where
  pub piece : List ℕ
  pub kept : new ≡ old ++ piece
  pub taken : Consumes before after piece
  pub some : 0 < length piece
  pub few : length piece ≤ read_ahead

-- one piece is taken, or the source is at its end, or it refuses
abbrev pub GivesPiece : List ℕ → List ℕ → Option (List ℕ) → Option (List ℕ) → Result Bool FramesRefusal → Type 0
GivesPiece old new before after (Ok true) = (new ≡ old) × Keeps before after × IsAtEnd after
GivesPiece old new before after (Ok false) = TakesPiece old new before after
GivesPiece old new before after (Err refusal) = (new ≡ old) × Keeps before after

-- more bytes could change it
abbrev pub leaves_open : NextFrame → Bool
leaves_open (fronts.Frame f size) = false
leaves_open fronts.End = true
leaves_open (fronts.Nothing Truncated) = true
leaves_open (fronts.Nothing BadFrame) = false
leaves_open (fronts.Nothing TooLong) = false
leaves_open (fronts.Nothing Endless) = false
