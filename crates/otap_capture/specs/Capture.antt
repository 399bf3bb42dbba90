-- A capture: frames one after the other, and what ends them (gRPC's length-prefixed messages).
use Rattle.std.specs.Prelude.{◌≡◌, ℕ, ◌+◌, ◌<◌, ◌≤◌, nat_lt, nat_le, nat_eq, not, ◌&&◌, ◌||◌, if◌then◌else◌, List, [], ◌∷◌, ◌++◌, length, Some, None}
use Rattle.std.specs.declared.option.Option.{Option}
use Rattle.byteorder.specs.Endian.{big_number, big_bytes}
pub use Rattle.otap_capture.specs.Limits.{longest_frame, capture_limit}
use Rattle.otap_capture.specs.declared.frame.Frame.{Frame as Lent}
use Rattle.otap_capture.specs.declared.frame.Frame.TheVariants as lent
use Rattle.otap_capture.specs.declared.frame.Why.{Why}
use Rattle.otap_capture.specs.declared.frame.Why.TheVariants.{Truncated, BadFrame, TooLong, Endless}
use Rattle.otap_capture.specs.declared.frame.Damage.{Damage}

-- a frame: a message by its bytes, a compressed message, whose bytes are passed over, or a reset
pub data Frame : Type 0 where
  Message : List ℕ → Frame
  Packed : Frame
  Reset : Frame

-- a frame without where it lies in memory
abbrev pub frame_of : Lent → Frame
frame_of (lent.Message part) = Message part.now
frame_of lent.Packed = Packed
frame_of lent.Reset = Reset

-- which frame a flag and the bytes after a head are
abbrev pub Carries : ℕ → List ℕ → Frame → Type 0
Carries flag part (Message bytes) = (flag ≡ 0) × (part ≡ bytes)
Carries flag part Packed = flag ≡ 1
Carries flag part Reset = (flag ≡ 2) × (part ≡ [])

-- These bytes are that frame: a flag, a length in four bytes, the highest first, and that number of bytes.
abbrev pub IsFrame : List ℕ → Frame → Type 0
IsFrame (flag ∷ a ∷ b ∷ c ∷ d ∷ part) frame =
    (length part ≡ big_number 4 (a ∷ b ∷ c ∷ d ∷ [])) × (length part ≤ longest_frame) × Carries flag part frame
IsFrame bytes frame = ⊥

-- From this offset on the bytes are these frames, one after the other. Each begins below the limit of a capture.
abbrev pub AreFrames : ℕ → List ℕ → List Frame → Type 0
AreFrames place bytes [] = bytes ≡ []
AreFrames place bytes (frame ∷ frames) = (front : List ℕ) × (rest : List ℕ)
    × (bytes ≡ front ++ rest) × (place < capture_limit) × IsFrame front frame × AreFrames (place + length front) rest frames

-- the first reason why a flag, a length and the bytes after them, by their number, are no frame
abbrev pub head_reason : ℕ → ℕ → ℕ → Option Why
head_reason flag size left =
    if nat_lt 2 flag || (nat_eq flag 2 && not (nat_eq size 0)) then Some BadFrame
    else if nat_lt longest_frame size then Some TooLong
    else if nat_lt left size then Some Truncated
    else None

-- the first reason why no frame is at the front of these bytes; there is none where no byte is left
abbrev pub front_reason : List ℕ → Option Why
front_reason [] = None
front_reason (flag ∷ a ∷ b ∷ c ∷ d ∷ rest) = head_reason flag (big_number 4 (a ∷ b ∷ c ∷ d ∷ [])) (length rest)
front_reason bytes = Some Truncated

-- the first reason at this offset, from which on the bytes are these
abbrev pub reason_at : ℕ → List ℕ → Option Why
reason_at place bytes = if nat_le capture_limit place then Some Endless else front_reason bytes

-- a capture ends well where no byte is left and there is no reason, and else with the first reason
abbrev pub EndsAt : ℕ → List ℕ → Option Damage → Type 0
EndsAt place rest None = (rest ≡ []) × (reason_at place rest ≡ None)
EndsAt place rest (Some damage) = (damage.at ≡ place) × (reason_at place rest ≡ Some damage.why)

-- The bytes are these frames, and then the capture ends so.
pub record IsCapture (bytes : List ℕ) (frames : List Frame) (end : Option Damage) : Type 0 where
  pub front : List ℕ
  pub rest : List ℕ
  pub whole : bytes ≡ front ++ rest
  pub each : AreFrames 0 front frames
  pub ends : EndsAt (length front) rest end

-- the one encoding of a message
abbrev pub message_frame : List ℕ → List ℕ
message_frame part = 0 ∷ big_bytes 4 (length part) ++ part

-- the one encoding of a reset
abbrev pub reset_frame : List ℕ
reset_frame = 2 ∷ 0 ∷ 0 ∷ 0 ∷ 0 ∷ []
