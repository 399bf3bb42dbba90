-- The messages of a capture are bytes where the capture is.
use Rattle.std.proofs.Common.{◌+◌, ℕ, List, [], ◌∷◌, ◌++◌, Option, length, refl, subst}
use Rattle.std.specs.List.{AllByRecursion}
use Rattle.std.proofs.lemmas.List.{take_at}
use Rattle.lists.proofs.AllBytes.{IsBytes, IsBytes-drop, IsBytes-suffix, IsBytes-take}
use Rattle.otap_capture.specs.declared.frame.Damage.{Damage}
use Rattle.otap_capture.specs.Capture.{Frame, Message, Packed, Carries, IsFrame, AreFrames, IsCapture}
use Rattle.otap_capture.specs.Capture as capture
use Rattle.otap_consume.specs.Bytes.{IsOfBytes}
use Rattle.otap_consume.proofs.ByteLists.{all_bytes}

front_fits : (front rest : List ℕ) → IsBytes (front ++ rest) → IsBytes front
front_fits front rest fits = subst IsBytes (take_at front rest (length front) refl) (IsBytes-take (length front) (front ++ rest) fits)

carried : (flag : ℕ) (part : List ℕ) (frame : Frame) → IsBytes part → Carries flag part frame → IsOfBytes frame
carried flag part (Message bytes) fits carries = all_bytes bytes (subst IsBytes carries.1 fits)
carried flag part Packed fits carries = tt
carried flag part capture.Reset fits carries = tt

frame_bytes : (bytes : List ℕ) (frame : Frame) → IsBytes bytes → IsFrame bytes frame → IsOfBytes frame
frame_bytes (flag ∷ a ∷ b ∷ c ∷ d ∷ part) frame fits is = carried flag part frame (IsBytes-drop 5 (flag ∷ a ∷ b ∷ c ∷ d ∷ part) fits) is.2
frame_bytes (flag ∷ a ∷ b ∷ c ∷ []) frame fits is = absurd is
frame_bytes (flag ∷ a ∷ b ∷ []) frame fits is = absurd is
frame_bytes (flag ∷ a ∷ []) frame fits is = absurd is
frame_bytes (flag ∷ []) frame fits is = absurd is
frame_bytes [] frame fits is = absurd is

frames_bytes : (place : ℕ) (bytes : List ℕ) (frames : List Frame) → IsBytes bytes → AreFrames place bytes frames → AllByRecursion IsOfBytes frames
frames_bytes place bytes [] fits are = tt
frames_bytes place bytes (frame ∷ frames) fits (front, rest, is, below, own, more) =
    let whole : IsBytes (front ++ rest) = subst IsBytes is fits in
    (frame_bytes front frame (front_fits front rest whole) own, frames_bytes (place + length front) rest frames (IsBytes-suffix front rest whole) more)

pub capture_bytes : (bytes : List ℕ) (frames : List Frame) (end : Option Damage) → IsBytes bytes → IsCapture bytes frames end → AllByRecursion IsOfBytes frames
capture_bytes bytes frames end fits is = frames_bytes 0 is.front frames (front_fits is.front is.rest (subst IsBytes is.whole fits)) is.each
