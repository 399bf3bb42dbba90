-- Bytes that are frames one after the other, read as one capture.
use Rattle.std.proofs.Common.{◌≡◌, ℕ, ◌+◌, ◌<◌, ◌≤◌, List, [], ◌∷◌, ◌++◌, length, map, None, refl, sym, append-nil, length-append, arith}
use Rattle.std.specs.List.{AllByRecursion, flat_map}
use Rattle.std.proofs.lemmas.Bool.{lt-leb}
use Rattle.otap_capture.specs.Capture.{AreFrames, Frame, IsCapture, IsFrame, Message, capture_limit, longest_frame, message_frame}

-- a frame is read where it is written
abbrev pub MessagesAreRead : Type 0
MessagesAreRead = (part : List ℕ) → length part ≤ longest_frame → IsFrame (message_frame part) (Message part)

module _ {X : Type 0} (spelled : X → List ℕ) (frame : X → Frame) where
  abbrev pub AreSpelled : List X → Type 0
  AreSpelled xs = AllByRecursion (λ x. IsFrame (spelled x) (frame x)) xs

  frames_of : (xs : List X) (place : ℕ) → AreSpelled xs → place + length (flat_map spelled xs) < capture_limit → AreFrames place (flat_map spelled xs) (map frame xs)
  frames_of [] place each few = refl
  frames_of (x ∷ xs) place each few =
      let size : length (spelled x ++ flat_map spelled xs) ≡ length (spelled x) + length (flat_map spelled xs) = length-append (spelled x) (flat_map spelled xs) in
      let begins : place < capture_limit = omega (arith, few) in
      let after : (place + length (spelled x)) + length (flat_map spelled xs) < capture_limit = omega (arith, few, size) in
      (spelled x, flat_map spelled xs, refl, begins, each.0, frames_of xs (place + length (spelled x)) each.1 after)

  pub capture_of : (xs : List X) → AreSpelled xs → length (flat_map spelled xs) < capture_limit → IsCapture (flat_map spelled xs) (map frame xs) None
  capture_of xs each few = record {
    front = flat_map spelled xs;
    rest = [];
    whole = sym (append-nil (flat_map spelled xs));
    each = frames_of xs 0 each (let few = few in omega (arith, few));
    ends = (refl, rw (lt-leb capture_limit (length (flat_map spelled xs)) few) refl);
  }

-- ---- a capture has no more frames than its limit

some_byte : (bytes : List ℕ) (frame : Frame) → IsFrame bytes frame → 0 < length bytes
some_byte [] frame is = absurd is
some_byte (b ∷ bytes) frame is = omega arith

pub few_frames : (place : ℕ) (bytes : List ℕ) (frames : List Frame) → place < capture_limit → AreFrames place bytes frames → place + length frames ≤ capture_limit
few_frames place bytes [] begins each = omega (arith, begins)
few_frames place bytes (frame ∷ []) begins each = omega (arith, begins)
few_frames place bytes (frame ∷ next ∷ frames) begins (front, rest, whole, below, is, each) =
    omega (arith, some_byte front frame is, few_frames (place + length front) rest (next ∷ frames) each.3 each)
