-- Frames one after the other.
use Rattle.std.proofs.Common.{◌≡◌, ℕ, ◌+◌, ◌<◌, ◌≤◌, List, [], ◌∷◌, ◌++◌, length, take, drop, take-append-drop, refl, sym, ap, ◌∙◌, append_assoc, append-nil, length-append, arith}
use Rattle.std.proofs.lemmas.List.{drop-drop}
use Rattle.otap_capture.specs.Capture.{Frame, IsFrame, AreFrames, capture_limit}

-- a frame has a head
pub frame_length : (front : List ℕ) (frame : Frame) → IsFrame front frame → 5 ≤ length front
frame_length [] frame p = absurd p
frame_length (flag ∷ []) frame p = absurd p
frame_length (flag ∷ a ∷ []) frame p = absurd p
frame_length (flag ∷ a ∷ b ∷ []) frame p = absurd p
frame_length (flag ∷ a ∷ b ∷ c ∷ []) frame p = absurd p
frame_length (flag ∷ a ∷ b ∷ c ∷ d ∷ part) frame p = omega arith

-- one more frame after those that are there
pub are_frames-push : (place : ℕ) (bytes more : List ℕ) (frames : List Frame) (frame : Frame) → AreFrames place bytes frames → IsFrame more frame → place + length bytes < capture_limit
    → AreFrames place (bytes ++ more) (frames ++ frame ∷ [])
are_frames-push place bytes more [] frame none is_frame begins =
    let at : place < capture_limit = let e = ap length none in omega (arith, e) in
    (more, [], ap (λ l. l ++ more) none ∙ sym (append-nil more), at, is_frame, refl)
are_frames-push place bytes more (f ∷ frames) frame each is_frame begins =
    let below : place + length each.0 + length each.1 < capture_limit = let e = ap length each.2 in omega (arith, e, length-append each.0 each.1) in
    (each.0, each.1 ++ more, ap (λ l. l ++ more) each.2 ∙ append_assoc each.0 each.1 more, each.3, each.4, are_frames-push (place + length each.0) each.1 more frames frame each.5 is_frame below)

-- the head, the bytes after it, and the rest
pub split : (bytes : List ℕ) (size : ℕ) → bytes ≡ (take 5 bytes ++ take size (drop 5 bytes)) ++ drop (5 + size) bytes
split bytes size =
    sym (take-append-drop 5 bytes) ∙ ap (λ l. take 5 bytes ++ l) (sym (take-append-drop size (drop 5 bytes)))
    ∙ sym (append_assoc (take 5 bytes) (take size (drop 5 bytes)) (drop size (drop 5 bytes)))
    ∙ ap (λ l. (take 5 bytes ++ take size (drop 5 bytes)) ++ l) (drop-drop size 5 bytes)
