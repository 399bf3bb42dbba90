-- What is at an offset is decided by the bytes that are there, unless they are short.
use Rattle.std.proofs.Common.{◌≡◌, ◌⊎◌, inl, inr, ℕ, ◌+◌, ◌<◌, ◌≤◌, true, false, List, [], ◌∷◌, ◌++◌, length, take, drop, Some, None, refl, sym, ap, ◌∙◌, length-append, take-append-drop, subst, arith}
use Rattle.std.specs.Prelude.{nat_lt, nat_eq, not, ◌&&◌, ◌||◌}
use Rattle.std.specs.declared.option.Option.{Option}
use Rattle.std.proofs.lemmas.Bool.{cases_lt, cases_Bool, lt-ltb, le-ltb, le-leb}
use Rattle.std.proofs.lemmas.List.{take-append-le}
use Rattle.std.proofs.Math.Seq.{take-append_seam}
use Rattle.byteorder.specs.Endian.{big_number}
use Rattle.otap_capture.specs.declared.frame.Damage.{Damage}
use Rattle.otap_capture.specs.declared.frame.Why.TheVariants.{Truncated, Endless}
use Rattle.otap_capture.specs.Capture.{Frame, IsFrame, head_reason, front_reason, reason_at, EndsAt, longest_frame, capture_limit}
use Rattle.otap_capture.specs.Deciding.{IsShort, IsOpen, IsLean}
use Rattle.otap_capture.specs.Limits.{read_ahead}
use Rattle.otap_capture.proofs.Framing.{frame_length}
use Rattle.otap_capture.proofs.OneCapture.{front_fine}

-- a reason after a head stays, whatever bytes come, unless it is that bytes are missing
head_more : (flag size left more : ℕ) → (head_reason flag size left ≡ Some Truncated → ⊥) → head_reason flag size (left + more) ≡ head_reason flag size left
head_more flag size left more enough = by_cases (cases_Bool (nat_lt 2 flag || (nat_eq flag 2 && not (nat_eq size 0)))) (cases_lt longest_frame size) (cases_lt left size)
  where
    by_cases : (nat_lt 2 flag || (nat_eq flag 2 && not (nat_eq size 0)) ≡ true) ⊎ (nat_lt 2 flag || (nat_eq flag 2 && not (nat_eq size 0)) ≡ false)
        → (longest_frame < size) ⊎ (size ≤ longest_frame) → (left < size) ⊎ (size ≤ left) → head_reason flag size (left + more) ≡ head_reason flag size left
    by_cases (inl bad) long short = rw bad refl
    by_cases (inr fine) (inl long) short = rw (fine, lt-ltb longest_frame size long) refl
    by_cases (inr fine) (inr fits) (inl short) = absurd (enough (rw (fine, le-ltb longest_frame size fits, lt-ltb left size short) refl))
    by_cases (inr fine) (inr fits) (inr room) = rw (fine, le-ltb longest_frame size fits, le-ltb left size room, le-ltb (left + more) size (omega arith)) refl

front_more : (bytes more : List ℕ) → (IsShort bytes → ⊥) → front_reason (bytes ++ more) ≡ front_reason bytes
front_more [] more enough = absurd (enough (inl refl))
front_more (a ∷ []) more enough = absurd (enough (inr refl))
front_more (a ∷ b ∷ []) more enough = absurd (enough (inr refl))
front_more (a ∷ b ∷ c ∷ []) more enough = absurd (enough (inr refl))
front_more (a ∷ b ∷ c ∷ d ∷ []) more enough = absurd (enough (inr refl))
front_more (flag ∷ a ∷ b ∷ c ∷ d ∷ after) more enough =
    let size = big_number 4 (a ∷ b ∷ c ∷ d ∷ []) in
    ap (head_reason flag size) (length-append after more) ∙ head_more flag size (length after) (length more) (λ short. enough (inr short))

pub reason_more : (place : ℕ) (bytes more : List ℕ) → (IsOpen place bytes → ⊥) → reason_at place (bytes ++ more) ≡ reason_at place bytes
reason_more place bytes more decided = by_place (cases_lt place capture_limit)
  where
    by_place : (place < capture_limit) ⊎ (capture_limit ≤ place) → reason_at place (bytes ++ more) ≡ reason_at place bytes
    by_place (inl below) = rw (front_more bytes more (λ short. decided (below, short))) refl
    by_place (inr endless) = rw (le-leb capture_limit place endless) refl

-- an end that is decided stays
pub ends_more : (place : ℕ) (bytes more : List ℕ) (end : Option Damage) → (IsOpen place bytes → ⊥) → EndsAt place bytes end → EndsAt place (bytes ++ more) end
ends_more place bytes more (Some damage) decided ends = (ends.0, reason_more place bytes more decided ∙ ends.1)
ends_more place bytes more None decided ends = by_place (cases_lt place capture_limit)
  where
    by_place : (place < capture_limit) ⊎ (capture_limit ≤ place) → EndsAt place (bytes ++ more) None
    by_place (inl below) = absurd (decided (below, inl ends.0))
    by_place (inr endless) = let reason : Some Endless ≡ None = rw (le-leb capture_limit place endless) at ends.1 in cc

-- a frame at the front of bytes isn't short
pub frame_not_short : (front rest : List ℕ) (frame : Frame) → IsFrame front frame → IsShort (front ++ rest) → ⊥
frame_not_short front rest frame is_frame (inl none) = let long = frame_length front frame is_frame in let e = ap length none in omega (arith, long, e, length-append front rest)
frame_not_short front rest frame is_frame (inr short) = let clash : None ≡ Some Truncated = sym (front_fine front rest frame is_frame) ∙ short in cc

-- once a frame is cut from bytes of which all but a few are short, few are left
pub lean_rest : (bytes front rest : List ℕ) (frame : Frame) → IsLean bytes → bytes ≡ front ++ rest → IsFrame front frame → length rest ≤ read_ahead
lean_rest bytes front rest frame lean cut is_frame = by_length (cases_lt (length lean.front) (length front))
  where
    both : lean.front ++ lean.rest ≡ front ++ rest
    both = sym lean.whole ∙ cut

    total : length lean.front + length lean.rest ≡ length front + length rest
    total = sym (length-append lean.front lean.rest) ∙ ap length both ∙ length-append front rest

    by_length : (length lean.front < length front) ⊎ (length front ≤ length lean.front) → length rest ≤ read_ahead
    by_length (inl less) = let few = lean.few in omega (arith, total, few)
    by_length (inr more) =
        let first : take (length front) lean.front ≡ front =
        sym (take-append-le (length front) lean.front lean.rest more) ∙ ap (take (length front)) both ∙ take-append_seam front rest in
        let whole : lean.front ≡ front ++ drop (length front) lean.front = sym (take-append-drop (length front) lean.front) ∙ ap (λ l. l ++ drop (length front) lean.front) first in
        absurd (frame_not_short front (drop (length front) lean.front) frame is_frame (subst IsShort whole lean.short))

-- few bytes
pub few_lean : (bytes : List ℕ) → length bytes ≤ read_ahead → IsLean bytes
few_lean bytes few = record { front = []; rest = bytes; whole = refl; short = inl refl; few = few }

-- a frame isn't long
pub frame_bound : (front : List ℕ) (frame : Frame) → IsFrame front frame → length front ≤ longest_frame + 5
frame_bound [] frame p = absurd p
frame_bound (flag ∷ []) frame p = absurd p
frame_bound (flag ∷ a ∷ []) frame p = absurd p
frame_bound (flag ∷ a ∷ b ∷ []) frame p = absurd p
frame_bound (flag ∷ a ∷ b ∷ c ∷ []) frame p = absurd p
frame_bound (flag ∷ a ∷ b ∷ c ∷ d ∷ part) frame p = let fits = p.1 in omega (arith, fits)
