-- A reader that waits for more bytes keeps fewer than the longest frame has with its head, so it doesn't wait for ever.
use Rattle.std.proofs.Common.{◌≡◌, ◌⊎◌, inl, inr, ℕ, suc, ◌+◌, ◌-◌, ◌<◌, ◌≤◌, true, false, List, [], ◌∷◌, length, Some, None, ap, arith}
use Rattle.std.specs.Prelude.{nat_lt, nat_eq, not, ◌&&◌, ◌||◌, if◌then◌else◌}
use Rattle.std.proofs.lemmas.Bool.{cases_lt, cases_Bool, lt-ltb, le-ltb}
use Rattle.byteorder.specs.Endian.{big_number}
use Rattle.otap_capture.specs.declared.frame.Why.TheVariants.{Truncated, BadFrame, TooLong}
use Rattle.otap_capture.specs.Capture.{head_reason, longest_frame}
use Rattle.otap_capture.specs.Cutting.{KeepsMore}
use Rattle.otap_capture.specs.Deciding.{IsShort}
use Rattle.otap_capture.specs.Reading.{Reading, IsWaiting}

few_left : (flag size left : ℕ) → head_reason flag size left ≡ Some Truncated → left < longest_frame
few_left flag size left e = by_cases (cases_Bool (nat_lt 2 flag || (nat_eq flag 2 && not (nat_eq size 0)))) (cases_lt longest_frame size) (cases_lt left size)
  where
    by_cases : (nat_lt 2 flag || (nat_eq flag 2 && not (nat_eq size 0)) ≡ true) ⊎ (nat_lt 2 flag || (nat_eq flag 2 && not (nat_eq size 0)) ≡ false)
        → (longest_frame < size) ⊎ (size ≤ longest_frame) → (left < size) ⊎ (size ≤ left) → left < longest_frame
    by_cases (inl bad) long short = let clash : Some BadFrame ≡ Some Truncated = rw bad at e in cc
    by_cases (inr fine) (inl long) short = let clash : Some TooLong ≡ Some Truncated = rw (fine, lt-ltb longest_frame size long) at e in cc
    by_cases (inr fine) (inr fits) (inl short) = omega (arith, fits, short)
    by_cases (inr fine) (inr fits) (inr room) = let clash : None ≡ Some Truncated = rw (fine, le-ltb longest_frame size fits, le-ltb left size room) at e in cc

short_length : (bytes : List ℕ) → IsShort bytes → length bytes < longest_frame + 5
short_length bytes (inl none) = let e = ap length none in omega (arith, e)
short_length [] (inr e) = omega arith
short_length (a ∷ []) (inr e) = omega arith
short_length (a ∷ b ∷ []) (inr e) = omega arith
short_length (a ∷ b ∷ c ∷ []) (inr e) = omega arith
short_length (a ∷ b ∷ c ∷ d ∷ []) (inr e) = omega arith
short_length (flag ∷ a ∷ b ∷ c ∷ d ∷ rest) (inr e) = let few = few_left flag (big_number 4 (a ∷ b ∷ c ∷ d ∷ [])) (length rest) e in omega (arith, few)

-- a number that falls with each piece: 0 at the end of the source, else one more than the bytes that the longest frame still lacks
abbrev pub still_to_take : Reading → ℕ
still_to_take reading = if reading.complete then 0 else suc (longest_frame + 5 - length reading.kept)

pub takes_less : (old new : Reading) → IsWaiting old → KeepsMore old new → still_to_take new < still_to_take old
takes_less old new waiting grows = rw waiting.unread (by_cases grows (cases_Bool new.complete))
  where
    by_cases : KeepsMore old new → (new.complete ≡ true) ⊎ (new.complete ≡ false) → still_to_take new < suc (longest_frame + 5 - length old.kept)
    by_cases grown (inl done) = rw done (omega arith)
    by_cases (inl done) (inr more) = rw done (omega arith)
    by_cases (inr longer) (inr more) = let few = short_length old.kept waiting.is_open.1 in rw more (omega (arith, longer, few))
