-- Every list of bytes has a capture.
use Rattle.std.proofs.Common.{◌≡◌, ◌⊎◌, inl, inr, ℕ, zero, suc, ◌+◌, ◌<◌, ◌≤◌, true, false, List, [], ◌∷◌, ◌++◌, length, take, drop, Some, None, refl, sym, ap, ◌∙◌, subst, append_assoc, length-append}
use Rattle.std.proofs.Common.{length-drop, take-append-drop, zero-add, add-zero, arith}
use Rattle.std.specs.Prelude.{nat_lt, nat_eq, not, ◌&&◌, ◌||◌}
use Rattle.std.specs.declared.option.Option.{Option}
use Rattle.std.proofs.lemmas.List.{length-take-le, nil_from_length}
use Rattle.std.proofs.lemmas.Bool.{cases_lt, cases_Bool, lt-ltb, le-ltb, lt-leb, le-leb}
use Rattle.std.proofs.lemmas.Bool.Decides.{nat_tests}
use Rattle.byteorder.specs.Endian.{big_number}
use Rattle.otap_capture.specs.declared.frame.Damage.{Damage}
use Rattle.otap_capture.specs.declared.frame.Why.{Why}
use Rattle.otap_capture.specs.declared.frame.Why.TheVariants.{Truncated, BadFrame, TooLong, Endless}
use Rattle.otap_capture.specs.Capture.{Frame, Message, Packed, Reset, Carries, IsFrame, AreFrames, EndsAt, IsCapture, head_reason, front_reason, longest_frame, capture_limit}

-- a flag and a length without a reason are those of a frame
record IsHead (flag size left : ℕ) : Type 0 where
  fits : size ≤ longest_frame
  room : size ≤ left
  frame : (part : List ℕ) → length part ≡ size → (f : Frame) × Carries flag part f

carried : (flag size : ℕ) → flag ≤ 2 → (flag ≡ 2 → size ≡ 0) → (part : List ℕ) → length part ≡ size → (f : Frame) × Carries flag part f
carried zero size low none part long = (Message part, (refl, refl))
carried (suc zero) size low none part long = (Packed, refl)
carried (suc (suc zero)) size low none part long = (Reset, (refl, nil_from_length part (long ∙ none refl)))
carried (suc (suc (suc flag))) size low none part long = absurd (omega arith)

-- what it means that a flag isn't bad
low_flag : (flag size : ℕ) → (nat_lt 2 flag || (nat_eq flag 2 && not (nat_eq size 0))) ≡ false → flag ≤ 2
low_flag flag size fine = grind (arith, nat_tests)

no_size : (flag size : ℕ) → (nat_lt 2 flag || (nat_eq flag 2 && not (nat_eq size 0))) ≡ false → flag ≡ 2 → size ≡ 0
no_size flag size fine reset = grind (arith, nat_tests)

head_of : (flag size left : ℕ) → ((why : Why) × (head_reason flag size left ≡ Some why)) ⊎ IsHead flag size left
head_of flag size left = by_flag (cases_Bool (nat_lt 2 flag || (nat_eq flag 2 && not (nat_eq size 0)))) (cases_lt longest_frame size) (cases_lt left size)
  where
    by_flag : (nat_lt 2 flag || (nat_eq flag 2 && not (nat_eq size 0)) ≡ true) ⊎ (nat_lt 2 flag || (nat_eq flag 2 && not (nat_eq size 0)) ≡ false)
        → (longest_frame < size) ⊎ (size ≤ longest_frame) → (left < size) ⊎ (size ≤ left) → ((why : Why) × (head_reason flag size left ≡ Some why)) ⊎ IsHead flag size left
    by_flag (inl bad) long short = inl (BadFrame, rw bad refl)
    by_flag (inr fine) (inl long) short = inl (TooLong, rw (fine, lt-ltb longest_frame size long) refl)
    by_flag (inr fine) (inr fits) (inl short) = inl (Truncated, rw (fine, le-ltb longest_frame size fits, lt-ltb left size short) refl)
    by_flag (inr fine) (inr fits) (inr room) = inr (record { fits = fits; room = room; frame = carried flag size (low_flag flag size fine) (no_size flag size fine) })

-- a frame at the front of bytes
record Begins (place : ℕ) (bytes : List ℕ) : Type 0 where
  front : List ℕ
  rest : List ℕ
  frame : Frame
  whole : bytes ≡ front ++ rest
  begins : place < capture_limit
  is_frame : IsFrame front frame
  shorter : length rest < length bytes

-- bytes after a head
after_head : (place flag a b c d : ℕ) (after : List ℕ) → place < capture_limit
    → ((end : Option Damage) × EndsAt place (flag ∷ a ∷ b ∷ c ∷ d ∷ after) end) ⊎ Begins place (flag ∷ a ∷ b ∷ c ∷ d ∷ after)
after_head place flag a b c d after below = by_head (head_of flag (big_number 4 (a ∷ b ∷ c ∷ d ∷ [])) (length after))
  where
    size : ℕ
    size = big_number 4 (a ∷ b ∷ c ∷ d ∷ [])

    by_head : ((why : Why) × (head_reason flag size (length after) ≡ Some why)) ⊎ IsHead flag size (length after)
        → ((end : Option Damage) × EndsAt place (flag ∷ a ∷ b ∷ c ∷ d ∷ after) end) ⊎ Begins place (flag ∷ a ∷ b ∷ c ∷ d ∷ after)
    by_head (inl bad) = inl (Some (record { at = place; why = bad.0 }), (refl, rw (lt-leb capture_limit place below) bad.1))
    by_head (inr head) =
        let part = take size after in
        let long : length part ≡ size = length-take-le size after head.room in
        let found = head.frame part long in
        inr (record {
          front = flag ∷ a ∷ b ∷ c ∷ d ∷ part;
          rest = drop size after;
          frame = found.0;
          whole = ap (λ l. flag ∷ a ∷ b ∷ c ∷ d ∷ l) (sym (take-append-drop size after));
          begins = below;
          is_frame = (long, rw long head.fits, found.1);
          shorter = omega (arith, length-drop size after);
        })

-- at an offset a frame begins, or a capture ends
here : (place : ℕ) (bytes : List ℕ) → ((end : Option Damage) × EndsAt place bytes end) ⊎ Begins place bytes
here place bytes = by_place (cases_lt place capture_limit)
  where
    cut : place < capture_limit → (bytes : List ℕ) → front_reason bytes ≡ Some Truncated → (end : Option Damage) × EndsAt place bytes end
    cut below bytes short = (Some (record { at = place; why = Truncated }), (refl, rw (lt-leb capture_limit place below) short))

    by_bytes : place < capture_limit → (bytes : List ℕ) → ((end : Option Damage) × EndsAt place bytes end) ⊎ Begins place bytes
    by_bytes below [] = inl (None, (refl, rw (lt-leb capture_limit place below) refl))
    by_bytes below (a ∷ []) = inl (cut below (a ∷ []) refl)
    by_bytes below (a ∷ b ∷ []) = inl (cut below (a ∷ b ∷ []) refl)
    by_bytes below (a ∷ b ∷ c ∷ []) = inl (cut below (a ∷ b ∷ c ∷ []) refl)
    by_bytes below (a ∷ b ∷ c ∷ d ∷ []) = inl (cut below (a ∷ b ∷ c ∷ d ∷ []) refl)
    by_bytes below (flag ∷ a ∷ b ∷ c ∷ d ∷ after) = after_head place flag a b c d after below

    by_place : (place < capture_limit) ⊎ (capture_limit ≤ place) → ((end : Option Damage) × EndsAt place bytes end) ⊎ Begins place bytes
    by_place (inl below) = by_bytes below bytes
    by_place (inr endless) = inl (Some (record { at = place; why = Endless }), (refl, rw (le-leb capture_limit place endless) refl))

-- a capture from an offset on
record Rest (place : ℕ) (bytes : List ℕ) : Type 0 where
  frames : List Frame
  end : Option Damage
  front : List ℕ
  rest : List ℕ
  whole : bytes ≡ front ++ rest
  each : AreFrames place front frames
  ends : EndsAt (place + length front) rest end

at_end : (place : ℕ) (bytes : List ℕ) (end : Option Damage) → EndsAt place bytes end → Rest place bytes
at_end place bytes end ends = record { frames = []; end = end; front = []; rest = bytes; whole = refl; each = refl; ends = rw (add-zero place) ends }

after_frame : (place : ℕ) (bytes : List ℕ) (b : Begins place bytes) → Rest (place + length b.front) b.rest → Rest place bytes
after_frame place bytes b more = record {
  frames = b.frame ∷ more.frames;
  end = more.end;
  front = b.front ++ more.front;
  rest = more.rest;
  whole = b.whole ∙ ap (λ l. b.front ++ l) more.whole ∙ sym (append_assoc b.front more.front more.rest);
  each = (b.front, more.front, refl, b.begins, b.is_frame, more.each);
  ends = let at : place + length b.front + length more.front ≡ place + length (b.front ++ more.front) = omega (arith, length-append b.front more.front) in
      subst (λ n. EndsAt n more.rest more.end) at more.ends;
}

-- the first number only bounds how far the recursion goes
from_place : (most place : ℕ) (bytes : List ℕ) → length bytes ≤ most → Rest place bytes
from_place zero place bytes within = by_step (here place bytes)
  where
    by_step : ((end : Option Damage) × EndsAt place bytes end) ⊎ Begins place bytes → Rest place bytes
    by_step (inl end) = at_end place bytes end.0 end.1
    by_step (inr b) = let shorter = b.shorter in absurd (omega arith)
from_place (suc most) place bytes within = by_step (here place bytes) (λ place bytes within. from_place most place bytes within)
  where
    by_step : ((end : Option Damage) × EndsAt place bytes end) ⊎ Begins place bytes → ((place : ℕ) (bytes : List ℕ) → length bytes ≤ most → Rest place bytes) → Rest place bytes
    by_step (inl end) go = at_end place bytes end.0 end.1
    by_step (inr b) go = let shorter = b.shorter in after_frame place bytes b (go (place + length b.front) b.rest (omega arith))

pub some_capture : (bytes : List ℕ) → (frames : List Frame) × (end : Option Damage) × IsCapture bytes frames end
some_capture bytes =
    let r = from_place (length bytes) 0 bytes (omega arith) in
    (r.frames, r.end, record { front = r.front; rest = r.rest; whole = r.whole; each = r.each; ends = rw (← zero-add (length r.front)) r.ends })
