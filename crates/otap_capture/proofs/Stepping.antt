-- What is ahead of a reading, as bytes are taken from the source and frames are cut.
use Rattle.std.proofs.Common.{◌≡◌, ℕ, ◌+◌, Bool, true, false, List, ◌++◌, length, Some, None, IfSome, IfNone, Ok, refl, sym, ap, ◌∙◌, subst, append_assoc, arith}
use Rattle.std.specs.Prelude.{if◌then◌else◌}
use Rattle.std.specs.declared.option.Option.{Option}
use Rattle.std.specs.Io.KnownBytes.{Consumes, Keeps, prepend_known}
use Rattle.otap_capture.specs.declared.frame.Damage.{Damage}
use Rattle.otap_capture.specs.declared.frame.Step.{Step}
use Rattle.otap_capture.specs.declared.frame.Step.TheVariants as step
use Rattle.otap_capture.specs.Capture.{EndsAt}
use Rattle.otap_capture.specs.Cutting.{Cuts, CutsFrame, CutsEnd, Fills, IsDecided}
use Rattle.otap_capture.specs.Deciding.{IsOpen}
use Rattle.otap_capture.specs.Reading.{Reading, ahead, ReadsOn, TakesFrame, ComesToEnd}
use Rattle.otap_capture.proofs.Decided.{ends_more}
use Rattle.otap_capture.proofs.Framing.{frame_length}

-- a front of what is kept is one of what is ahead
ahead_cut : (complete : Bool) (kept front rest : List ℕ) (left : Option (List ℕ)) → kept ≡ front ++ rest
    → Consumes (if complete then Some kept else prepend_known kept left) (if complete then Some rest else prepend_known rest left) front
ahead_cut true kept front rest left whole = whole
ahead_cut false kept front rest None whole = tt
ahead_cut false kept front rest (Some xs) whole = ap (λ l. l ++ xs) whole ∙ append_assoc front rest xs

-- a decided end of what is kept is one of what is ahead
ahead_ends : (complete : Bool) (place : ℕ) (kept : List ℕ) (left : Option (List ℕ)) (end : Option Damage)
    → (complete ≡ false → IsOpen place kept → ⊥) → EndsAt place kept end
    → IfSome (if complete then Some kept else prepend_known kept left) (λ rest. EndsAt place rest end)
ahead_ends true place kept left end decided ends = ends
ahead_ends false place kept None end decided ends = tt
ahead_ends false place kept (Some xs) end decided ends = ends_more place kept xs end (decided refl) ends

Keeps-Consumes : (a b c : Option (List ℕ)) (bs : List ℕ) → Keeps a b → Consumes b c bs → Consumes a c bs
Keeps-Consumes None b c bs p q = tt
Keeps-Consumes (Some xs) None c bs p q = absurd p
Keeps-Consumes (Some xs) (Some ys) None bs p q = absurd q
Keeps-Consumes (Some xs) (Some ys) (Some zs) bs p q = sym p ∙ q

Keeps-IfSome : (a b : Option (List ℕ)) (P : List ℕ → Type 0) → Keeps a b → IfSome b P → IfSome a P
Keeps-IfSome None b P p q = tt
Keeps-IfSome (Some xs) None P p q = absurd p
Keeps-IfSome (Some xs) (Some ys) P p q = subst P p q

module _ (old mid new : Reading) (left left' : Option (List ℕ))
    (fills : Fills (record old { frame = None }) mid (ahead old left) (ahead mid left')) (decided : IsDecided mid) where
  takes_frame : old.ended ≡ None → CutsFrame mid new → TakesFrame old new (ahead old left) (ahead new left')
  takes_frame open_end cut = record {
    front = cut.front;
    frame = cut.frame;
    is_frame = cut.is_frame;
    begins = rw (← fills.handed) cut.begins;
    taken = Keeps-Consumes _ _ _ cut.front fills.same (rw cut.complete (ahead_cut mid.complete mid.kept cut.front new.kept left' cut.kept));
    handed = cut.handed ∙ ap (λ n. n + length cut.front) fills.handed;
    further = let long = frame_length cut.front cut.frame cut.is_frame in let at = cut.handed in let before = fills.handed in omega arith;
    shown = cut.shown;
    goes_on = cut.ended ∙ fills.ended ∙ open_end;
  }

  comes_to_end : old.ended ≡ None → (end : Option Damage) → CutsEnd mid new end → ComesToEnd old new (ahead old left) (ahead new left') end
  comes_to_end open_end end cut = record {
    same = rw (cut.complete, cut.kept) fills.same;
    ends = Keeps-IfSome _ _ _ fills.same (rw (← fills.handed) (ahead_ends mid.complete mid.handed mid.kept left' end
        (λ unread is_open. decided (record { goes_on = fills.ended ∙ open_end; unread = unread; is_open = is_open })) cut.ends));
    handed = cut.handed ∙ fills.handed;
    shown = cut.shown ∙ fills.shown;
    ended = cut.ended;
  }

  -- a step is taken where no end was returned before
  pub goes_on : (s : Step) → Cuts mid new s → IfNone old.ended (ReadsOn old new (ahead old left) (ahead new left') (Ok s))
  goes_on s cut = unless_ended old.ended refl s cut
    where
      unless_ended : (ended : Option Step) → old.ended ≡ ended → (s : Step) → Cuts mid new s → IfNone ended (ReadsOn old new (ahead old left) (ahead new left') (Ok s))
      unless_ended (Some x) is s cut = tt
      unless_ended None is step.Frame cut = takes_frame is cut
      unless_ended None is step.End cut = comes_to_end is None cut
      unless_ended None is (step.Damage damage) cut = comes_to_end is (Some damage) cut
