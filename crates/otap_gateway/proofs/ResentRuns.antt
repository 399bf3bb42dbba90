-- The calls that `resend` makes are a run of a resending exporter.
use Rattle.std.proofs.Common.{ℕ, List, [], ◌∷◌, ◌++◌, sym, subst}
use Rattle.lists.specs.EachAfter.{AllAfter, EachAfter}
use Rattle.lists.proofs.Growing.{all_after-append}
use Rattle.otap_capture.specs.Capture.{Frame}
use Rattle.otap_signals.specs.Meanings.{SignalRows}
use Rattle.otap_resend.specs.Runs.{Step}
use Rattle.otap_resend.specs.Turns as turns
use Rattle.otlp_model.specs.declared.request.Signal.{Signal}
use Rattle.otap_gateway.specs.declared.jobs.ending.Ending.TheVariants as ending
use Rattle.otap_signals.specs.BySignal.{rows_by}
use Rattle.otap_gateway.specs.Endings.{AnswerOf}
use Rattle.otap_gateway.specs.Reply.{ReplyText}
use Rattle.otap_gateway.specs.Resends.{Resent, BeginsAfter, EventGives, IsResent, MayStep, RequestGives, ResendsAfter, resent_text, steps_in, steps_of}
use Rattle.otap_gateway.specs.Resends as resends
use Rattle.otap_gateway.proofs.AllReplies.{gives_back}
use Rattle.otap_gateway.proofs.ResentFrames.{steps_more}

module _ (rows : SignalRows) (window : ℕ) where
  -- the calls of one frame
  of_request : (given : List Resent) (part : List ℕ) (gives : Resent) → RequestGives rows window given part gives → AllAfter (MayStep rows window) (steps_of given) (steps_in gives)
  of_request given part _ (resends.unread defect stands) = tt
  of_request given part _ (resends.sends q outcome reads may settled) = (may, tt)

  of_event : (given : List Resent) (bytes : List ℕ) (gives : Resent) → EventGives rows window given bytes gives → AllAfter (MayStep rows window) (steps_of given) (steps_in gives)
  of_event given bytes _ (resends.ill refusal refuses) = tt
  of_event given bytes gives (resends.request part _ reads is) = of_request given part gives is
  of_event given bytes gives (resends.status content _ reads is) =
      subst (λ (r : Resent). AllAfter (MayStep rows window) (steps_of given) (steps_in r)) (sym is.same) (is.may, tt)

  of_frame : (given : List Resent) (frame : Frame) (gives : Resent) → BeginsAfter rows window given frame gives → AllAfter (MayStep rows window) (steps_of given) (steps_in gives)
  of_frame given _ _ resends.compressed = tt
  of_frame given _ gives (resends.takes bytes _ is) = of_event given bytes gives is
  of_frame given _ _ (resends.resets messages is) = (turns.resets, is.each)

  -- and of all frames
  pub of_frames : (past : List Frame) (before : List Resent) (frames : List Frame) (given : List Resent)
      → EachAfter (λ gone was frame gives. ResendsAfter rows window was frame gives) past before frames given → AllAfter (MayStep rows window) (steps_of before) (steps_of given)
  of_frames past before [] [] each = tt
  of_frames past before [] (g ∷ gs) each = absurd each
  of_frames past before (f ∷ fs) [] each = absurd each
  of_frames past before (f ∷ fs) (g ∷ gs) each =
      all_after-append (MayStep rows window) (steps_of before) (steps_in g) (steps_of gs) (of_frame before f g each.0.begins)
      (subst (λ (l : List Step). AllAfter (MayStep rows window) l (steps_of gs)) (steps_more before g) (of_frames (past ++ f ∷ []) (before ++ g ∷ []) fs gs each.1))

pub texts_of_a_run : (signal : Signal) (window : ℕ) (frames : List Frame) (replies : List ReplyText) → EachAfter (AnswerOf (ending.Resend signal window)) [] [] frames replies
    → IsResent (rows_by signal) window frames replies
unfolding AnswerOf
texts_of_a_run signal window frames replies each =
    let back = gives_back (ResendsAfter (rows_by signal) window) resent_text frames replies each in
    record { given = back.0; gave = back.1; texts = back.2; run = of_frames (rows_by signal) window [] [] frames back.0 back.1 }
