-- Runs of jobs that add something at the end, in which no count of faults rose.
use Rattle.std.proofs.Common.{◌≡◌, ◌⊎◌, inl, inr, ℕ, false, List, [], ◌++◌, Some, None, Result, Ok, Err, refl, sym, ap, ◌∙◌, subst}
use Rattle.std.specs.Prelude.{is_some}
use Rattle.std.specs.declared.option.Option.{Option}
use Rattle.std.specs.Io.KnownBytes.{Appends}
use Rattle.lists.specs.EachAfter.{EachAfter}
use Rattle.otap_capture.specs.Capture.{Frame, IsCapture}
use Rattle.otap_capture.specs.Outside.{Rose}
use Rattle.otap_gateway.specs.declared.jobs.ending.Ending.{Ending}
use Rattle.otap_gateway.specs.declared.runs.stop.Stop.TheVariants as stop
use Rattle.otap_gateway.specs.declared.runs.stop.Stop.{Stop}
use Rattle.otap_gateway.specs.declared.runs.stop.Tally.{Tally}
use Rattle.otap_gateway.specs.EndingRuns.{CompletesEnding, EndsAll, LeavesEnding, RunsEnding}
use Rattle.otap_gateway.specs.Endings.{AnswerOf, ClosingOf, closing_text}
use Rattle.otap_gateway.specs.Reply.{err_text}
use Rattle.otap_gateway.specs.Runs.{CountsFaults, Sinks, World, exit_status}
use Rattle.otap_gateway.proofs.FaultlessRuns.{same_capture}

completes : (job : Ending) (left : Option (List ℕ)) (old new : Sinks) (tally : Tally) (bytes : List ℕ) (frames : List Frame) → EndsAll job left old new tally → left ≡ Some bytes
    → IsCapture bytes frames None → CompletesEnding job frames old new (exit_status (Ok tally))
completes job left old new tally bytes frames w bytes_left capture =
    let same = same_capture left bytes frames w.frames w.end bytes_left capture w.capture in
    let fine : tally.damaged ≡ false = w.damaged ∙ ap is_some same.1 in
    let no_end : err_text w.replies ++ closing_text w.closing w.end ≡ err_text w.replies ++ (w.closing.before ++ w.closing.after)
    = ap (λ e. err_text w.replies ++ closing_text w.closing e) same.1 in
    record {
      replies = w.replies;
      closing = w.closing;
      texts = subst (λ l. EachAfter (AnswerOf job) [] [] l w.replies) (sym same.0) w.texts;
      closes = subst (λ l. ClosingOf job l w.replies w.closing) (sym same.0) w.closes;
      out = w.out;
      err = subst (λ l. Appends old.err.written new.err.written l) no_end w.err;
      flushed = w.flushed;
      same = rw (fine, w.refused) refl;
    }

pub complete_endings : (job : Ending) (old new : World) (status : ℕ) (bytes : List ℕ) (frames : List Frame)
    → RunsEnding job old new status → old.left ≡ Some bytes → IsCapture bytes frames None
    → (Rose old.faults new.faults → ⊥)
    → (Rose old.sinks.out.faults new.sinks.out.faults → ⊥)
    → (Rose old.sinks.err.faults new.sinks.err.faults → ⊥)
    → (status ≡ 6) ⊎ CompletesEnding job frames old.sinks new.sinks status
complete_endings job old new status bytes frames run bytes_left capture source out err =
    subst (λ n. (n ≡ 6) ⊎ CompletesEnding job frames old.sinks new.sinks n) (sym run.same) (by_returned run.returned run.leaves run.faults)
  where
    by_returned : (returned : Result Tally Stop) → LeavesEnding job old.left old.sinks new.sinks returned → CountsFaults old new returned
        → (exit_status returned ≡ 6) ⊎ CompletesEnding job frames old.sinks new.sinks (exit_status returned)
    by_returned (Ok tally) leaves faults = inr (completes job old.left old.sinks new.sinks tally bytes frames leaves bytes_left capture)
    by_returned (Err stop.Source) leaves faults = absurd (source faults.0)
    by_returned (Err stop.Sink) leaves faults = elim faults.1 [ inl failed ↦ absurd (out failed.out) | inr failed ↦ absurd (err failed.err) ]
    by_returned (Err stop.Memory) leaves faults = inl refl
