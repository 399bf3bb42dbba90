-- Runs in which no count of faults rose.
use Rattle.std.proofs.Common.{◌≡◌, ◌⊎◌, inl, inr, ℕ, false, List, [], ◌++◌, Some, None, IfSome, Result, Ok, Err, refl, sym, ap, ◌∙◌, subst, append-nil}
use Rattle.std.specs.Prelude.{is_some}
use Rattle.std.specs.declared.option.Option.{Option}
use Rattle.std.specs.Io.KnownBytes.{Appends}
use Rattle.lists.specs.EachAfter.{EachAfter}
use Rattle.otap_capture.specs.declared.frame.Damage.{Damage}
use Rattle.otap_capture.specs.Capture.{Frame, IsCapture}
use Rattle.otap_capture.specs.Outside.{Rose}
use Rattle.otap_capture.proofs.OneCapture.{one_capture}
use Rattle.otap_gateway.specs.declared.jobs.command.Command.{Command}
use Rattle.otap_gateway.specs.declared.runs.stop.Stop.{Stop}
use Rattle.otap_gateway.specs.declared.runs.stop.Stop.TheVariants as stop
use Rattle.otap_gateway.specs.declared.runs.stop.Tally.{Tally}
use Rattle.otap_gateway.specs.Commands.{ReplyOf}
use Rattle.otap_gateway.specs.Lines.{end_text}
use Rattle.otap_gateway.specs.Reply.{err_text}
use Rattle.otap_gateway.specs.Runs.{World, Sinks, Runs, WritesAll, Completes, Leaves, CountsFaults, exit_status}

-- the capture that was written out is the one that ends well
pub same_capture : (left : Option (List ℕ)) (bytes : List ℕ) (frames others : List Frame) (end : Option Damage) → left ≡ Some bytes → IsCapture bytes frames None
    → IfSome left (λ bytes. IsCapture bytes others end) → (frames ≡ others) × (end ≡ None)
same_capture None bytes frames others end bytes_left capture other = let clash : None ≡ Some bytes = bytes_left in cc
same_capture (Some xs) bytes frames others end bytes_left capture other =
    let same : xs ≡ bytes = cc in
    let one = one_capture bytes frames others None end capture (subst (λ l. IsCapture l others end) same other) in
    (one.0, sym one.1)

-- a run that came to its end
completes : (job : Command) (left : Option (List ℕ)) (old new : Sinks) (tally : Tally) (bytes : List ℕ) (frames : List Frame) → WritesAll job left old new tally → left ≡ Some bytes
    → IsCapture bytes frames None → Completes job frames old new (exit_status (Ok tally))
completes job left old new tally bytes frames w bytes_left capture =
    let same = same_capture left bytes frames w.frames w.end bytes_left capture w.capture in
    let fine : tally.damaged ≡ false = w.damaged ∙ ap is_some same.1 in
    let no_end : err_text w.replies ++ end_text w.end ≡ err_text w.replies = ap (λ e. err_text w.replies ++ end_text e) same.1 ∙ append-nil (err_text w.replies) in
    record {
      replies = w.replies;
      texts = subst (λ l. EachAfter (ReplyOf job) [] [] l w.replies) (sym same.0) w.texts;
      out = w.out;
      err = subst (λ l. Appends old.err.written new.err.written l) no_end w.err;
      flushed = w.flushed;
      same = rw (fine, w.refused) refl;
    }

pub complete_runs : (job : Command) (old new : World) (status : ℕ) (bytes : List ℕ) (frames : List Frame)
    → Runs job old new status → old.left ≡ Some bytes → IsCapture bytes frames None
    → (Rose old.faults new.faults → ⊥)
    → (Rose old.sinks.out.faults new.sinks.out.faults → ⊥)
    → (Rose old.sinks.err.faults new.sinks.err.faults → ⊥)
    → (status ≡ 6) ⊎ Completes job frames old.sinks new.sinks status
complete_runs job old new status bytes frames run bytes_left capture source out err =
    subst (λ n. (n ≡ 6) ⊎ Completes job frames old.sinks new.sinks n) (sym run.same) (by_returned run.returned run.leaves run.faults)
  where
    by_returned : (returned : Result Tally Stop) → Leaves job old.left old.sinks new.sinks returned → CountsFaults old new returned
        → (exit_status returned ≡ 6) ⊎ Completes job frames old.sinks new.sinks (exit_status returned)
    by_returned (Ok tally) leaves faults = inr (completes job old.left old.sinks new.sinks tally bytes frames leaves bytes_left capture)
    by_returned (Err stop.Source) leaves faults = absurd (source faults.0)
    by_returned (Err stop.Sink) leaves faults = elim faults.1 [ inl failed ↦ absurd (out failed.out) | inr failed ↦ absurd (err failed.err) ]
    by_returned (Err stop.Memory) leaves faults = inl refl
