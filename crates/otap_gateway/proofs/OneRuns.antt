-- All that `resend` writes is of one run of a resending exporter.
use Rattle.std.proofs.Common.{ℕ, List, [], ◌++◌, None, ◌∙◌, subst, append-nil}
use Rattle.std.specs.declared.option.Option.{Option}
use Rattle.std.specs.Io.KnownBytes.{Appends}
use Rattle.otap_capture.specs.Capture.{Frame}
use Rattle.otap_signals.specs.BySignal.{rows_by}
use Rattle.otlp_model.specs.declared.request.Signal.{Signal}
use Rattle.otap_gateway.specs.declared.jobs.ending.Ending.TheVariants as ending
use Rattle.otap_gateway.specs.declared.runs.stop.Tally.{Tally}
use Rattle.otap_gateway.specs.EndingRuns.{CompletesEnding, EndsAll}
use Rattle.otap_gateway.specs.Endings.{ClosingOf, closing_text}
use Rattle.otap_gateway.specs.OneRun.{GrowsByRun, IsOneRun}
use Rattle.otap_gateway.specs.Reply.{ReplyText, Closing, err_text, out_text}
use Rattle.otap_gateway.specs.Runs.{Sinks}
use Rattle.otap_gateway.proofs.ResentRuns.{of_frames}

pub one_run : (signal : Signal) (window : ℕ) (frames : List Frame) (replies : List ReplyText) (closing : Closing)
    → ClosingOf (ending.Resend signal window) frames replies closing → IsOneRun (rows_by signal) window frames replies closing
unfolding ClosingOf
one_run signal window frames replies closing closes = record {
  given = closes.given;
  gave = closes.before;
  run = of_frames (rows_by signal) window [] [] frames closes.given closes.before;
  texts = closes.so_far;
  last_line = closes.says;
}

pub grows_by_all : (signal : Signal) (window : ℕ) (left : Option (List ℕ)) (old new : Sinks) (tally : Tally)
    → (all : EndsAll (ending.Resend signal window) left old new tally) → GrowsByRun (rows_by signal) window all.frames all.end old new
grows_by_all signal window left old new tally all =
    let one = one_run signal window all.frames all.replies all.closing all.closes in
    record {
      given = one.given;
      gave = one.gave;
      run = one.run;
      out = subst (λ (l : List ℕ). Appends old.out.written new.out.written l)
          ((λ i. out_text (one.texts i) ++ (one.last_line i).out) ∙ append-nil _) all.out;
      err = subst (λ (l : List ℕ). Appends old.err.written new.err.written l)
          (λ i. err_text (one.texts i) ++ closing_text (one.last_line i) all.end) all.err;
    }

pub grows_by_completed : (signal : Signal) (window : ℕ) (frames : List Frame) (old new : Sinks) (status : ℕ)
    → CompletesEnding (ending.Resend signal window) frames old new status → GrowsByRun (rows_by signal) window frames None old new
grows_by_completed signal window frames old new status all =
    let one = one_run signal window frames all.replies all.closing all.closes in
    record {
      given = one.given;
      gave = one.gave;
      run = one.run;
      out = subst (λ (l : List ℕ). Appends old.out.written new.out.written l)
          ((λ i. out_text (one.texts i) ++ (one.last_line i).out) ∙ append-nil _) all.out;
      err = subst (λ (l : List ℕ). Appends old.err.written new.err.written l)
          (λ i. err_text (one.texts i) ++ ((one.last_line i).before ++ (one.last_line i).after)) all.err;
    }
