-- What is said of the frames of any job, and then of a whole run of a job that adds something at the end.
use Rattle.std.proofs.Common.{◌≡◌, inl, inr, ℕ, Bool, List, [], ◌++◌, Some, None, IfSome, ap, subst, append-nil}
use Rattle.std.specs.Prelude.{◌||◌}
use Rattle.std.specs.declared.option.Option.{Option}
use Rattle.std.specs.Io.KnownBytes.{Appends}
use Rattle.lists.proofs.Known.{Appends-trans}
use Rattle.otap_capture.specs.declared.frame.Damage.{Damage}
use Rattle.otap_capture.specs.Capture.{Frame, IsCapture}
use Rattle.otap_capture.proofs.Known.{front_more, front_of_first, front_of_all}
use Rattle.otap_gateway.specs.declared.jobs.ending.Ending.{Ending}
use Rattle.otap_gateway.specs.declared.runs.drive.Ended.{Ended}
use Rattle.otap_gateway.specs.EndingRuns.{EndsAll, EndsFront, GrowsInTurn}
use Rattle.otap_gateway.specs.Endings.{Ends, AnswerOf, ClosingOf, closing_text}
use Rattle.otap_gateway.specs.Jobs.{History}
use Rattle.otap_gateway.specs.Reply.{ReplyText, Closing, out_text, err_text}
use Rattle.otap_gateway.specs.Runs.{Sinks, BeginsWith}
use Rattle.otap_gateway.specs.Turns.{TakesAll, Adds}

pub ends_same : (a b : Ending) → Ends a ≡ Ends b → a ≡ b
ends_same a b same = cc

pub closes_for : (a b : Ending) (stands : History) (closing : Closing) → a ≡ b
    → ((frames : List Frame) (replies : List ReplyText) → stands frames replies → ClosingOf a frames replies closing)
    → (frames : List Frame) (replies : List ReplyText) → stands frames replies → ClosingOf b frames replies closing
closes_for a b stands closing same closes =
    subst (λ (e : Ending). (frames : List Frame) (replies : List ReplyText) → stands frames replies → ClosingOf e frames replies closing) same closes

module _ (job : Ending) (left : Option (List ℕ)) (old : Sinks) where
  pub ending_all : {stands : History} {mid new : Sinks} {ended : Ended} {damaged : Bool} (closing : Closing) → TakesAll (AnswerOf job) stands left old mid ended
      → ((frames : List Frame) (replies : List ReplyText) → stands frames replies → ClosingOf job frames replies closing)
      → Adds closing ended.end mid new damaged → EndsAll job left old new (record { refused = ended.refused || closing.refused; damaged = damaged })
  ending_all {ended = ended} closing t closes a = record {
    frames = t.frames;
    end = ended.end;
    replies = t.replies;
    closing = closing;
    capture = t.capture;
    texts = t.texts;
    closes = closes t.frames t.replies t.history;
    out = Appends-trans _ _ _ _ _ t.out a.out;
    err = Appends-trans _ _ _ _ _ t.err a.err;
    flushed = a.flushed;
    refused = ap (λ b. b || closing.refused) t.refused;
    damaged = a.same;
  }

  -- nothing is added
  pub ending_none : {stands : History} {mid : Sinks} {ended : Ended} → TakesAll (AnswerOf job) stands left old mid ended → EndsFront job left old mid
  ending_none {ended = ended} t = inl (record {
    frames = t.frames;
    replies = t.replies;
    begun = None;
    begins = begins left t.capture;
    texts = t.texts;
    allowed = tt;
    out = front_of_first _ _ _ [] (front_of_all _ _ _ t.out);
    err = front_of_first _ _ _ [] (front_of_all _ _ _ t.err);
  })
    where
      begins : (left' : Option (List ℕ)) → IfSome left' (λ bytes. IsCapture bytes t.frames ended.end) → IfSome left' (λ bytes. BeginsWith bytes (t.frames ++ []))
      begins None capture = tt
      begins (Some bytes) capture = (capture.front, capture.rest, capture.whole, rw (append-nil t.frames) capture.each)

  grown : (mid new : Sinks) (outs errs : List ℕ) (closing : Closing) (end : Option Damage) → Appends old.out.written mid.out.written outs → Appends old.err.written mid.err.written errs
      → GrowsInTurn mid new [] closing.out [] (closing_text closing end) → GrowsInTurn old new outs closing.out errs (closing_text closing end)
  grown mid new outs errs closing end out err (inl both) =
      inl (front_more _ _ _ _ _ out both.0, subst (Appends old.err.written _) (append-nil errs) (Appends-trans _ _ _ _ _ err both.1))
  grown mid new outs errs closing end out err (inr both) = inr (Appends-trans _ _ _ _ _ out both.0, front_more _ _ _ _ _ err both.1)

  pub ending_part : {stands : History} {mid new : Sinks} {ended : Ended} (closing : Closing) → TakesAll (AnswerOf job) stands left old mid ended
      → ((frames : List Frame) (replies : List ReplyText) → stands frames replies → ClosingOf job frames replies closing)
      → GrowsInTurn mid new [] closing.out [] (closing_text closing ended.end) → EndsFront job left old new
  ending_part {mid = mid} {new = new} {ended = ended} closing t closes grows = inr (record {
    frames = t.frames;
    end = ended.end;
    replies = t.replies;
    closing = closing;
    capture = t.capture;
    texts = t.texts;
    closes = closes t.frames t.replies t.history;
    grows = grown mid new (out_text t.replies) (err_text t.replies) closing ended.end t.out t.err grows;
  })
