-- What is said of the frames of any job, and then of a whole run of a job that replies at once.
use Rattle.std.proofs.Common.{◌≡◌, ℕ, Bool, List, [], ◌∷◌, ◌++◌, Some, None, IfSome, refl, subst, append-nil}
use Rattle.std.specs.declared.option.Option.{Option}
use Rattle.lists.proofs.Growing.{each_after-push}
use Rattle.lists.proofs.Known.{Appends-trans, Appends-kept}
use Rattle.otap_capture.specs.declared.frame.Damage.{Damage}
use Rattle.otap_capture.specs.Capture.{Frame, IsCapture}
use Rattle.otap_capture.specs.Outside.{AppendsFront}
use Rattle.otap_capture.proofs.Known.{front_more, front_of_first, front_of_all}
use Rattle.otap_gateway.specs.declared.jobs.command.Command.{Command}
use Rattle.otap_gateway.specs.declared.runs.drive.Ended.{Ended}
use Rattle.otap_gateway.specs.Begun.{Begun, WritesBegun}
use Rattle.otap_gateway.specs.Commands.{ReplyOf}
use Rattle.otap_gateway.specs.Jobs.{Rule, History, Extends}
use Rattle.otap_gateway.specs.Reply.{ReplyText, out_text}
use Rattle.otap_gateway.specs.Runs.{Sinks, BeginsWith, WritesAll, WritesFront}
use Rattle.otap_gateway.specs.Turns.{Allows, Finishes, FinishesPart, TakesAll}
use Rattle.otap_gateway.proofs.Progress.{out_push, err_push}

-- a reply that extends a history is one that may be begun
pub begins_by : (R : Rule) (stands stands' : History) (number : ℕ) (frame : Frame) (reply : ReplyText) → Extends R stands stands' number frame reply → Allows R stands number frame reply
begins_by R stands stands' number frame reply e = record { at = λ frames replies count stood. (e.at frames replies count stood).0 }

module _ (job : Command) (left : Option (List ℕ)) (old : Sinks) where
  pub whole_all : {stands : History} {mid new : Sinks} {ended : Ended} {damaged : Bool} → TakesAll (ReplyOf job) stands left old mid ended → Finishes ended.end mid new damaged
      → WritesAll job left old new (record { refused = ended.refused; damaged = damaged })
  whole_all {ended = ended} t f = record {
    frames = t.frames;
    end = ended.end;
    replies = t.replies;
    capture = t.capture;
    texts = t.texts;
    out = Appends-kept _ _ _ _ t.out f.out;
    err = Appends-trans _ _ _ _ _ t.err f.err;
    flushed = f.flushed;
    refused = t.refused;
    damaged = f.same;
  }

  -- the line of the damage belongs to all frames
  whole_if : (end : Option Damage) (frames : List Frame) → IfSome left (λ bytes. IsCapture bytes frames end) → IfSome end (λ damage. IfSome left (λ bytes. IsCapture bytes frames (Some damage)))
  whole_if None frames capture = tt
  whole_if (Some damage) frames capture = capture

  capture_begins : (left' : Option (List ℕ)) (end : Option Damage) (frames : List Frame) → IfSome left' (λ bytes. IsCapture bytes frames end) → IfSome left' (λ bytes. BeginsWith bytes frames)
  capture_begins None end frames capture = tt
  capture_begins (Some bytes) end frames capture = (capture.front, capture.rest, capture.whole, capture.each)

  pub whole_end : {stands : History} {mid new : Sinks} {ended : Ended} → TakesAll (ReplyOf job) stands left old mid ended → FinishesPart ended.end mid new → WritesFront job left old new
  whole_end {ended = ended} t f = record {
    frames = t.frames;
    last = ended.end;
    replies = t.replies;
    begins = capture_begins left ended.end t.frames t.capture;
    all = whole_if ended.end t.frames t.capture;
    texts = t.texts;
    out = front_of_all _ _ _ (Appends-kept _ _ _ _ t.out f.out);
    err = front_more _ _ _ _ _ t.err f.err;
  }

  -- a reply that may be begun is one that may be made
  whole_by : {new : Sinks} (begun : Option Begun) (w : WritesBegun (ReplyOf job) (ReplyOf job) left old new) → w.begun ≡ begun → WritesFront job left old new
  whole_by None w is = record {
    frames = w.frames;
    last = None;
    replies = w.replies;
    begins = rw (is, append-nil w.frames) at w.begins;
    all = tt;
    texts = w.texts;
    out = rw (is, append-nil (out_text w.replies)) at w.out;
    err = rw is at w.err;
  }
  whole_by (Some b) w is = record {
    frames = w.frames ++ b.frame ∷ [];
    last = None;
    replies = w.replies ++ b.reply ∷ [];
    begins = rw is at w.begins;
    all = tt;
    texts = each_after-push (ReplyOf job) [] [] w.frames w.replies b.frame b.reply w.texts (rw is at w.allowed);
    out = subst (AppendsFront old.out.written _) (out_push w.replies b.reply) (rw is at w.out);
    err = front_of_first _ _ _ [] (subst (AppendsFront old.err.written _) (err_push w.replies b.reply) (rw is at w.err));
  }

  pub whole_front : {new : Sinks} → WritesBegun (ReplyOf job) (ReplyOf job) left old new → WritesFront job left old new
  whole_front w = whole_by w.begun w refl
