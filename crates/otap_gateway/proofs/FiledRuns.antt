-- What `file` replies and adds at the end, by its state.
use Rattle.std.proofs.Common.{◌≡◌, inr, ℕ, List, [], ◌++◌, ◌∷◌, None, Result, Ok, Err, refl, sym, subst, arith}
use Rattle.otlp_model.specs.declared.request.Signal.{Signal}
use Rattle.otap_capture.specs.Capture.{Frame}
use Rattle.otap_cells.specs.declared.payload.Kind.{Kind}
use Rattle.otap_columns.specs.Streams.{open_id}
use Rattle.otap_consume.specs.Outcomes.{OutcomeAfter, payloads_after}
use Rattle.otap_consume.specs.Payloads.{payload_type_of}
use Rattle.otap_consume.specs.Segments.{SegmentIn, IsNew}
use Rattle.otap_consume.proofs.SegmentSteps.{stands_first}
use Rattle.otap_gateway.specs.declared.jobs.file.Substream.{Substream}
use Rattle.otap_gateway.specs.declared.jobs.file.TableFile.{TableFile}
use Rattle.otap_gateway.specs.declared.runs.handler.Handled.{Handled}
use Rattle.otap_gateway.specs.declared.runs.stop.Stop.{Stop}
use Rattle.otap_gateway.specs.Filing.{FileCloses, FilesFrame, chosen, filed, opened}
use Rattle.otap_gateway.specs.FilingSteps.{ClosesFile, HasFile, HasFrames, HasSomeFile, HaveOneSchema, IsNewSubstream, TakesFrame}
use Rattle.otap_gateway.specs.JobStates.{HasRepliedBy}
use Rattle.otap_gateway.specs.Jobs.{Extends, HasHistory}
use Rattle.otap_gateway.specs.Reply.{ReplyText, Closing}
use Rattle.otap_gateway.specs.Runs.{Sinks}
use Rattle.otap_gateway.specs.Turns.{Allows, Handles, WritesReply}
use Rattle.otap_gateway.proofs.AlikeTables.{are_alike}
use Rattle.otap_gateway.proofs.Replying.{is_reply_more}

pub some_file : (kind : Kind) (place : ℕ) (segment : SegmentIn) (s : Substream) (number : ℕ) → HasHistory (HasFrames kind place segment s) number → HasSomeFile kind segment s
some_file kind place segment s number h = record { number = place; outcomes = h.stood.outcomes; has = h.stood.stood }

module _ (kind : Kind) (place : ℕ) (old new : SegmentIn) (s s' : Substream) (number : ℕ) (frame : Frame) (reply : ReplyText) (same : new.signal ≡ old.signal)
    (takes : TakesFrame kind frame old new s s' number reply) where
  extends : Extends (FilesFrame old.signal) (HasFrames kind place old s) (HasFrames kind place new s') number frame reply
  extends = record {
    at = λ frames replies count stood.
        let both =
        is_reply_more (OutcomeAfter old.signal) filed (HasFile kind place old s) (HasFile kind place new s') frame number reply
        (λ past outcomes gave h. takes.at place outcomes h) frames replies count stood in
        (both.0, subst (λ (x : Signal). HasRepliedBy (OutcomeAfter x) filed (HasFile kind place new s') (frames ++ frame ∷ []) (replies ++ reply ∷ [])) (sym same) both.1);
  }

  allows : Allows (FilesFrame old.signal) (HasFrames kind place old s) number frame reply
  allows = record { at = λ frames replies count stood. (extends.at frames replies count stood).0 }

  -- a reply is written, or a front of it
  pub handled : (before now : Sinks) (r : Result Handled Stop) → WritesReply reply before now r
      → Handles (FilesFrame old.signal) (FilesFrame old.signal) (HasFrames kind place old s) (HasFrames kind place new s') number frame before now r
  handled before now (Ok h) w = record { reply = reply; follows = extends; out = w.out; err = w.err; same = w.same; quiet = w.quiet }
  handled before now (Err stop) w = inr (record { reply = reply; begins = allows; out = w.out; err = w.err })

-- at the start
none_opened : (kind : Kind) → opened kind [] ≡ 0
unfolding opened
none_opened kind = refl

none_chosen : (kind : Kind) (place : ℕ) → chosen kind place [] ≡ []
unfolding chosen
none_chosen kind place = refl

none_open : (kind : Kind) → open_id (payload_type_of kind) (payloads_after []) ≡ None
unfolding open_id payloads_after
none_open kind = refl

pub stood_first : (kind : Kind) (place : ℕ) (signal : Signal) (segment : SegmentIn) (s : Substream) → IsNew signal segment → IsNewSubstream place s → HasFrames kind place segment s [] []
stood_first kind place signal segment s new first = record {
  outcomes = [];
  before = tt;
  so_far = refl;
  stood = record {
    frames = stands_first segment.signal segment (record { same = refl; whole = new.whole; empty = new.empty });
    tables = record {
      position = rw (none_opened kind, first.position) (omega arith);
      current = rw (first.current, none_open kind) refl;
      file = rw (first.file, none_chosen kind place) refl;
    };
  };
}

-- at the end
pub closes : (kind : Kind) (place : ℕ) (segment : SegmentIn) (s : Substream) (file : TableFile) (closing : Closing) → file ≡ s.file → ClosesFile file closing
    → HaveOneSchema → (frames : List Frame) (replies : List ReplyText) → HasFrames kind place segment s frames replies → FileCloses segment.signal kind place frames replies closing
closes kind place segment s file closing same adds one_schema frames replies stood = record {
  outcomes = stood.outcomes;
  before = stood.before;
  so_far = stood.so_far;
  files = adds.at (chosen kind place stood.outcomes) (rw same stood.stood.tables.file) (are_alike segment.signal kind place one_schema frames stood.outcomes stood.before);
}
