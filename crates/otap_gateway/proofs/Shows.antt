-- What `show` replies, from what the segment returns.
use Rattle.std.proofs.Common.{◌≡◌, ℕ, Bool, true, false, List, [], ◌∷◌, ◌++◌, length, Some, None, Option, refl, sym, ap, ◌∙◌, subst, append-nil}
use Rattle.std.specs.Prelude.{MatchBool, IfSome}
use Rattle.std.specs.Io.KnownBytes.{Appends}
use Rattle.otlp_model.specs.declared.request.Signal.{Signal}
use Rattle.otap_capture.specs.Batch.{BatchContent, ReadsBatch}
use Rattle.otap_capture.specs.Capture.{Frame, Message}
use Rattle.otap_capture.specs.Outside.{AppendsFront}
use Rattle.otap_cells.specs.Tables.{Table}
use Rattle.otap_consume.specs.declared.seen.Seen.{Seen}
use Rattle.otap_consume.specs.declared.seen.Seen.TheVariants as seen
use Rattle.otap_consume.specs.Defects.{tables_of}
use Rattle.otap_consume.specs.Outcomes.{Outcome, Accepted, Refused, Reset, GivesOutcome, StaysBroken, OutcomeAfter, is_broken, payloads_after}
use Rattle.otap_consume.specs.Segments.{SegmentIn, StandsFor, HasNext, Next, ReportsOutcome, IsNew}
use Rattle.otap_consume.proofs.SegmentSteps.{stands_first}
use Rattle.otap_gateway.specs.Reply.{ReplyText}
use Rattle.otap_gateway.specs.Runs.{Sinks, BeginsWith, WritesFront}
use Rattle.otap_gateway.specs.declared.jobs.command.Command.{Command}
use Rattle.otap_gateway.specs.EncodingSteps.{HasMore}
use Rattle.otap_gateway.specs.JobStates.{HasShown, HasRepliedBy}
use Rattle.otap_gateway.specs.Showing.{shown}
use Rattle.otap_gateway.specs.ShowingSeen.{ShowsSeen}
use Rattle.otap_gateway.specs.Replies.{IsReplyAfter}
use Rattle.otap_gateway.proofs.Replying.{is_reply_more}

-- a frame that gives an accepted batch
pub record IsAccepted (signal : Signal) (outcomes : List Outcome) (frame : Frame) (batch : BatchContent) (tables : List Table) : Type 0 where
  pub bytes : List ℕ
  pub message : frame ≡ Message bytes
  pub reads : ReadsBatch bytes batch
  pub same : tables ≡ tables_of signal (payloads_after outcomes) batch.payloads

accepted_from : (signal : Signal) (outcomes : List Outcome) (frame : Frame) (o : Outcome) (batch : BatchContent) (tables : List Table) → o ≡ Accepted batch tables
    → (b : Bool) → MatchBool b (StaysBroken frame o) (GivesOutcome signal (payloads_after outcomes) frame o) → IsAccepted signal outcomes frame batch tables
accepted_from signal outcomes frame o batch tables is true StaysBroken.compressed = absurd (cc is)
accepted_from signal outcomes frame o batch tables is true (StaysBroken.unreadable bytes refusal stands) = absurd (cc is)
accepted_from signal outcomes frame o batch tables is true (StaysBroken.readable bytes other reads) = absurd (cc is)
accepted_from signal outcomes frame o batch tables is true StaysBroken.resets = absurd (cc is)
accepted_from signal outcomes frame o batch tables is false GivesOutcome.compressed = absurd (cc is)
accepted_from signal outcomes frame o batch tables is false (GivesOutcome.unreadable bytes refusal stands) = absurd (cc is)
accepted_from signal outcomes frame o batch tables is false (GivesOutcome.refuses bytes other cause payload reads refuses) = absurd (cc is)
accepted_from signal outcomes frame o batch tables is false (GivesOutcome.accepts bytes other reads accepts) =
    let one : other ≡ batch = cc is in
    record {
      bytes = bytes;
      message = refl;
      reads = subst (ReadsBatch bytes) one reads;
      same = sym (cc is) ∙ ap (λ (b : BatchContent). tables_of signal (payloads_after outcomes) b.payloads) one;
    }
accepted_from signal outcomes frame o batch tables is false GivesOutcome.resets = absurd (cc is)

-- the reply is that of the outcome
module _ (signal : Signal) (outcomes : List Outcome) (frame : Frame) (number : ℕ) (new : SegmentIn) (reply : ReplyText) where
  text_of : (returned : Seen) (o : Outcome) → OutcomeAfter signal outcomes frame o → ReportsOutcome o returned → StandsFor signal (outcomes ++ o ∷ []) new → ShowsSeen frame new number returned reply
      → reply ≡ shown number o
  text_of (seen.Batch id rows) (Accepted batch tables) gives reports stands replies =
      let is : IsAccepted signal outcomes frame batch tables = accepted_from signal outcomes frame (Accepted batch tables) batch tables refl (is_broken outcomes) gives in
      replies.at signal outcomes is.bytes batch tables is.message is.reads stands ∙ ap (λ (ts : List Table). shown number (Accepted batch ts)) (sym is.same)
  text_of (seen.Batch id rows) (Refused refusal) gives reports stands replies = absurd reports
  text_of (seen.Batch id rows) Reset gives reports stands replies = absurd reports
  text_of (seen.Refused reported) (Accepted batch tables) gives reports stands replies = absurd reports
  text_of (seen.Refused reported) (Refused refusal) gives reports stands replies = replies ∙ ap (λ r. shown number (Refused r)) reports
  text_of (seen.Refused reported) Reset gives reports stands replies = absurd reports
  text_of seen.Reset (Accepted batch tables) gives reports stands replies = absurd reports
  text_of seen.Reset (Refused refusal) gives reports stands replies = absurd reports
  text_of seen.Reset Reset gives reports stands replies = replies

pub shows : (old new : SegmentIn) (frame : Frame) (returned : Seen) (number : ℕ) (reply : ReplyText) → Next old frame new returned → new.signal ≡ old.signal → ShowsSeen frame new number returned reply
    → (frames : List Frame) (replies : List ReplyText) → length frames ≡ number → HasShown old frames replies
    → IsReplyAfter (OutcomeAfter old.signal) shown frames replies frame reply × HasShown new (frames ++ frame ∷ []) (replies ++ reply ∷ [])
shows old new frame returned number reply next same replies frames before count history =
    let both =
    is_reply_more (OutcomeAfter old.signal) shown (λ os. StandsFor old.signal os old) (λ os. StandsFor old.signal os new) frame number reply
    (λ past outcomes gave stands. step outcomes (next.at old.signal outcomes stands)) frames before count history in
    (both.0, subst (λ (s : Signal). HasRepliedBy (OutcomeAfter s) shown (λ os. StandsFor s os new) (frames ++ frame ∷ []) (before ++ reply ∷ [])) (sym same) both.1)
  where
    step : (outcomes : List Outcome) → HasNext old.signal outcomes frame returned new → HasMore (OutcomeAfter old.signal) shown (λ os. StandsFor old.signal os new) outcomes frame number reply
    step outcomes n = record {
      outcome = n.outcome;
      gives = n.gives;
      says = text_of old.signal outcomes frame number new reply returned n.outcome n.gives n.reports n.stands replies;
      stands = n.stands;
    }

-- a segment at its start has taken no frames
pub shows_none : (signal : Signal) (s : SegmentIn) → IsNew signal s → HasShown s [] []
shows_none signal s new =
    record { outcomes = []; before = tt; so_far = refl; stood = stands_first s.signal s (record { same = refl; whole = new.whole; empty = new.empty }) }

-- ---- a run that found no memory at its start

appends_nothing : (o : Option (List ℕ)) → Appends o o []
appends_nothing None = tt
appends_nothing (Some bytes) = sym (append-nil bytes)

front_of_nothing : (o : Option (List ℕ)) → AppendsFront o o []
front_of_nothing o = record { front = []; rest = []; whole = refl; grown = appends_nothing o }

begins_with_none : (left : Option (List ℕ)) → IfSome left (λ bytes. BeginsWith bytes [])
begins_with_none None = tt
begins_with_none (Some bytes) = ([], bytes, refl, refl)

pub writes_nothing : (job : Command) (left : Option (List ℕ)) (s : Sinks) → WritesFront job left s s
writes_nothing job left s = record {
  frames = [];
  last = None;
  replies = [];
  begins = begins_with_none left;
  all = tt;
  texts = tt;
  out = front_of_nothing s.out.written;
  err = front_of_nothing s.err.written;
}
