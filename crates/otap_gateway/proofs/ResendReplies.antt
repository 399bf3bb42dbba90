-- What `resend` replies, and what it may begin and add, by its state.
use Rattle.std.proofs.Common.{◌≡◌, inr, ℕ, ◌<◌, false, List, [], ◌++◌, length, Option, Some, None, IfSome, Result, Ok, Err, refl, ◌∙◌, arith}
use Rattle.std.specs.Prelude.{codes}
use Rattle.std.specs.Io.KnownBytes.{Keeps}
use Rattle.lists.proofs.Growing.{each_after-length}
use Rattle.lists.proofs.Known.{Appends-nil, Keeps-refl}
use Rattle.otap_capture.specs.Capture.{Frame, Message, Packed, capture_limit, reset_frame}
use Rattle.otap_capture.specs.Capture as capture
use Rattle.otap_capture.proofs.Known.{front_of_none}
use Rattle.otap_signals.specs.Meanings.{SignalRows}
use Rattle.otap_resend.specs.Resenders.{ResenderIn, HasState}
use Rattle.otap_resend.specs.States.{new_state}
use Rattle.otap_gateway.specs.declared.jobs.resend.Counts.{Counts}
use Rattle.otap_gateway.specs.declared.runs.handler.Handled.{Handled}
use Rattle.otap_gateway.specs.declared.runs.stop.Stop.{Stop}
use Rattle.otap_gateway.specs.Begun.{WritesBegun}
use Rattle.otap_gateway.specs.EncodingSteps.{HasMore}
use Rattle.otap_gateway.specs.JobStates.{HasRepliedBy}
use Rattle.otap_gateway.specs.Jobs.{Extends, HasHistory, History, Rule}
use Rattle.otap_gateway.specs.Lines.{printed, refuses}
use Rattle.otap_gateway.specs.Reply.{ReplyText, Closing, adds_after}
use Rattle.otap_gateway.specs.Resends.{Resent, Begins, BeginsAfter, BeginsFrame, Ill, ResendCloses, ResendsAfter, ResendsFrame, counts_line, event_line, resent_text, state_by}
use Rattle.otap_gateway.specs.ResendingSteps.{AreFew, HasResent, HasSomeState, RestartsPart, RestartsWhole, TakesEvent, frames_of}
use Rattle.otap_gateway.specs.Runs.{BeginsWith, Sinks}
use Rattle.otap_gateway.specs.Turns.{Allows, Handles, Writes, WritesPart, WritesReply}
use Rattle.otap_gateway.proofs.Replying.{is_reply_more}
use Rattle.otap_gateway.proofs.ResentFrames.{still}

module _ (rows : SignalRows) (window : ℕ) where
  -- a resender and counts after what frames gave
  abbrev pub Stood : ResenderIn → Counts → History
  Stood r counts = HasRepliedBy (ResendsAfter rows window) resent_text (HasResent rows window r counts)

  abbrev More : ResenderIn → Counts → Frame → ℕ → ReplyText → List Resent → Type 0
  More new counts' frame number reply given = HasMore (ResendsAfter rows window) resent_text (HasResent rows window new counts') given frame number reply

  extends_by : (old new : ResenderIn) (counts counts' : Counts) (number : ℕ) (frame : Frame) (reply : ReplyText)
      → ((given : List Resent) → HasResent rows window old counts given → More new counts' frame number reply given)
      → Extends (ResendsFrame rows window) (Stood old counts) (Stood new counts') number frame reply
  extends_by old new counts counts' number frame reply step = record {
    at = is_reply_more (ResendsAfter rows window) resent_text (HasResent rows window old counts) (HasResent rows window new counts') frame number reply
        (λ past given before h. step given h);
  }

  pub event_extends : (old new : ResenderIn) (counts counts' : Counts) (number : ℕ) (bytes : List ℕ) (reply : ReplyText) → TakesEvent rows old new counts counts' number bytes reply
      → Extends (ResendsFrame rows window) (Stood old counts) (Stood new counts') number (Message bytes) reply
  event_extends old new counts counts' number bytes reply taken =
      extends_by old new counts counts' number (Message bytes) reply
      (λ given h. let m = taken.at window given h in
      record { outcome = m.gives; gives = record { begins = BeginsAfter.takes bytes m.gives m.is; whole = m.stands.calm.written }; says = m.says; stands = m.stands })

  pub packed_extends : (r : ResenderIn) (counts : Counts) (number : ℕ) (reply : ReplyText) → reply ≡ refuses (event_line number (codes "Compressed"))
      → Extends (ResendsFrame rows window) (Stood r counts) (Stood r counts) number Packed reply
  packed_extends r counts number reply says =
      extends_by r r counts counts number Packed reply
      (λ given h. let after = still rows window r counts given (Ill (codes "Compressed")) refl h in
      record { outcome = Ill (codes "Compressed"); gives = record { begins = BeginsAfter.compressed; whole = after.calm.written }; says = says; stands = after })

  pub reset_extends : (old new : ResenderIn) (counts : Counts) (number : ℕ) (written written' : Option (List ℕ)) (w : RestartsWhole rows old new written written')
      → Extends (ResendsFrame rows window) (Stood old counts) (Stood new counts) number capture.Reset (printed (reset_frame ++ frames_of w.messages))
  reset_extends old new counts number written written' w =
      extends_by old new counts counts number capture.Reset (printed (reset_frame ++ frames_of w.messages))
      (λ given h. let m = w.at window given counts h in
      record { outcome = Begins w.messages; gives = record { begins = BeginsAfter.resets w.messages m.0; whole = m.1.calm.written }; says = refl; stands = m.1 })

  -- a whole reply is one that may be begun
  pub begins_whole : (stands stands' : History) (number : ℕ) (frame : Frame) (reply : ReplyText) → Extends (ResendsFrame rows window) stands stands' number frame reply
      → Allows (BeginsFrame rows window) stands number frame reply
  begins_whole stands stands' number frame reply e = record {
    at = λ frames replies count stood.
        let r = (e.at frames replies count stood).0 in
        record { given = r.outcomes; before = r.before; so_far = r.so_far; gives = r.outcome; begins = r.gives.begins; says = r.says };
  }

  pub reset_begins : (old : ResenderIn) (counts : Counts) (number : ℕ) (written written' : Option (List ℕ)) (p : RestartsPart rows old written written')
      → Allows (BeginsFrame rows window) (Stood old counts) number capture.Reset (printed (reset_frame ++ frames_of p.messages))
  reset_begins old counts number written written' p = record {
    at = λ frames replies count stood. record {
      given = stood.outcomes;
      before = stood.before;
      so_far = stood.so_far;
      gives = Begins p.messages;
      begins = BeginsAfter.resets p.messages (p.at window stood.outcomes counts stood.stood);
      says = refl;
    };
  }

  -- ---- a reply is written, or a front of it

  replied : (stands stands' : History) (number : ℕ) (frame : Frame) (reply : ReplyText) (before now : Sinks) (r : Result Handled Stop) → WritesReply reply before now r
      → Extends (ResendsFrame rows window) stands stands' number frame reply → Handles (ResendsFrame rows window) (BeginsFrame rows window) stands stands' number frame before now r
  replied stands stands' number frame reply before now (Ok handled) w e =
      record { reply = reply; follows = e; out = w.out; err = w.err; same = w.same; quiet = w.quiet }
  replied stands stands' number frame reply before now (Err stop) w e =
      inr (record { reply = reply; begins = begins_whole stands stands' number frame reply e; out = w.out; err = w.err })

  pub event_handled : (old new : ResenderIn) (counts counts' : Counts) (number : ℕ) (bytes : List ℕ) (reply : ReplyText) (before now : Sinks) (r : Result Handled Stop)
      → WritesReply reply before now r → TakesEvent rows old new counts counts' number bytes reply
      → Handles (ResendsFrame rows window) (BeginsFrame rows window) (Stood old counts) (Stood new counts') number (Message bytes) before now r
  event_handled old new counts counts' number bytes reply before now r w taken =
      replied (Stood old counts) (Stood new counts') number (Message bytes) reply before now r w (event_extends old new counts counts' number bytes reply taken)

  pub packed_handled : (old : ResenderIn) (counts : Counts) (number : ℕ) (reply : ReplyText) (before now : Sinks) (r : Result Handled Stop) → WritesReply reply before now r
      → reply ≡ refuses (event_line number (codes "Compressed"))
      → Handles (ResendsFrame rows window) (BeginsFrame rows window) (Stood old counts) (Stood old counts) number Packed before now r
  packed_handled old counts number reply before now r w says =
      replied (Stood old counts) (Stood old counts) number Packed reply before now r w (packed_extends old counts number reply says)

  pub reset_handled : (old new : ResenderIn) (counts : Counts) (number : ℕ) (before now : Sinks) (handled : Handled) → RestartsWhole rows old new before.out.written now.out.written
      → Keeps before.err.written now.err.written → handled.refused ≡ false → (handled.wrote ≡ false → ⊥)
      → Writes (ResendsFrame rows window) (Stood old counts) (Stood new counts) number capture.Reset before now handled
  reset_handled old new counts number before now handled w err same wrote = record {
    reply = printed (reset_frame ++ frames_of w.messages);
    follows = reset_extends old new counts number before.out.written now.out.written w;
    out = w.out;
    err = Appends-nil before.err.written now.err.written err;
    same = same;
    quiet = λ quiet. absurd (wrote quiet);
  }

  pub reset_begun : (old : ResenderIn) (counts : Counts) (number : ℕ) (before now : Sinks) → RestartsPart rows old before.out.written now.out.written
      → Keeps before.err.written now.err.written → WritesPart (BeginsFrame rows window) (Stood old counts) number capture.Reset before now
  reset_begun old counts number before now p err = record {
    reply = printed (reset_frame ++ frames_of p.messages);
    begins = reset_begins old counts number before.out.written now.out.written p;
    out = p.out;
    err = front_of_none before.err.written now.err.written [] err;
  }

  -- ---- the start, and numbers that can still grow

  pub stood_first : (r : ResenderIn) (counts : Counts) → HasState rows (new_state window) r → counts.done ≡ 0 → counts.given_up ≡ 0 → Stood r counts [] []
  stood_first r counts has done given_up = record {
    outcomes = [];
    before = tt;
    so_far = refl;
    stood = record {
      state = has;
      calm = record { written = refl; sound = refl };
      numbers = record { done = done; given_up = given_up; few_sent = omega arith; few_done = omega arith; few_given_up = omega arith };
    };
  }

  pub some_stood : (r : ResenderIn) (counts : Counts) (number : ℕ) → HasHistory (Stood r counts) number → HasSomeState rows r
  some_stood r counts number h = record { state = state_by window h.stood.outcomes; has = h.stood.stood.state }

  pub are_few : (r : ResenderIn) (counts : Counts) (number : ℕ) → HasHistory (Stood r counts) number → number < capture_limit → AreFew r counts
  are_few r counts number h few =
      let given : List Resent = h.stood.outcomes in
      let long : length h.frames ≡ length given = each_after-length (λ past before f o. ResendsAfter rows window before f o) [] [] h.frames given h.stood.before in
      let count = h.count in
      let c = h.stood.stood.numbers in
      let few_sent = c.few_sent in
      let few_done = c.few_done in
      let few_given_up = c.few_given_up in
      let sent = h.stood.stood.state.sent in
      let done = c.done in
      let given_up = c.given_up in
      record {
        sent = omega (arith, long, count, few, few_sent, sent);
        done = omega (arith, long, count, few, few_done, done);
        given_up = omega (arith, long, count, few, few_given_up, given_up);
      }

  -- ---- the last line

  pub closes : (r : ResenderIn) (counts : Counts) (closing : Closing) → closing ≡ adds_after (counts_line r.sent counts.done counts.given_up (length r.unanswered))
      → (frames : List Frame) (replies : List ReplyText) → Stood r counts frames replies → ResendCloses rows window frames replies closing
  closes r counts closing is frames replies stood =
      let c = stood.stood.numbers in
      let has = stood.stood.state in
      record {
        given = stood.outcomes;
        before = stood.before;
        so_far = stood.so_far;
        says = is ∙ (λ i. adds_after (counts_line (has.sent i) (c.done i) (c.given_up i) (length (has.unanswered i))));
      }

-- ---- a run that stops at once

begins_none : (left : Option (List ℕ)) → IfSome left (λ bytes. BeginsWith bytes [])
begins_none None = tt
begins_none (Some bytes) = ([], bytes, refl, refl)

pub begins_nothing : (R B : Rule) (left : Option (List ℕ)) (s : Sinks) → WritesBegun R B left s s
begins_nothing R B left s = record {
  frames = [];
  replies = [];
  begun = None;
  begins = begins_none left;
  texts = tt;
  allowed = tt;
  out = front_of_none s.out.written s.out.written [] (Keeps-refl s.out.written);
  err = front_of_none s.err.written s.err.written [] (Keeps-refl s.err.written);
}
