-- The bytes that `resend` writes are the frames of what was sent, all of which was allowed.
use Rattle.std.proofs.Common.{◌≡◌, ℕ, ℤ, suc, ◌<◌, List, [], ◌∷◌, ◌++◌, length, map, Some, None, refl, sym, ap, ◌∙◌, subst, append-nil, append_assoc}
use Rattle.std.specs.Prelude.{Option, find, fold}
use Rattle.std.specs.List.{flat_map}
use Rattle.std.proofs.lemmas.Grind.{flat_map-append}
use Rattle.std.proofs.lemmas.List.Sums.{fold-append}
use Rattle.lists.specs.EachAfter.{AllAfter, EachAfter}
use Rattle.lists.proofs.Growing.{all_after-append, each_after-last}
use Rattle.otlp_model.specs.declared.request.Request.{Request}
use Rattle.otlp_model.specs.declared.request.Signal.{Signal}
use Rattle.otap_capture.specs.Capture.{Frame, IsCapture, IsFrame, capture_limit, message_frame, reset_frame}
use Rattle.otap_capture.specs.Capture as capture
use Rattle.otap_signals.specs.BySignal.{meaning_by, rows_by}
use Rattle.otap_signals.specs.Meanings.{SignalRows}
use Rattle.otap_produce.specs.Policy.{IsMessageOf, Policy}
use Rattle.otap_resend.specs.declared.unanswered.Unanswered.{Unanswered}
use Rattle.otap_resend.specs.Runs.{Step, state_after}
use Rattle.otap_resend.specs.States.{State, Call, Send, Answer, Resend, Outcome, Wrote, Refused, OutOfMemory, Done, GivenUp, Kept, Unknown, Nothing, is_unwritten, new_state, next, request_if, with_first_written}
use Rattle.otap_resend.specs.Turns.{IsNextMessage, MayGive}
use Rattle.otap_resend.specs.Turns as turns
use Rattle.otap_transit.specs.Sendings.{Sending, Sent, AreAllowed, IsAllowed, frame_sent, messages_since, requests_since}
use Rattle.otap_transit.proofs.SendingsGrown.{messages_reset, messages_sent, requests_reset, requests_sent}
use Rattle.otap_gateway.specs.Encoding.{Arrives}
use Rattle.otap_gateway.specs.OneRun.{IsReadBack, sendings_from, sendings_in, sent_by, texts_of}
use Rattle.otap_gateway.specs.Reply.{out_text}
use Rattle.otap_gateway.specs.Replies.{Gave, replies_from}
use Rattle.otap_gateway.specs.Resends.{Resent, Calls, BeginsAfter, EventGives, MayStep, RequestGives, ResendsAfter, reset_step, resend_step, resent_text, state_by, steps_in, steps_of}
use Rattle.otap_gateway.specs.Resends as resends
use Rattle.otap_gateway.proofs.ResentFrames.{steps_more}
use Rattle.otap_gateway.proofs.ResentRuns.{of_frames}
use Rattle.otap_gateway.proofs.RewrittenFrames.{after_more}
use Rattle.otap_gateway.proofs.SentSoFar.{messages_first, requests_first}
use Rattle.otap_gateway.proofs.WrittenCaptures.{MessagesAreRead}
use Rattle.otap_gateway.proofs.WrittenFrames.{sent_capture, spelled}

-- ---- what calls send, some after others

abbrev state_from : State → List Step → State
state_from s steps = fold (λ s step. next s step.call step.outcome) s steps

sendings_more : (s : State) (steps more : List Step) → sendings_from s (steps ++ more) ≡ sendings_from s steps ++ sendings_from (state_from s steps) more
sendings_more s [] more = refl
sendings_more s (step ∷ steps) more =
    ap (λ l. sendings_in s step.call step.outcome ++ l) (sendings_more (next s step.call step.outcome) steps more)
    ∙ sym (append_assoc (sendings_in s step.call step.outcome) (sendings_from (next s step.call step.outcome) steps) (sendings_from (state_from (next s step.call step.outcome) steps) more))

module _ (window : ℕ) where
  state_more : (given : List Resent) (gives : Resent) → state_from (state_by window given) (steps_in gives) ≡ state_by window (given ++ gives ∷ [])
  state_more given gives =
      sym (ap (state_after window) (steps_more given gives) ∙ fold-append (λ (s : State) (t : Step). next s t.call t.outcome) (new_state window) (steps_of given) (steps_in gives))

-- ---- the bytes on out

-- what is written for a request
sent_bytes : (s : State) (number : ℕ) (q : Request) (outcome : Outcome)
    → (resent_text number (Calls (Send q) outcome)).out ≡ flat_map spelled (sendings_from s (steps_in (Calls (Send q) outcome)))
sent_bytes s number q (Wrote message) = sym (append-nil (message_frame message))
sent_bytes s number q (Refused why) = refl
sent_bytes s number q OutOfMemory = refl
sent_bytes s number q (Done n) = refl
sent_bytes s number q (GivenUp n r) = refl
sent_bytes s number q (Kept n) = refl
sent_bytes s number q Unknown = refl
sent_bytes s number q Nothing = refl

answered_bytes : (s : State) (number : ℕ) (id code : ℤ) (outcome : Outcome)
    → (resent_text number (Calls (Answer id code) outcome)).out ≡ flat_map spelled (sendings_from s (steps_in (Calls (Answer id code) outcome)))
answered_bytes s number id code outcome = refl

module _ (rows : SignalRows) (window : ℕ) where
  -- what is written again
  one_again : (s : State) (message : List ℕ) → MayGive rows s Resend (Wrote message) → flat_map spelled (sendings_in s Resend (Wrote message)) ≡ message_frame message
  one_again s _ (turns.resends w message sound found is) = rw found (append-nil (message_frame message))

  all_again : (past : List Step) (messages : List (List ℕ)) → AllAfter (MayStep rows window) past (map resend_step messages)
      → flat_map spelled (sendings_from (state_after window past) (map resend_step messages)) ≡ flat_map message_frame messages
  all_again past [] each = refl
  all_again past (m ∷ ms) each =
      let s : State = state_after window past in
      let rest : flat_map spelled (sendings_from (next s Resend (Wrote m)) (map resend_step ms)) ≡ flat_map message_frame ms
      = subst (λ (t : State). flat_map spelled (sendings_from t (map resend_step ms)) ≡ flat_map message_frame ms) (after_more window past (resend_step m))
      (all_again (past ++ resend_step m ∷ []) ms each.1) in
      flat_map-append spelled (sendings_in s Resend (Wrote m)) (sendings_from (next s Resend (Wrote m)) (map resend_step ms))
      ∙ (λ i. one_again s m each.0 i ++ rest i)

  -- the bytes of what a frame gives
  abbrev HasBytes : List Resent → ℕ → Resent → Type 0
  HasBytes given number gives = (resent_text number gives).out ≡ flat_map spelled (sendings_from (state_by window given) (steps_in gives))

  of_request : (given : List Resent) (number : ℕ) (part : List ℕ) (gives : Resent) → RequestGives rows window given part gives → HasBytes given number gives
  of_request given number part _ (resends.unread defect stands) = refl
  of_request given number part _ (resends.sends q outcome reads may settled) = sent_bytes (state_by window given) number q outcome

  of_event : (given : List Resent) (number : ℕ) (bytes : List ℕ) (gives : Resent) → EventGives rows window given bytes gives → HasBytes given number gives
  of_event given number bytes _ (resends.ill refusal refuses) = refl
  of_event given number bytes gives (resends.request part _ reads is) = of_request given number part gives is
  of_event given number bytes gives (resends.status content _ reads is) =
      subst (λ (r : Resent). HasBytes given number r) (sym is.same) (answered_bytes (state_by window given) number content.id content.code is.outcome)

  of_frame : (given : List Resent) (number : ℕ) (frame : Frame) (gives : Resent) → BeginsAfter rows window given frame gives → HasBytes given number gives
  of_frame given number _ _ resends.compressed = refl
  of_frame given number _ gives (resends.takes bytes _ is) = of_event given number bytes gives is
  of_frame given number _ _ (resends.resets messages is) =
      ap (λ l. reset_frame ++ l)
      (sym (subst (λ (t : State). flat_map spelled (sendings_from t (map resend_step messages)) ≡ flat_map message_frame messages) (after_more window (steps_of given) reset_step)
      (all_again (steps_of given ++ reset_step ∷ []) messages is.each)))

  -- and of all frames
  of_all : (past : List Frame) (before : List Resent) (number : ℕ) (frames : List Frame) (given : List Resent)
      → EachAfter (λ gone was frame gives. ResendsAfter rows window was frame gives) past before frames given
      → out_text (replies_from resent_text number given) ≡ flat_map spelled (sendings_from (state_by window before) (steps_of given))
  of_all past before number [] [] each = refl
  of_all past before number [] (g ∷ gs) each = absurd each
  of_all past before number (f ∷ fs) [] each = absurd each
  of_all past before number (f ∷ fs) (g ∷ gs) each =
      let s : State = state_by window before in
      let rest : out_text (replies_from resent_text (suc number) gs) ≡ flat_map spelled (sendings_from (state_from s (steps_in g)) (steps_of gs))
      = of_all (past ++ f ∷ []) (before ++ g ∷ []) (suc number) fs gs each.1
      ∙ ap (λ (t : State). flat_map spelled (sendings_from t (steps_of gs))) (sym (state_more window before g)) in
      (λ i. of_frame before number f g each.0.begins i ++ rest i)
      ∙ sym (flat_map-append spelled (sendings_from s (steps_in g)) (sendings_from (state_from s (steps_in g)) (steps_of gs)))
      ∙ ap (flat_map spelled) (sym (sendings_more s (steps_in g) (steps_of gs)))

-- ---- what was sent was allowed

module _ (rows : SignalRows) where
  -- the requests and the messages of the segment so far
  record IsSegment (s : State) (ss : List Sending) : Type 0 where
    pub requests : requests_since ss ≡ s.written
    pub policy : Policy rows (requests_since ss) (messages_since ss)

  record IsGrown (s s' : State) (ss more : List Sending) : Type 0 where
    pub allowed : AllAfter (IsAllowed rows) ss more
    pub segment : IsSegment s' (ss ++ more)

  stays : (s s' : State) (ss : List Sending) → s'.written ≡ s.written → IsSegment s ss → IsGrown s s' ss []
  stays s s' ss same is =
      record { allowed = tt; segment = rw (append-nil ss) (record { requests = is.requests ∙ sym same; policy = is.policy }) }

  sends : (s s' : State) (ss : List Sending) (q : Request) (message : List ℕ) → s'.written ≡ s.written ++ q ∷ [] → IsNextMessage rows s.written q message → IsSegment s ss
      → IsGrown s s' ss (Sent q message ∷ [])
  sends s s' ss q message more next_one is =
      let requests = is.requests in
      let before : Policy rows s.written (messages_since ss) = subst (λ (qs : List Request). Policy rows qs (messages_since ss)) requests is.policy in
      let policy : Policy rows (s.written ++ q ∷ []) (messages_since ss ++ message ∷ []) = next_one.policy (messages_since ss) before in
      let last : IsMessageOf rows s.written (messages_since ss) q message = each_after-last (IsMessageOf rows) [] [] s.written (messages_since ss) q message policy in
      let grown : requests_since (ss ++ Sent q message ∷ []) ≡ s.written ++ q ∷ [] = requests_sent ss q message ∙ ap (λ l. l ++ q ∷ []) requests in
      record {
        allowed = (
          record {
            exported = next_one.exported;
            message_of = subst (λ (qs : List Request). IsMessageOf rows qs (messages_since ss) q message) (sym requests) last;
          },
          tt,
        );
        segment = record { requests = grown ∙ sym more; policy = rw (grown, messages_sent ss q message) policy };
      }

  one_call : (s : State) (ss : List Sending) (call : Call) (outcome : Outcome) → MayGive rows s call outcome → IsSegment s ss
      → IsGrown s (next s call outcome) ss (sendings_in s call outcome)
  unfolding next
  one_call s ss _ _ (turns.full q many) is = stays s s ss refl is
  one_call s ss _ _ (turns.pending q w room found) is = stays s s ss refl is
  one_call s ss _ _ (turns.broken q room broken) is = stays s s ss refl is
  one_call s ss _ _ (turns.too_many_items q ready many) is = stays s s ss refl is
  one_call s ss _ _ (turns.too_heavy q ready few heavy) is = stays s s ss refl is
  one_call s ss _ _ (turns.out_of_memory q ready exported) is = stays s _ ss refl is
  one_call s ss _ _ (turns.sends q message ready next_one) is = sends s _ ss q message refl next_one is
  one_call s ss _ _ (turns.unknown id code none) is = stays s s ss refl is
  one_call s ss _ _ (turns.done id code w found accepted) is = stays s _ ss refl is
  one_call s ss _ _ (turns.given_up id code w found refused) is = stays s _ ss refl is
  one_call s ss _ _ (turns.kept id code w found neither) is = stays s s ss refl is
  one_call s ss _ _ turns.resets is = record {
    allowed = (tt, tt);
    segment = record { requests = requests_reset ss; policy = rw (requests_reset ss, messages_reset ss) tt };
  }
  one_call s ss _ _ (turns.resend_broken broken) is = stays s s ss refl is
  one_call s ss _ _ (turns.all_written sound none) is = stays s s ss refl is
  one_call s ss _ _ (turns.resend_out_of_memory w sound found) is = stays s _ ss refl is
  one_call s ss _ _ (turns.resends w message sound found next_one) is = by (find is_unwritten s.unanswered) found
    where
      by : (first : Option Unanswered) → first ≡ Some w
          → IsGrown s (record s { unanswered = with_first_written (length s.written) s.unanswered; written = s.written ++ request_if first }) ss
          (map (λ q. Sent q message) (request_if first))
      by first same = rw same (sends s _ ss w.request message refl next_one is)

  module _ (window : ℕ) where
    allowed_from : (past : List Step) (ss : List Sending) (steps : List Step) → IsSegment (state_after window past) ss → AllAfter (MayStep rows window) past steps
        → AllAfter (IsAllowed rows) ss (sendings_from (state_after window past) steps)
    allowed_from past ss [] is each = tt
    allowed_from past ss (step ∷ steps) is each =
        let s : State = state_after window past in
        let s' : State = next s step.call step.outcome in
        let now : List Sending = sendings_in s step.call step.outcome in
        let grown : IsGrown s s' ss now = one_call s ss step.call step.outcome each.0 is in
        let same : state_after window (past ++ step ∷ []) ≡ s' = after_more window past step in
        let rest : AllAfter (IsAllowed rows) (ss ++ now) (sendings_from (state_after window (past ++ step ∷ [])) steps)
        = allowed_from (past ++ step ∷ []) (ss ++ now) steps (subst (λ (t : State). IsSegment t (ss ++ now)) (sym same) grown.segment) each.1 in
        all_after-append (IsAllowed rows) ss now (sendings_from s' steps) grown.allowed
        (subst (λ (t : State). AllAfter (IsAllowed rows) (ss ++ now) (sendings_from t steps)) same rest)

    all_allowed : (steps : List Step) → AllAfter (MayStep rows window) [] steps → AreAllowed rows (sendings_from (new_state window) steps)
    all_allowed steps run = allowed_from [] [] steps (record { requests = requests_first; policy = rw (requests_first, messages_first) tt }) run

-- ---- all of it is read

pub resent_back : (signal : Signal) → MessagesAreRead → IsFrame reset_frame capture.Reset → ((ss : List Sending) → AreAllowed (rows_by signal) ss → Arrives (meaning_by signal) ss)
    → (window : ℕ) (frames : List Frame) (given : List Resent) → Gave (ResendsAfter (rows_by signal) window) frames given
    → IsReadBack (rows_by signal) (meaning_by signal) window given
resent_back signal messages resets arrives window frames given gave =
    let rows : SignalRows = rows_by signal in
    let ss : List Sending = sent_by window given in
    let allowed : AreAllowed rows ss = all_allowed rows window (steps_of given) (of_frames rows window [] [] frames given gave) in
    let out : flat_map spelled ss ≡ out_text (texts_of given) = sym (of_all rows window [] [] 0 frames given gave) in
    record {
      allowed = allowed;
      arrives = arrives ss allowed;
      capture = subst (λ (l : List ℕ). length l < capture_limit → IsCapture l (map frame_sent ss) None) out (sent_capture rows messages resets ss allowed);
    }
