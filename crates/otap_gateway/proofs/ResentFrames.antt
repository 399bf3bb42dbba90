-- What one frame makes of a resending exporter.
use Rattle.std.proofs.Common.{◌≡◌, ◌⊎◌, inl, inr, ℕ, ℤ, ◌+◌, ◌≤◌, Bool, true, false, List, [], ◌∷◌, ◌++◌, length, Some, None, refl, sym, ap, ◌∙◌, subst, append-nil, arith}
use Rattle.std.specs.Prelude.{find}
use Rattle.std.specs.Option.{option_or}
use Rattle.std.proofs.lemmas.Bool.{cases_Bool, false≢true}
use Rattle.std.proofs.lemmas.List.{flat_map_more, length-append}
use Rattle.std.proofs.lemmas.List.Folds.{find-append}
use Rattle.std.proofs.lemmas.List.Sums.{fold-append}
use Rattle.otap_capture.specs.declared.batch.BatchRefusal.{BatchRefusal}
use Rattle.otap_capture.specs.Capture.{longest_frame}
use Rattle.otap_capture.specs.SendEvents.{ReadsEvent, RefusesEvent}
use Rattle.otap_capture.specs.SendEvents as event
use Rattle.otap_capture.specs.Statuses.{StatusContent}
use Rattle.otap_signals.specs.BySignal.{rows_by}
use Rattle.otap_signals.specs.Meanings.{SignalRows}
use Rattle.otap_resend.specs.declared.refusal.SendRefusal.{SendRefusal}
use Rattle.otap_resend.specs.declared.refusal.SendRefusal.TheVariants as why
use Rattle.otap_resend.specs.declared.unanswered.Unanswered.{Unanswered}
use Rattle.otap_resend.specs.Resenders.{ResenderIn, HasState, TakesTurnOf, not_sent}
use Rattle.otap_resend.specs.Runs.{Step, state_after}
use Rattle.otap_resend.specs.States.{State, Call, Send, Answer, Outcome, Wrote, Refused, OutOfMemory, Done, GivenUp, Kept, Unknown, Nothing, Refusal, Full, Pending, Broken, TooManyItems, TooHeavy, is_unwritten, has_id, new_state, next, without_first}
use Rattle.otap_resend.specs.Turns.{MayGive}
use Rattle.otap_resend.specs.Turns as turns
use Rattle.otlp_codec.specs.declared.refusal.ReadRefusal.{ReadRefusal}
use Rattle.otlp_codec.specs.Refusals.{HoldsNamed, refusal_of}
use Rattle.otlp_codec.specs.Requests.{Reads, Stands}
use Rattle.otlp_messages.specs.declared.messages.Defect.{Defect}
use Rattle.otlp_messages.specs.declared.messages.Defect.TheVariants as defects
use Rattle.otlp_messages.specs.Names.{defect_text}
use Rattle.otlp_model.specs.declared.request.Request.{Request}
use Rattle.otlp_model.specs.declared.request.Signal.{Signal}
use Rattle.otlp_model.specs.declared.request.Signal.TheVariants as signals
use Rattle.otlp_model.specs.Telemetry.{signal_of}
use Rattle.otap_gateway.specs.declared.jobs.resend.Counts.{Counts}
use Rattle.otap_gateway.specs.EncodingSteps.{NamesDefect}
use Rattle.otap_gateway.specs.Lines.{refuses}
use Rattle.otap_gateway.specs.Refused.{unread_name}
use Rattle.otap_gateway.specs.RefusedRequests.{refused_request}
use Rattle.otap_gateway.specs.Reply.{ReplyText}
use Rattle.otap_gateway.specs.Resends.{Resent, Calls, Unread, Ill, EventGives, RequestGives, IsSettled, answer_line, answer_text, answer_word, event_line, is_unknown, resent_text, state_by, steps_in, steps_of, why_text}
use Rattle.otap_gateway.specs.ResendingSteps.{AddsAnswer, HasCounts, HasResent, HasSomeState, IsCalm, NamesWhy, SendsOne, TakesEvent, TakesRequest, TakesStatus, rows_in}

-- ---- the tables are those of the signal

pub rows_same : (signal : Signal) (r : ResenderIn) → HasSomeState (rows_by signal) r → rows_in r ≡ rows_by signal
rows_same signal r h = ap rows_by h.has.signal

pub own_state : (signal : Signal) (r : ResenderIn) → HasSomeState (rows_by signal) r → HasSomeState (rows_in r) r
own_state signal r h = subst (λ (rows : SignalRows). HasSomeState rows r) (sym (rows_same signal r h)) h

-- a request that is read is of the signal
pub read_signal : (signal : Signal) (part : List ℕ) (q : Request) → Reads signal part q → signal_of q ≡ signal
read_signal signals.Traces part q reads = ap signal_of reads.1
read_signal signals.Logs part q reads = ap signal_of reads.1
read_signal signals.Metrics part q reads = ap signal_of reads.1

-- ---- the state after one frame more

pub steps_more : (given : List Resent) (gives : Resent) → steps_of (given ++ gives ∷ []) ≡ steps_of given ++ steps_in gives
steps_more given gives = sym (flat_map_more steps_in [] given gives)

state_called : (window : ℕ) (given : List Resent) (call : Call) (outcome : Outcome) → state_by window (given ++ Calls call outcome ∷ []) ≡ next (state_by window given) call outcome
state_called window given call outcome =
    ap (state_after window) (steps_more given (Calls call outcome))
    ∙ fold-append (λ (s : State) (t : Step). next s t.call t.outcome) (new_state window) (steps_of given) (record { call = call; outcome = outcome } ∷ [])

state_same : (window : ℕ) (given : List Resent) (gives : Resent) → steps_in gives ≡ [] → state_by window (given ++ gives ∷ []) ≡ state_by window given
state_same window given gives none = ap (state_after window) (steps_more given gives ∙ ap (λ l. steps_of given ++ l) none ∙ append-nil (steps_of given))

longer : (given : List Resent) (gives : Resent) → length (given ++ gives ∷ []) ≡ length given + 1
longer given gives = length-append given (gives ∷ [])

-- the counts are no more than more frames
counts_later : (s : State) (n m : ℕ) (counts : Counts) → n ≤ m → HasCounts s n counts → HasCounts s m counts
counts_later s n m counts few h =
    let sent = h.few_sent in
    let done = h.few_done in
    let given_up = h.few_given_up in
    record { done = h.done; given_up = h.given_up; few_sent = omega (arith, few, sent); few_done = omega (arith, few, done); few_given_up = omega (arith, few, given_up) }

module _ (rows : SignalRows) (window : ℕ) where
  -- a frame that calls nothing
  pub still : (r : ResenderIn) (counts : Counts) (given : List Resent) (gives : Resent) → steps_in gives ≡ [] → HasResent rows window r counts given
      → HasResent rows window r counts (given ++ gives ∷ [])
  still r counts given gives none h =
      let same = state_same window given gives none in
      let more = longer given gives in
      record {
        state = subst (λ (s : State). HasState rows s r) (sym same) h.state;
        calm = subst IsCalm (sym same) h.calm;
        numbers = subst (λ (s : State). HasCounts s (length (given ++ gives ∷ [])) counts) (sym same)
            (counts_later (state_by window given) (length given) (length (given ++ gives ∷ [])) counts (omega (arith, more)) h.numbers);
      }

  -- a frame that makes a call
  pub called : (old new : ResenderIn) (counts counts' : Counts) (given : List Resent) (call : Call) (outcome : Outcome) → TakesTurnOf rows call outcome old new
      → HasResent rows window old counts given → IsCalm (next (state_by window given) call outcome)
      → HasCounts (next (state_by window given) call outcome) (length given + 1) counts' → HasResent rows window new counts' (given ++ Calls call outcome ∷ [])
  called old new counts counts' given call outcome turn h calm few =
      let s = state_by window given in
      let same = state_called window given call outcome in
      let t = turn s h.state in
      record {
        state = subst (λ (x : State). HasState rows x new) (t.1.follows ∙ sym same) t.2;
        calm = subst IsCalm (sym same) calm;
        numbers = subst (λ (n : ℕ). HasCounts (state_by window (given ++ Calls call outcome ∷ [])) n counts') (sym (longer given (Calls call outcome)))
            (subst (λ (x : State). HasCounts x (length given + 1) counts') (sym same) few);
      }

-- ---- the requests that stay

without_unwritten : (test : Unanswered → Bool) (ws : List Unanswered) → find is_unwritten ws ≡ None → find is_unwritten (without_first test ws) ≡ None
without_unwritten test [] none = refl
without_unwritten test (w ∷ ws) none = by_first (cases_Bool (is_unwritten w)) (without_unwritten test ws)
  where
    by_test : (test w ≡ true) ⊎ (test w ≡ false) → is_unwritten w ≡ false → find is_unwritten ws ≡ None → find is_unwritten (without_first test ws) ≡ None
        → find is_unwritten (without_first test (w ∷ ws)) ≡ None
    by_test (inl passes) other rest again = rw passes rest
    by_test (inr fails) other rest again = rw (fails, other) again

    by_first : (is_unwritten w ≡ true) ⊎ (is_unwritten w ≡ false) → (find is_unwritten ws ≡ None → find is_unwritten (without_first test ws) ≡ None)
        → find is_unwritten (without_first test (w ∷ ws)) ≡ None
    by_first (inl first) again = let clash : Some w ≡ None = sym (rw first refl) ∙ none in cc
    by_first (inr other) again = let rest : find is_unwritten ws ≡ None = rw other at none in by_test (cases_Bool (test w)) other rest (again rest)

-- ---- a call that leaves each request written

calm_sent : (s : State) (q : Request) (message : List ℕ) → IsCalm s → IsCalm (next s (Send q) (Wrote message))
unfolding next
calm_sent s q message calm = record {
  written = find-append is_unwritten s.unanswered (record { number = s.sent; request = q; id = Some (length s.written) } ∷ [])
      ∙ ap (λ found. option_or found None) calm.written;
  sound = calm.sound;
}

counts_sent : (s : State) (n : ℕ) (counts : Counts) (q : Request) (message : List ℕ) → HasCounts s n counts → HasCounts (next s (Send q) (Wrote message)) (n + 1) counts
unfolding next
counts_sent s n counts q message h =
    let sent = h.few_sent in
    let done = h.few_done in
    let given_up = h.few_given_up in
    record { done = h.done; given_up = h.given_up; few_sent = omega (arith, sent); few_done = omega (arith, done); few_given_up = omega (arith, given_up) }

calm_done : (s : State) (id code : ℤ) (number : ℕ) → IsCalm s → IsCalm (next s (Answer id code) (Done number))
unfolding next
calm_done s id code number calm = record { written = without_unwritten (has_id id) s.unanswered calm.written; sound = calm.sound }

calm_given_up : (s : State) (id code : ℤ) (number : ℕ) (q : Request) → IsCalm s → IsCalm (next s (Answer id code) (GivenUp number q))
unfolding next
calm_given_up s id code number q calm = record { written = without_unwritten (has_id id) s.unanswered calm.written; sound = calm.sound }

counts_done : (s : State) (n : ℕ) (counts counts' : Counts) (id code : ℤ) (number : ℕ) → HasCounts s n counts → counts'.done ≡ counts.done + 1 → counts'.given_up ≡ counts.given_up
    → HasCounts (next s (Answer id code) (Done number)) (n + 1) counts'
unfolding next
counts_done s n counts counts' id code number h more same =
    let sent = h.few_sent in
    let done = h.few_done in
    let given_up = h.few_given_up in
    let was = h.done in
    let long = length-append s.done (number ∷ []) in
    record { done = omega (arith, more, was, long); given_up = same ∙ h.given_up; few_sent = omega (arith, sent); few_done = omega (arith, done, long); few_given_up = omega (arith, given_up) }

counts_given_up : (s : State) (n : ℕ) (counts counts' : Counts) (id code : ℤ) (number : ℕ) (q : Request) → HasCounts s n counts → counts'.given_up ≡ counts.given_up + 1
    → counts'.done ≡ counts.done → HasCounts (next s (Answer id code) (GivenUp number q)) (n + 1) counts'
unfolding next
counts_given_up s n counts counts' id code number q h more same =
    let sent = h.few_sent in
    let done = h.few_done in
    let given_up = h.few_given_up in
    let was = h.given_up in
    let long = length-append s.given_up (number ∷ []) in
    record { done = same ∙ h.done; given_up = omega (arith, more, was, long); few_sent = omega (arith, sent); few_done = omega (arith, done); few_given_up = omega (arith, given_up, long) }

-- ---- a request

never_pending : (rows : SignalRows) (s : State) (q : Request) → IsCalm s → MayGive rows s (Send q) (Refused Pending) → ⊥
never_pending rows s q calm (turns.pending _ w room found) = let clash : Some w ≡ None = sym found ∙ calm.written in cc

never_broken : (rows : SignalRows) (s : State) (q : Request) → IsCalm s → MayGive rows s (Send q) (Refused Broken) → ⊥
never_broken rows s q calm (turns.broken _ room broken) = false≢true (sym calm.sound ∙ broken)

module _ (rows : SignalRows) (old new : ResenderIn) (number : ℕ) (part : List ℕ) (q : Request) (reply : ReplyText) (reads : Reads rows.signal part q) where
  -- the request isn't sent, and nothing changes
  refused_more : (refusal : Refusal) → TakesTurnOf rows (Send q) (Refused refusal) old new → IsSettled (Refused refusal) → ((s : State) → next s (Send q) (Refused refusal) ≡ s)
      → reply ≡ refused_request number (why_text refusal) → TakesRequest rows old new number part reply
  refused_more refusal turn settled same says = record {
    at = λ window given counts h.
        let s = state_by window given in
        let calm = subst IsCalm (sym (same s)) h.calm in
        let few = subst (λ (x : State). HasCounts x (length given + 1) counts) (sym (same s)) (counts_later s (length given) (length given + 1) counts (omega arith) h.numbers) in
        record {
          gives = Calls (Send q) (Refused refusal);
          is = RequestGives.sends q (Refused refusal) reads (turn s h.state).1.may settled;
          says = says;
          stands = called rows window old new counts counts given (Send q) (Refused refusal) turn h calm few;
        };
  }

  stays : (refusal : Refusal) (s : State) → next s (Send q) (Refused refusal) ≡ s
  unfolding next
  stays refusal s = refl

  by_why : (refusal : SendRefusal) (name : List ℕ) → TakesTurnOf rows (Send q) (not_sent refusal) old new → NamesWhy refusal name → reply ≡ refused_request number name
      → TakesRequest rows old new number part reply
  by_why why.Full name turn names says = refused_more Full turn tt (stays Full) (says ∙ ap (refused_request number) names)
  by_why why.TooManyItems name turn names says = refused_more TooManyItems turn tt (stays TooManyItems) (says ∙ ap (refused_request number) names)
  by_why why.TooHeavy name turn names says = refused_more TooHeavy turn tt (stays TooHeavy) (says ∙ ap (refused_request number) names)
  by_why why.Pending name turn names says = record { at = λ window given counts h. absurd (never_pending rows (state_by window given) q h.calm (turn (state_by window given) h.state).1.may) }
  by_why why.Broken name turn names says = record { at = λ window given counts h. absurd (never_broken rows (state_by window given) q h.calm (turn (state_by window given) h.state).1.may) }
  by_why (why.Memory e) name turn names says = absurd names

  pub request_more : SendsOne rows old new number q reply → TakesRequest rows old new number part reply
  request_more (inl sent) = record {
    at = λ window given counts h.
        let s = state_by window given in
        record {
          gives = Calls (Send q) (Wrote sent.message);
          is = RequestGives.sends q (Wrote sent.message) reads (sent.turn s h.state).1.may tt;
          says = sent.says;
          stands = called rows window old new counts counts given (Send q) (Wrote sent.message) sent.turn h (calm_sent s q sent.message h.calm) (counts_sent s (length given) counts q sent.message h.numbers);
        };
  }
  request_more (inr refused) = by_why refused.why refused.name refused.turn refused.names refused.says

-- what is written fits into a frame
short_of : (rows : SignalRows) (s : State) (q : Request) (message : List ℕ) → MayGive rows s (Send q) (Wrote message) → length message ≤ longest_frame
short_of rows s q message (turns.sends _ _ ready is) = is.short

pub sent_short : (rows : SignalRows) (old new : ResenderIn) (q : Request) (message : List ℕ) → HasSomeState rows old → TakesTurnOf rows (Send q) (Wrote message) old new
    → length message ≤ longest_frame
sent_short rows old new q message h turn = short_of rows h.state q message (turn h.state h.has).1.may

named_stands : (defect : Defect) (P : Defect → Type 0) → HoldsNamed (refusal_of defect) P → P defect
named_stands defects.BadMessage P so = so
named_stands defects.Repeated P so = so
named_stands defects.BadUtf8 P so = so
named_stands defects.BadLength P so = so
named_stands defects.Unsupported P so = so
named_stands defects.TooDeep P so = so

-- a request that can't be read
pub unread_more : (rows : SignalRows) (r : ResenderIn) (number : ℕ) (part : List ℕ) (refusal : ReadRefusal) (name : List ℕ) → NamesDefect refusal name
    → HoldsNamed refusal (Stands rows.signal part) → (reply : ReplyText) → reply ≡ refused_request number name → TakesRequest rows r r number part reply
unread_more rows r number part refusal name n so reply says = record {
  at = λ window given counts h. record {
    gives = Unread (defect_text n.defect);
    is = RequestGives.unread n.defect (named_stands n.defect (Stands rows.signal part) (subst (λ (e : ReadRefusal). HoldsNamed e (Stands rows.signal part)) n.same so));
    says = says ∙ ap (refused_request number) n.text;
    stands = still rows window r counts given (Unread (defect_text n.defect)) refl h;
  };
}

-- ---- a status

module _ (rows : SignalRows) (old new : ResenderIn) (counts counts' : Counts) (number : ℕ) (status : StatusContent) (reply : ReplyText) where
  -- one more call of a status
  status_with : (outcome : Outcome) → TakesTurnOf rows (Answer status.id status.code) outcome old new
      → ((s : State) → IsCalm s → IsCalm (next s (Answer status.id status.code) outcome))
      → ((s : State) (n : ℕ) → HasCounts s n counts → HasCounts (next s (Answer status.id status.code) outcome) (n + 1) counts')
      → reply ≡ resent_text number (Calls (Answer status.id status.code) outcome) → TakesStatus rows old new counts counts' number status reply
  status_with outcome turn calm few says = record {
    at = λ window given h.
        let s = state_by window given in
        record {
          gives = Calls (Answer status.id status.code) outcome;
          is = record { outcome = outcome; same = refl; may = (turn s h.state).1.may };
          says = says;
          stands = called rows window old new counts counts' given (Answer status.id status.code) outcome turn h (calm s h.calm) (few s (length given) h.numbers);
        };
  }

  calm_answered : (outcome : Outcome) (s : State) → IsCalm s → IsCalm (next s (Answer status.id status.code) outcome)
  unfolding next
  calm_answered (Done n) s calm = calm_done s status.id status.code n calm
  calm_answered (GivenUp n q) s calm = calm_given_up s status.id status.code n q calm
  calm_answered (Wrote message) s calm = calm
  calm_answered (Refused refusal) s calm = calm
  calm_answered OutOfMemory s calm = calm
  calm_answered (Kept n) s calm = calm
  calm_answered Unknown s calm = calm
  calm_answered Nothing s calm = calm

  same_counts : (s s' : State) (n : ℕ) → s' ≡ s → counts' ≡ counts → HasCounts s n counts → HasCounts s' (n + 1) counts'
  same_counts s s' n state same h = subst (λ (x : State). HasCounts x (n + 1) counts') (sym state) (subst (HasCounts s (n + 1)) (sym same) (counts_later s n (n + 1) counts (omega arith) h))

  counts_answered : (outcome : Outcome) (s : State) (n : ℕ) → AddsAnswer outcome counts counts' → HasCounts s n counts → HasCounts (next s (Answer status.id status.code) outcome) (n + 1) counts'
  unfolding next
  counts_answered (Done number) s n adds h = counts_done s n counts counts' status.id status.code number h (ap (λ (c : Counts). c.done) adds) (ap (λ (c : Counts). c.given_up) adds)
  counts_answered (GivenUp number q) s n adds h = counts_given_up s n counts counts' status.id status.code number q h (ap (λ (c : Counts). c.given_up) adds) (ap (λ (c : Counts). c.done) adds)
  counts_answered (Wrote message) s n adds h = same_counts s s n refl adds h
  counts_answered (Refused refusal) s n adds h = same_counts s s n refl adds h
  counts_answered OutOfMemory s n adds h = same_counts s s n refl adds h
  counts_answered (Kept number) s n adds h = same_counts s s n refl adds h
  counts_answered Unknown s n adds h = same_counts s s n refl adds h
  counts_answered Nothing s n adds h = same_counts s s n refl adds h

  pub status_more : (outcome : Outcome) → TakesTurnOf rows (Answer status.id status.code) outcome old new → AddsAnswer outcome counts counts' → reply ≡ answer_text number status.id outcome
      → TakesStatus rows old new counts counts' number status reply
  status_more outcome turn adds says = status_with outcome turn (calm_answered outcome) (λ s k h. counts_answered outcome s k adds h) says

abbrev with_line : Outcome → List ℕ → ReplyText
with_line outcome line = record { out = []; err = line; refused = is_unknown outcome }

-- the line of a status is that of what became of its request
pub answer_says : (number : ℕ) (id : ℤ) (outcome : Outcome) (reply : ReplyText) (line : List ℕ) → reply ≡ record { out = []; err = line; refused = is_unknown outcome }
    → line ≡ answer_line number id (answer_word outcome) → reply ≡ answer_text number id outcome
answer_says number id outcome reply line replies says = replies ∙ ap (with_line outcome) says

pub line_says : (number : ℕ) (id id' : ℤ) (outcome : Outcome) (word line : List ℕ) → line ≡ answer_line number id word → id ≡ id' → word ≡ answer_word outcome
    → line ≡ answer_line number id' (answer_word outcome)
line_says number id id' outcome word line says same word_is = says ∙ (λ i. answer_line number (same i) (word_is i))

-- ---- an event

pub event_ill : (rows : SignalRows) (r : ResenderIn) (counts : Counts) (number : ℕ) (bytes : List ℕ) (refusal : BatchRefusal) (reply : ReplyText) → RefusesEvent bytes refusal
    → reply ≡ refuses (event_line number (unread_name refusal)) → TakesEvent rows r r counts counts number bytes reply
event_ill rows r counts number bytes refusal reply refused says = record {
  at = λ window given h. record {
    gives = Ill (unread_name refusal);
    is = EventGives.ill refusal refused;
    says = says;
    stands = still rows window r counts given (Ill (unread_name refusal)) refl h;
  };
}

pub event_request : (rows : SignalRows) (old new : ResenderIn) (counts : Counts) (number : ℕ) (bytes part : List ℕ) (reply : ReplyText) → ReadsEvent bytes (event.Request part)
    → TakesRequest rows old new number part reply → TakesEvent rows old new counts counts number bytes reply
event_request rows old new counts number bytes part reply reads taken = record {
  at = λ window given h.
      let more = taken.at window given counts h in
      record { gives = more.gives; is = EventGives.request part more.gives reads more.is; says = more.says; stands = more.stands };
}

pub event_status : (rows : SignalRows) (old new : ResenderIn) (counts counts' : Counts) (number : ℕ) (bytes : List ℕ) (content : StatusContent) (reply : ReplyText)
    → ReadsEvent bytes (event.Status content) → TakesStatus rows old new counts counts' number content reply → TakesEvent rows old new counts counts' number bytes reply
event_status rows old new counts counts' number bytes content reply reads taken = record {
  at = λ window given h.
      let more = taken.at window given h in
      record { gives = more.gives; is = EventGives.status content more.gives reads more.is; says = more.says; stands = more.stands };
}
