-- Requests are written again after a reset.
use Rattle.std.proofs.Common.{◌≡◌, ◌⊎◌, inl, inr, ℕ, ◌+◌, ◌<◌, ◌≤◌, Bool, true, false, List, [], ◌∷◌, ◌++◌, length, Option, Some, None, Result, Ok, Err, refl, sym, ap, ◌∙◌, subst, append-nil, append_assoc, arith}
use Rattle.std.specs.Prelude.{cond, count_by, find, map}
use Rattle.std.specs.Io.KnownBytes.{Appends}
use Rattle.std.proofs.lemmas.Bool.{cases_Bool}
use Rattle.std.proofs.lemmas.List.{flat_map_more, length-append, map-append}
use Rattle.std.proofs.lemmas.List.Sums.{fold-append, sum_by-cons}
use Rattle.lists.specs.EachAfter.{AllAfter}
use Rattle.lists.proofs.Growing.{all_after-push}
use Rattle.lists.proofs.Known.{Appends-nil, Appends-trans, Keeps-refl}
use Rattle.otap_capture.specs.Capture.{longest_frame, message_frame, reset_frame}
use Rattle.otap_capture.specs.Outside.{AppendsFront}
use Rattle.otap_capture.proofs.Known.{front_more, front_of_all, front_of_first}
use Rattle.otap_signals.specs.BySignal.{rows_by}
use Rattle.otap_signals.specs.Meanings.{SignalRows}
use Rattle.otap_resend.specs.declared.unanswered.Unanswered.{Unanswered}
use Rattle.otap_resend.specs.Resenders.{ResenderIn, HasState, TakesTurn, TakesTurnOf}
use Rattle.otap_resend.specs.Runs.{Step, state_after}
use Rattle.otap_resend.specs.States.{State, Outcome, Reset, Resend, Wrote, Nothing, is_unwritten, new_state, next, with_first_written}
use Rattle.otap_resend.specs.Turns.{MayGive}
use Rattle.otap_resend.specs.Turns as turns
use Rattle.otlp_model.specs.declared.request.Signal.{Signal}
use Rattle.otap_gateway.specs.declared.jobs.resend.Counts.{Counts}
use Rattle.otap_gateway.specs.Resends.{Resent, Begins, MayStep, reset_step, resend_step, state_by, steps_of}
use Rattle.otap_gateway.specs.declared.runs.stop.Stop.{Stop}
use Rattle.otap_gateway.specs.ResendingSteps.{HasCounts, HasSomeState, IsCalm, ResendsAll, ResendsPart, ResendsWhole, Restarts, RestartsPart, RestartsWhole, Rewrites, frames_of}
use Rattle.otap_gateway.proofs.ResentFrames.{rows_same, steps_more}

-- a message is written again, or none is left, for the tables of the signal
pub turn_as : (signal : Signal) (outcome : Outcome) (old new : ResenderIn) → HasSomeState (rows_by signal) old → TakesTurn Resend outcome old new
    → TakesTurnOf (rows_by signal) Resend outcome old new
turn_as signal outcome old new h turn = subst (λ (rows : SignalRows). TakesTurnOf rows Resend outcome old new) (rows_same signal old h) turn

-- ---- one step more

pub after_more : (window : ℕ) (steps : List Step) (step : Step) → state_after window (steps ++ step ∷ []) ≡ next (state_after window steps) step.call step.outcome
after_more window steps step = fold-append (λ (s : State) (t : Step). next s t.call t.outcome) (new_state window) steps (step ∷ [])

steps_push : (steps : List Step) (messages : List (List ℕ)) (message : List ℕ) → steps ++ map resend_step (messages ++ message ∷ []) ≡ (steps ++ map resend_step messages) ++ resend_step message ∷ []
steps_push steps messages message = ap (λ l. steps ++ l) (map-append resend_step messages (message ∷ [])) ∙ sym (append_assoc steps (map resend_step messages) (resend_step message ∷ []))

frames_push : (messages : List (List ℕ)) (message : List ℕ) → frames_of messages ++ message_frame message ≡ frames_of (messages ++ message ∷ [])
frames_push messages message = flat_map_more message_frame [] messages message

module _ (rows : SignalRows) where
  -- nothing is written yet
  pub rewrites_none : (r : ResenderIn) → Rewrites rows r r []
  rewrites_none r = record { at = λ window steps has. (tt, subst (λ (l : List Step). HasState rows (state_after window l) r) (sym (append-nil steps)) has) }

  may_more : (old mid new : ResenderIn) (messages : List (List ℕ)) (message : List ℕ) → Rewrites rows old mid messages → TakesTurnOf rows Resend (Wrote message) mid new
      → (window : ℕ) (steps : List Step) → HasState rows (state_after window steps) old → AllAfter (MayStep rows window) steps (map resend_step (messages ++ message ∷ []))
  may_more old mid new messages message so_far turn window steps has =
      let before = so_far.at window steps has in
      subst (AllAfter (MayStep rows window) steps) (sym (map-append resend_step messages (message ∷ [])))
      (all_after-push (MayStep rows window) steps (map resend_step messages) (resend_step message) before.0 (turn (state_after window (steps ++ map resend_step messages)) before.1).1.may)

  -- one message more
  pub rewrites_more : (old mid new : ResenderIn) (messages : List (List ℕ)) (message : List ℕ) → Rewrites rows old mid messages → TakesTurnOf rows Resend (Wrote message) mid new
      → Rewrites rows old new (messages ++ message ∷ [])
  rewrites_more old mid new messages message so_far turn = record {
    at = λ window steps has.
        let before = so_far.at window steps has in
        let s = state_after window (steps ++ map resend_step messages) in
        let t = turn s before.1 in
        let same : t.0 ≡ state_after window (steps ++ map resend_step (messages ++ message ∷ []))
        = t.1.follows ∙ sym (ap (state_after window) (steps_push steps messages message) ∙ after_more window (steps ++ map resend_step messages) (resend_step message)) in
        (may_more old mid new messages message so_far turn window steps has, subst (λ (x : State). HasState rows x new) same t.2);
  }

  -- some state after each turn
  pub state_next : (old new : ResenderIn) (message : List ℕ) → HasSomeState rows old → TakesTurnOf rows Resend (Wrote message) old new → HasSomeState rows new
  state_next old new message h turn = let t = turn h.state h.has in record { state = t.0; has = t.2 }

  short_of : (s : State) (message : List ℕ) → MayGive rows s Resend (Wrote message) → length message ≤ longest_frame
  short_of s message (turns.resends w _ sound found is) = is.short

  -- what is written fits into a frame
  pub rewritten_short : (old new : ResenderIn) (message : List ℕ) → HasSomeState rows old → TakesTurnOf rows Resend (Wrote message) old new → length message ≤ longest_frame
  rewritten_short old new message h turn = short_of h.state message (turn h.state h.has).1.may

  -- ---- it ends: one request fewer is unwritten

  unwritten_cons : (x : Unanswered) (ws : List Unanswered) → count_by is_unwritten (x ∷ ws) ≡ cond (is_unwritten x) 1 0 + count_by is_unwritten ws
  unwritten_cons x ws = sum_by-cons (λ (y : Unanswered). cond (is_unwritten y) 1 0) x ws

  less_by_one : (a m n : ℕ) → m ≡ 0 + a → n ≡ 1 + a → m < n
  less_by_one a m n long whole = omega (arith, long, whole)

  less_behind : (a b c m n : ℕ) → m ≡ c + a → n ≡ c + b → a < b → m < n
  less_behind a b c m n long whole less = omega (arith, long, whole, less)

  first_written : (id : ℕ) (ws : List Unanswered) (w : Unanswered) → find is_unwritten ws ≡ Some w → count_by is_unwritten (with_first_written id ws) < count_by is_unwritten ws
  first_written id [] w found = let clash : None ≡ Some w = found in cc
  first_written id (x ∷ ws) w found = by_first (cases_Bool (is_unwritten x)) (first_written id ws w)
    where
      made : Unanswered
      made = record { number = x.number; request = x.request; id = Some id }

      by_first : (is_unwritten x ≡ true) ⊎ (is_unwritten x ≡ false)
          → (find is_unwritten ws ≡ Some w → count_by is_unwritten (with_first_written id ws) < count_by is_unwritten ws)
          → count_by is_unwritten (with_first_written id (x ∷ ws)) < count_by is_unwritten (x ∷ ws)
      by_first (inl first) again =
          let here : with_first_written id (x ∷ ws) ≡ made ∷ ws = rw first refl in
          subst (λ (us : List Unanswered). count_by is_unwritten us < count_by is_unwritten (x ∷ ws)) (sym here)
          (less_by_one (count_by is_unwritten ws) (count_by is_unwritten (made ∷ ws)) (count_by is_unwritten (x ∷ ws)) (unwritten_cons made ws)
          (unwritten_cons x ws ∙ ap (λ (b : Bool). cond b 1 0 + count_by is_unwritten ws) first))
      by_first (inr other) again =
          let rest : find is_unwritten ws ≡ Some w = rw other at found in
          let here : with_first_written id (x ∷ ws) ≡ x ∷ with_first_written id ws = rw other refl in
          subst (λ (us : List Unanswered). count_by is_unwritten us < count_by is_unwritten (x ∷ ws)) (sym here)
          (less_behind (count_by is_unwritten (with_first_written id ws)) (count_by is_unwritten ws) (cond (is_unwritten x) 1 0)
          (count_by is_unwritten (x ∷ with_first_written id ws)) (count_by is_unwritten (x ∷ ws)) (unwritten_cons x (with_first_written id ws)) (unwritten_cons x ws) (again rest))

  fewer_in : (s : State) (message : List ℕ) → MayGive rows s Resend (Wrote message) → count_by is_unwritten (next s Resend (Wrote message)).unanswered < count_by is_unwritten s.unanswered
  unfolding next
  fewer_in s message (turns.resends w _ sound found is) = first_written (length s.written) s.unanswered w found

  pub fewer : (old new : ResenderIn) (message : List ℕ) → HasSomeState rows old → TakesTurnOf rows Resend (Wrote message) old new
      → count_by is_unwritten new.unanswered < count_by is_unwritten old.unanswered
  fewer old new message h turn =
      let t = turn h.state h.has in
      let less = fewer_in h.state message t.1.may in
      subst (λ (ws : List Unanswered). count_by is_unwritten ws < count_by is_unwritten old.unanswered) (sym (t.2.unanswered ∙ ap (λ (s : State). s.unanswered) t.1.follows))
      (subst (λ (ws : List Unanswered). count_by is_unwritten (next h.state Resend (Wrote message)).unanswered < count_by is_unwritten ws) (sym h.has.unanswered) less)

  -- ---- the end

  calm_of : (s : State) → MayGive rows s Resend Nothing → IsCalm s
  calm_of s (turns.all_written sound none) = record { written = none; sound = sound }

  -- some requests are written, all of whose frames are out
  pub record HasRewritten (old now : ResenderIn) (written written' : Option (List ℕ)) : Type 0 where
    pub messages : List (List ℕ)
    pub rewrites : Rewrites rows old now messages
    pub out : Appends written written' (frames_of messages)
    pub state : HasSomeState rows now

  -- none is written yet
  pub has_none : (r : ResenderIn) (written : Option (List ℕ)) → HasSomeState rows r → HasRewritten r r written written
  has_none r written h = record { messages = []; rewrites = rewrites_none r; out = Appends-nil written written (Keeps-refl written); state = h }

  -- one more is
  pub has_more : (old mid new : ResenderIn) (message : List ℕ) (written mid_written written' : Option (List ℕ)) → HasRewritten old mid written mid_written
      → TakesTurnOf rows Resend (Wrote message) mid new → Appends mid_written written' (message_frame message) → HasRewritten old new written written'
  has_more old mid new message written mid_written written' h turn more = record {
    messages = h.messages ++ message ∷ [];
    rewrites = rewrites_more old mid new h.messages message h.rewrites turn;
    out = subst (Appends written written') (frames_push h.messages message) (Appends-trans written mid_written written' (frames_of h.messages) (message_frame message) h.out more);
    state = state_next mid new message h.state turn;
  }

  -- nothing is left
  pub all_rewritten : (old mid : ResenderIn) (written written' : Option (List ℕ)) → HasRewritten old mid written written' → TakesTurnOf rows Resend Nothing mid mid
      → ResendsWhole rows old mid written written'
  all_rewritten old mid written written' h turn = record { messages = h.messages; rewrites = h.rewrites; calm = λ s has. calm_of s (turn s has).1.may; out = h.out }

  -- memory ran out
  pub some_rewritten : (old mid : ResenderIn) (written written' : Option (List ℕ)) → HasRewritten old mid written written' → ResendsPart rows old written written'
  some_rewritten old mid written written' h =
      record { messages = h.messages; may = λ window steps has. (h.rewrites.at window steps has).0; out = front_of_all written written' (frames_of h.messages) h.out }

  -- a message isn't written whole
  pub front_rewritten : (old mid new : ResenderIn) (message : List ℕ) (written mid_written written' : Option (List ℕ)) → HasRewritten old mid written mid_written
      → TakesTurnOf rows Resend (Wrote message) mid new → AppendsFront mid_written written' (message_frame message) → ResendsPart rows old written written'
  front_rewritten old mid new message written mid_written written' h turn front = record {
    messages = h.messages ++ message ∷ [];
    may = may_more old mid new h.messages message h.rewrites turn;
    out = subst (AppendsFront written written') (frames_push h.messages message) (front_more written mid_written written' (frames_of h.messages) (message_frame message) h.out front);
  }

  -- ---- after a reset

  steps_begun : (given : List Resent) (messages : List (List ℕ)) → steps_of (given ++ Begins messages ∷ []) ≡ (steps_of given ++ reset_step ∷ []) ++ map resend_step messages
  steps_begun given messages = steps_more given (Begins messages) ∙ sym (append_assoc (steps_of given) (reset_step ∷ []) (map resend_step messages))

  -- the state at the reset
  at_reset : (old mid : ResenderIn) (window : ℕ) (given : List Resent) → TakesTurnOf rows Reset Nothing old mid → HasState rows (state_by window given) old
      → HasState rows (state_after window (steps_of given ++ reset_step ∷ [])) mid
  at_reset old mid window given turn has =
      let t = turn (state_by window given) has in
      subst (λ (s : State). HasState rows s mid) (t.1.follows ∙ sym (after_more window (steps_of given) reset_step)) t.2

  pub some_state : (old mid : ResenderIn) → HasSomeState rows old → TakesTurnOf rows Reset Nothing old mid → HasSomeState rows mid
  some_state old mid h turn = let t = turn h.state h.has in record { state = t.0; has = t.2 }

  -- no count changes
  same_counts : (s : State) → ((next s Reset Nothing).sent ≡ s.sent) × ((next s Reset Nothing).done ≡ s.done) × ((next s Reset Nothing).given_up ≡ s.given_up)
  unfolding next
  same_counts s = (refl, refl, refl)

  same_counts_on : (s : State) (message : List ℕ)
      → ((next s Resend (Wrote message)).sent ≡ s.sent) × ((next s Resend (Wrote message)).done ≡ s.done) × ((next s Resend (Wrote message)).given_up ≡ s.given_up)
  unfolding next
  same_counts_on s message = (refl, refl, refl)

  counts_as : (s s' : State) (n : ℕ) (counts : Counts) → s'.sent ≡ s.sent → s'.done ≡ s.done → s'.given_up ≡ s.given_up → HasCounts s n counts → HasCounts s' n counts
  counts_as s s' n counts sent done given_up h = record {
    done = rw done h.done;
    given_up = rw given_up h.given_up;
    few_sent = rw sent h.few_sent;
    few_done = rw done h.few_done;
    few_given_up = rw given_up h.few_given_up;
  }

  counts_after : (window : ℕ) (steps : List Step) (messages : List (List ℕ)) (n : ℕ) (counts : Counts) → HasCounts (state_after window steps) n counts
      → HasCounts (state_after window (steps ++ map resend_step messages)) n counts
  counts_after window steps [] n counts h = subst (λ (l : List Step). HasCounts (state_after window l) n counts) (sym (append-nil steps)) h
  counts_after window steps (message ∷ messages) n counts h =
      let s = state_after window steps in
      let same = same_counts_on s message in
      let next' : HasCounts (state_after window (steps ++ resend_step message ∷ [])) n counts
      = subst (λ (x : State). HasCounts x n counts) (sym (after_more window steps (resend_step message))) (counts_as s (next s Resend (Wrote message)) n counts same.0 same.1 same.2 h) in
      subst (λ (l : List Step). HasCounts (state_after window l) n counts) (append_assoc steps (resend_step message ∷ []) (map resend_step messages))
      (counts_after window (steps ++ resend_step message ∷ []) messages n counts next')

  counts_later : (s : State) (n : ℕ) (counts : Counts) → HasCounts s n counts → HasCounts s (n + 1) counts
  counts_later s n counts h =
      let sent = h.few_sent in
      let done = h.few_done in
      let given_up = h.few_given_up in
      record { done = h.done; given_up = h.given_up; few_sent = omega (arith, sent); few_done = omega (arith, done); few_given_up = omega (arith, given_up) }

  pub restarts_whole : (old mid new : ResenderIn) (written mid_written written' : Option (List ℕ)) → TakesTurnOf rows Reset Nothing old mid → Appends written mid_written reset_frame
      → ResendsWhole rows mid new mid_written written' → RestartsWhole rows old new written written'
  restarts_whole old mid new written mid_written written' turn reset w = record {
    messages = w.messages;
    at = λ window given counts h.
        let steps = steps_of given ++ reset_step ∷ [] in
        let has = at_reset old mid window given turn h.state in
        let after = w.rewrites.at window steps has in
        let same = same_counts (state_by window given) in
        let at_start : HasCounts (state_after window steps) (length given) counts
        = subst (λ (x : State). HasCounts x (length given) counts) (sym (after_more window (steps_of given) reset_step))
        (counts_as (state_by window given) (next (state_by window given) Reset Nothing) (length given) counts same.0 same.1 same.2 h.numbers) in
        let at_end : HasCounts (state_after window (steps ++ map resend_step w.messages)) (length given + 1) counts
        = counts_later _ (length given) counts (counts_after window steps w.messages (length given) counts at_start) in
        let state : HasState rows (state_by window (given ++ Begins w.messages ∷ [])) new
        = subst (λ (l : List Step). HasState rows (state_after window l) new) (sym (steps_begun given w.messages)) after.1 in (
          record { each = after.0 },
          record {
            state = state;
            calm = w.calm (state_by window (given ++ Begins w.messages ∷ [])) state;
            numbers = subst (λ (n : ℕ). HasCounts (state_by window (given ++ Begins w.messages ∷ [])) n counts) (sym (length-append given (Begins w.messages ∷ [])))
                (subst (λ (l : List Step). HasCounts (state_after window l) (length given + 1) counts) (sym (steps_begun given w.messages)) at_end);
          },
        );
    out = Appends-trans written mid_written written' reset_frame (frames_of w.messages) reset w.out;
  }

  pub restarts_part : (old mid : ResenderIn) (written mid_written written' : Option (List ℕ)) → TakesTurnOf rows Reset Nothing old mid → Appends written mid_written reset_frame
      → ResendsPart rows mid mid_written written' → RestartsPart rows old written written'
  restarts_part old mid written mid_written written' turn reset p = record {
    messages = p.messages;
    at = λ window given counts h. record { each = p.may window (steps_of given ++ reset_step ∷ []) (at_reset old mid window given turn h.state) };
    out = front_more written mid_written written' reset_frame (frames_of p.messages) reset p.out;
  }

  -- the reset itself isn't written whole
  pub restarts_none : (old : ResenderIn) (written written' : Option (List ℕ)) → AppendsFront written written' reset_frame → RestartsPart rows old written written'
  restarts_none old written written' front =
      record { messages = []; at = λ window given counts h. record { each = tt }; out = front_of_first written written' reset_frame [] front }

  -- both of them
  pub restarts : (old mid new : ResenderIn) (written mid_written written' : Option (List ℕ)) (r : Result (Unit {0}) Stop) → TakesTurnOf rows Reset Nothing old mid
      → Appends written mid_written reset_frame → ResendsAll rows mid new mid_written written' r → Restarts rows old new written written' r
  restarts old mid new written mid_written written' (Ok x) turn reset w = restarts_whole old mid new written mid_written written' turn reset w
  restarts old mid new written mid_written written' (Err stop) turn reset p = restarts_part old mid written mid_written written' turn reset p
