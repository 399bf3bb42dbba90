-- The messages of a segment, and the law over all calls.
use Rattle.std.proofs.Common.{◌≡◌, ◌⊎◌, inl, inr, ℕ, true, false, List, [], ◌∷◌, ◌++◌, Option, Some, refl, sym, ap, ◌∙◌, subst, append-nil, arith}
use Rattle.std.specs.Prelude.{find, nat_lt, if◌then◌else◌}
use Rattle.std.proofs.lemmas.Bool.{cases_Bool, ltb-true}
use Rattle.std.specs.List.{AllByRecursion, flat_map, list_any}
use Rattle.std.proofs.lemmas.List.Sums.{fold-append}
use Rattle.std.proofs.lemmas.List.{flat_map_more}
use Rattle.lists.proofs.Growing.{all_after-keeps, all_after-push, each_after-push}
use Rattle.lists.proofs.Latest.{since-append}
use Rattle.lists.specs.Since.{since}
use Rattle.otap_signals.specs.Meanings.{SignalRows}
use Rattle.otlp_model.specs.declared.request.Request.{Request}
use Rattle.otap_produce.specs.Exporters.{AreLaidMessages, IsLaidMessage}
use Rattle.otap_produce.specs.Policy.{Policy}
use Rattle.otap_resend.specs.declared.unanswered.Unanswered.{Unanswered}
use Rattle.otap_resend.specs.Runs.{Step, IsRun, IsSound, IsAccounted, IsPlaced, IsSoundStep, Carries, is_reset, is_reset_call, state_after, message_of, messages_since, request_of, requests_sent}
use Rattle.otap_resend.specs.States.{State, Call, Send, Answer, Resend, Outcome, next, new_state, is_unwritten, request_if}
use Rattle.otap_resend.specs.Turns.{MayGive, IsNextMessage}
use Rattle.otap_resend.specs.Turns as turns
use Rattle.otap_resend.proofs.Accounting.{accounted, placed}
use Rattle.otap_resend.proofs.Sent.{KeepsRequests, keeps_requests, handed_back, carried}

-- one more step
state_more : (window : ℕ) (steps : List Step) (step : Step) → state_after window (steps ++ step ∷ []) ≡ next (state_after window steps) step.call step.outcome
state_more window steps step = fold-append (λ (s : State) (t : Step). next s t.call t.outcome) (new_state window) steps (step ∷ [])

-- a step that begins no segment adds its message to those of the segment, and a reset begins without
messages_more : (steps : List Step) (step : Step) → is_reset step ≡ false → messages_since (steps ++ step ∷ []) ≡ messages_since steps ++ message_of step.outcome
messages_more steps step goes_on =
    ap (λ l. flat_map (λ (t : Step). message_of t.outcome) l) (since-append is_reset steps (step ∷ []) ∙ stays)
    ∙ sym (flat_map_more (λ (t : Step). message_of t.outcome) [] (since is_reset steps) step)
  where
    stays : (if list_any is_reset (step ∷ []) then since is_reset (step ∷ []) else since is_reset steps ++ step ∷ []) ≡ since is_reset steps ++ step ∷ []
    stays = rw goes_on refl

messages_reset : (steps : List Step) (step : Step) → is_reset step ≡ true → messages_since (steps ++ step ∷ []) ≡ message_of step.outcome ++ []
messages_reset steps step begins = ap (λ l. flat_map (λ (t : Step). message_of t.outcome) l) (since-append is_reset steps (step ∷ []) ∙ anew)
  where
    anew : (if list_any is_reset (step ∷ []) then since is_reset (step ∷ []) else since is_reset steps ++ step ∷ []) ≡ step ∷ []
    anew = rw begins refl

requests_more : (steps : List Step) (step : Step)
    → requests_sent (steps ++ step ∷ []) ≡ requests_sent steps ++ request_of step.call step.outcome
requests_more steps step = sym (flat_map_more (λ (t : Step). request_of t.call t.outcome) [] steps step)

-- messages that the policy allows for these requests, and that are laid out
abbrev pub InSegment : SignalRows → List Request → List (List ℕ) → Type 0
InSegment rows written messages = Policy rows written messages × AreLaidMessages rows written messages

module _ (rows : SignalRows) where
  more_in : (written : List Request) (q : Request) (messages : List (List ℕ)) (message : List ℕ)
      → IsNextMessage rows written q message → InSegment rows written messages
      → InSegment rows (written ++ q ∷ []) (messages ++ message ∷ [])
  more_in written q messages message is both = (
    is.policy messages both.0,
    each_after-push (IsLaidMessage rows) [] [] written messages q message both.1 (is.laid messages both.0),
  )

  resent_in : (s : State) (found : Option Unanswered) (w : Unanswered) (messages : List (List ℕ)) (message : List ℕ)
      → found ≡ Some w → IsNextMessage rows s.written w.request message
      → InSegment rows s.written messages → InSegment rows (s.written ++ request_if found) (messages ++ message ∷ [])
  resent_in s found w messages message is next' both = rw is (more_in s.written w.request messages message next' both)

  -- what a call does to the requests that were written and to the messages of the segment
  pub in_step : (s : State) (messages : List (List ℕ)) (call : Call) (outcome : Outcome)
      → MayGive rows s call outcome → InSegment rows s.written messages
      → InSegment rows (next s call outcome).written (if is_reset_call call then [] else messages ++ message_of outcome)
  unfolding next
  in_step s messages _ _ (turns.full q full) both = rw (append-nil messages) both
  in_step s messages _ _ (turns.pending q w room some) both = rw (append-nil messages) both
  in_step s messages _ _ (turns.broken q room broken) both = rw (append-nil messages) both
  in_step s messages _ _ (turns.too_many_items q ready many) both = rw (append-nil messages) both
  in_step s messages _ _ (turns.too_heavy q ready few heavy) both = rw (append-nil messages) both
  in_step s messages _ _ (turns.out_of_memory q ready exported) both = rw (append-nil messages) both
  in_step s messages _ _ (turns.sends q message ready is) both = more_in s.written q messages message is both
  in_step s messages _ _ (turns.unknown id code none) both = rw (append-nil messages) both
  in_step s messages _ _ (turns.done id code w found accepted) both = rw (append-nil messages) both
  in_step s messages _ _ (turns.given_up id code w found given) both = rw (append-nil messages) both
  in_step s messages _ _ (turns.kept id code w found none) both = rw (append-nil messages) both
  in_step s messages _ _ turns.resets both = (tt, tt)
  in_step s messages _ _ (turns.resend_broken broken) both = rw (append-nil messages) both
  in_step s messages _ _ (turns.all_written sound none) both = rw (append-nil messages) both
  in_step s messages _ _ (turns.resend_out_of_memory w sound found) both = rw (append-nil messages) both
  in_step s messages _ _ (turns.resends w message sound found is) both =
      resent_in s (find is_unwritten s.unanswered) w messages message found is both

  no_reset_message : (s : State) (step : Step) → is_reset step ≡ true → MayGive rows s step.call step.outcome → message_of step.outcome ≡ []
  no_reset_message s step reset may = by step.call step.outcome may reset
    where
      by : (call : Call) (outcome : Outcome) → MayGive rows s call outcome → is_reset_call call ≡ true → message_of outcome ≡ []
      by _ _ turns.resets reset = refl
      by (Send q) outcome may reset = let clash : false ≡ true = reset in cc
      by (Answer id code) outcome may reset = let clash : false ≡ true = reset in cc
      by Resend outcome may reset = let clash : false ≡ true = reset in cc

  module _ (window : ℕ) where
    messages_by : (steps : List Step) (step : Step) → MayGive rows (state_after window steps) step.call step.outcome
        → messages_since (steps ++ step ∷ []) ≡ (if is_reset step then [] else messages_since steps ++ message_of step.outcome)
    messages_by steps step may = by (cases_Bool (is_reset step))
      where
        by : (is_reset step ≡ true) ⊎ (is_reset step ≡ false) → messages_since (steps ++ step ∷ []) ≡ (if is_reset step then [] else messages_since steps ++ message_of step.outcome)
        by (inl reset) = messages_reset steps step reset ∙ append-nil (message_of step.outcome) ∙ no_reset_message (state_after window steps) step reset may ∙ sym (rw reset refl)
        by (inr goes_on) = messages_more steps step goes_on ∙ sym (rw goes_on refl)

    pub sound_on : (steps : List Step) (step : Step) → IsSound rows window steps
        → MayGive rows (state_after window steps) step.call step.outcome → IsSound rows window (steps ++ step ∷ [])
    sound_on steps step so may =
        let s = state_after window steps in
        let sent = requests_sent steps in
        let s' = state_after window (steps ++ step ∷ []) in
        let sent' = requests_sent (steps ++ step ∷ []) in
        let after : s' ≡ next s step.call step.outcome = state_more window steps step in
        let more : sent' ≡ sent ++ request_of step.call step.outcome = requests_more steps step in
        let before : KeepsRequests sent s.sent s.unanswered s.written =
        record { counted = so.counted; ascending = so.ascending; unanswered = so.unanswered; written = so.written } in
        let in_next = keeps_requests rows s sent step.call step.outcome may before in
        let requests : KeepsRequests sent' s'.sent s'.unanswered s'.written =
        subst (λ (l : List Request). KeepsRequests l s'.sent s'.unanswered s'.written) (sym more)
        (subst (λ (t : State). KeepsRequests (sent ++ request_of step.call step.outcome) t.sent t.unanswered t.written) (sym after) in_next) in
        let segment : InSegment rows s'.written (messages_since (steps ++ step ∷ [])) =
        rw (after, messages_by steps step may) (in_step s (messages_since steps) step.call step.outcome may (so.policy, so.laid)) in
        let carries : Carries rows sent' s s' step.outcome =
        subst (λ (t : State). Carries rows sent' s t step.outcome) (sym after)
        (subst (λ (l : List Request). Carries rows l s (next s step.call step.outcome) step.outcome) (sym more)
        (carried rows s (sent ++ request_of step.call step.outcome) step.call step.outcome may so.placed in_next.unanswered)) in
        record {
          accounted = subst IsAccounted (sym after) (accounted rows s step.call step.outcome may so.accounted);
          counted = requests.counted;
          ascending = requests.ascending;
          unanswered = requests.unanswered;
          written = requests.written;
          placed = subst (λ (t : State). AllByRecursion (IsPlaced t.written) t.unanswered) (sym after)
              (placed rows s step.call step.outcome may so.placed);
          each = all_after-push (IsSoundStep rows window) [] steps step so.each
              (record { hands_back = handed_back rows s sent step.call step.outcome may so.unanswered; carries = carries });
          policy = segment.0;
          laid = segment.1;
        }

pub sound : (rows : SignalRows) (window : ℕ) (steps : List Step) → IsRun rows window steps → IsSound rows window steps
sound rows window steps run =
    all_after-keeps (λ before step. MayGive rows (state_after window before) step.call step.outcome) (IsSound rows window)
    (sound_on rows window) [] steps start run
  where
    none_below : (n m : ℕ) → m ≡ 0 → m ≡ (if nat_lt n 0 then 1 else 0)
    none_below n m none = by (cases_Bool (nat_lt n 0))
      where
        by : (nat_lt n 0 ≡ true) ⊎ (nat_lt n 0 ≡ false) → m ≡ (if nat_lt n 0 then 1 else 0)
        by (inl is_so) = let lt = ltb-true n 0 is_so in absurd (omega (arith, lt))
        by (inr is_not) = rw is_not none

    start : IsSound rows window []
    start = record {
      accounted = λ n. none_below n _ refl;
      counted = refl;
      ascending = tt;
      unanswered = tt;
      written = tt;
      placed = tt;
      each = tt;
      policy = tt;
      laid = tt;
    }
