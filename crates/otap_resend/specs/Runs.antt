-- Calls of a resending exporter one after the other, and what is true of all of them.
use Rattle.std.specs.Prelude.{◌≡◌, ◌<◌, ◌+◌, ◌==◌, ⊤, ℕ, Bool, true, false, nat_lt, if◌then◌else◌, List, [], ◌∷◌, ◌++◌, length, map, find, fold, count_by, slice_get, IfSome, Some}
use Rattle.std.specs.List.{AllByRecursion, flat_map}
use Rattle.lists.specs.EachAfter.{AllAfter}
use Rattle.lists.specs.Since.{since}
use Rattle.otlp_model.specs.declared.request.Request.{Request}
use Rattle.otap_capture.specs.Batch.{batch_content}
use Rattle.otap_signals.specs.Meanings.{SignalRows}
use Rattle.otap_produce.specs.Exporters.{AreLaidMessages}
use Rattle.otap_produce.specs.Policy.{Policy}
use Rattle.otap_resend.specs.declared.unanswered.Unanswered.{Unanswered}
use Rattle.otap_resend.specs.States.{State, Call, Send, Answer, Reset, Resend, Outcome, Wrote, GivenUp, new_state, has_id, next}
use Rattle.otap_resend.specs.Turns.{IsNextMessage, MayGive}

pub record Step : Type 0 where
  pub call : Call
  pub outcome : Outcome

abbrev pub state_after : ℕ → List Step → State
state_after window steps = fold (λ s step. next s step.call step.outcome) (new_state window) steps

-- A RUN: each call has an outcome that it may have after those before it
abbrev pub IsRun : SignalRows → ℕ → List Step → Type 0
IsRun rows window steps = AllAfter (λ before step. MayGive rows (state_after window before) step.call step.outcome) [] steps

-- ---- what a run wrote and sent

abbrev pub is_reset_call : Call → Bool
is_reset_call (Send q) = false
is_reset_call (Answer id code) = false
is_reset_call Reset = true
is_reset_call Resend = false

abbrev pub is_reset : Step → Bool
is_reset step = is_reset_call step.call

-- the messages since the last reset
abbrev pub message_of : Outcome → List (List ℕ)
message_of (Wrote message) = message ∷ []
message_of other = []

abbrev pub messages_since : List Step → List (List ℕ)
messages_since steps = flat_map (λ step. message_of step.outcome) (since is_reset steps)

-- THE REQUESTS THAT WERE SENT, each at the index that is its number
abbrev pub request_of : Call → Outcome → List Request
request_of (Send q) (Wrote message) = q ∷ []
request_of call outcome = []

abbrev pub requests_sent : List Step → List Request
requests_sent steps = flat_map (λ step. request_of step.call step.outcome) steps

-- ---- what the law says of a run

-- how often a number is among others, and among those of the unanswered requests
abbrev pub times : ℕ → List ℕ → ℕ
times n numbers = count_by (λ m. m == n) numbers

abbrev pub times_unanswered : ℕ → List Unanswered → ℕ
times_unanswered n unanswered = count_by (λ w. w.number == n) unanswered

-- NO NUMBER IS LOST OR INVENTED: each number below those sent is once among those that are unanswered, done or given up, and no
-- other number is
abbrev pub IsAccounted : State → Type 0
IsAccounted s = (n : ℕ) → times_unanswered n s.unanswered + (times n s.done + times n s.given_up) ≡ (if nat_lt n s.sent then 1 else 0)

-- each number is less than all after it
abbrev pub Ascend : List ℕ → Type 0
Ascend [] = ⊤
Ascend (n ∷ ns) = AllByRecursion (λ m. n < m) ns × Ascend ns

abbrev pub numbers_of : List Unanswered → List ℕ
numbers_of unanswered = map (λ w. w.number) unanswered

-- A REQUEST THAT WAS SENT: the one with this number, which is its index among all that were sent; or the one with some number
abbrev pub IsSentAs : List Request → ℕ → Request → Type 0
IsSentAs sent number request = slice_get sent number ≡ Some request

abbrev pub WasSent : List Request → Request → Type 0
WasSent sent request = (number : ℕ) × IsSentAs sent number request

-- a request that is handed back is the one that was sent with its number
abbrev pub HandsBack : List Request → Outcome → Type 0
HandsBack sent (GivenUp number request) = IsSentAs sent number request
HandsBack sent other = ⊤

-- A BATCH CARRIES A REQUEST that was sent and is unanswered after its call: a status with the batch's id is for this one, and the
-- batch is its message, the next one after those that were written before
pub record CarriesOne (rows : SignalRows) (sent : List Request) (before after : State) (message : List ℕ) : Type 0 where
  pub carried : Unanswered
  pub was_sent : IsSentAs sent carried.number carried.request
  pub unanswered : find (has_id (batch_content message).id) after.unanswered ≡ Some carried
  pub is_next : IsNextMessage rows before.written carried.request message

abbrev pub Carries : SignalRows → List Request → State → State → Outcome → Type 0
Carries rows sent before after (Wrote message) = CarriesOne rows sent before after message
Carries rows sent before after other = ⊤

-- what each call hands back, and what it writes
pub record IsSoundStep (rows : SignalRows) (window : ℕ) (before : List Step) (step : Step) : Type 0 where
  pub hands_back : HandsBack (requests_sent before) step.outcome
  pub carries : Carries rows (requests_sent (before ++ step ∷ []))
      (state_after window before) (state_after window (before ++ step ∷ [])) step.outcome

-- the batch id of an unanswered request is its index among those written since the last reset
abbrev pub IsPlaced : List Request → Unanswered → Type 0
IsPlaced written w = IfSome w.id (λ id. slice_get written id ≡ Some w.request)

-- THE LAW: what is true of the state after all calls, of each call after those before it, and of the messages since the last
-- reset
pub record IsSound (rows : SignalRows) (window : ℕ) (steps : List Step) : Type 0 where
  pub accounted : IsAccounted (state_after window steps)
  pub counted : (state_after window steps).sent ≡ length (requests_sent steps)
  pub ascending : Ascend (numbers_of (state_after window steps).unanswered)
  pub unanswered : AllByRecursion (λ w. IsSentAs (requests_sent steps) w.number w.request) (state_after window steps).unanswered
  pub written : AllByRecursion (WasSent (requests_sent steps)) (state_after window steps).written
  pub placed : AllByRecursion (IsPlaced (state_after window steps).written) (state_after window steps).unanswered
  pub each : AllAfter (IsSoundStep rows window) [] steps
  pub policy : Policy rows (state_after window steps).written (messages_since steps)
  pub laid : AreLaidMessages rows (state_after window steps).written (messages_since steps)
