-- The state of a resending exporter, its calls and their outcomes, and the state after each.
use Rattle.std.specs.Prelude.{◌+◌, ℕ, ℤ, pos, Bool, true, false, if◌then◌else◌, List, [], ◌∷◌, ◌++◌, length, map, find, Option, Some, None}
use Rattle.std.specs.Ordering.{int_eq}
use Rattle.otlp_model.specs.declared.request.Request.{Request}
use Rattle.otap_resend.specs.declared.unanswered.Unanswered.{Unanswered}

-- A request that was sent is unanswered until it is done or given up; printed lines call it open. One that is kept stays unanswered.

-- THE STATE: the window; whether memory ran out since the last reset; the unanswered requests, by ascending number; how many
-- requests were sent; the numbers of those that are done, and of those that were given up; and the requests that were written
-- since the last reset
pub record State : Type 0 where
  pub window : ℕ
  pub broken : Bool
  pub unanswered : List Unanswered
  pub sent : ℕ
  pub done : List ℕ
  pub given_up : List ℕ
  pub written : List Request

abbrev pub new_state : ℕ → State
new_state window = record { window = window; broken = false; unanswered = []; sent = 0; done = []; given_up = []; written = [] }

-- a call; of a status it has the batch id and the code
pub data Call : Type 0 where
  Send : Request → Call
  Answer : ℤ → ℤ → Call
  Reset : Call
  Resend : Call

-- why a request isn't written; running out of memory aside
pub data Refusal : Type 0 where
  Full : Refusal
  Pending : Refusal
  Broken : Refusal
  TooManyItems : Refusal
  TooHeavy : Refusal

-- THE OUTCOME OF A CALL: the message that was written, a refusal, or what became of the request with a number
pub data Outcome : Type 0 where
  Wrote : List ℕ → Outcome
  Refused : Refusal → Outcome
  OutOfMemory : Outcome
  Done : ℕ → Outcome
  GivenUp : ℕ → Request → Outcome
  Kept : ℕ → Outcome
  Unknown : Outcome
  Nothing : Outcome

-- ---- the unanswered requests

-- it wasn't written since the last reset
abbrev pub is_no_id : Option ℕ → Bool
is_no_id None = true
is_no_id (Some id) = false

abbrev pub is_unwritten : Unanswered → Bool
is_unwritten w = is_no_id w.id

-- it was written with this batch id
abbrev pub is_id : ℤ → Option ℕ → Bool
is_id id None = false
is_id id (Some own) = int_eq (pos own) id

abbrev pub has_id : ℤ → Unanswered → Bool
has_id id w = is_id id w.id

-- all but the first one that passes a test
abbrev pub without_first : (Unanswered → Bool) → List Unanswered → List Unanswered
without_first test [] = []
without_first test (w ∷ ws) = if test w then ws else w ∷ without_first test ws

-- the first one that is unwritten gets this id
abbrev pub with_first_written : ℕ → List Unanswered → List Unanswered
with_first_written id [] = []
with_first_written id (w ∷ ws) = if is_unwritten w then record { number = w.number; request = w.request; id = Some id } ∷ ws else w ∷ with_first_written id ws

abbrev pub without_id : Unanswered → Unanswered
without_id w = record { number = w.number; request = w.request; id = None }

abbrev pub request_if : Option Unanswered → List Request
request_if None = []
request_if (Some w) = w.request ∷ []

-- ---- the next state

-- THE STATE AFTER A CALL with this outcome; what isn't named stays
unfoldable pub next : State → Call → Outcome → State
next s (Send q) (Wrote message) =
    record s { unanswered = s.unanswered ++ record { number = s.sent; request = q; id = Some (length s.written) } ∷ []; sent = s.sent + 1; written = s.written ++ q ∷ [] }
next s (Send q) OutOfMemory = record s { broken = true }
next s (Answer id code) (Done number) = record s { unanswered = without_first (has_id id) s.unanswered; done = s.done ++ number ∷ [] }
next s (Answer id code) (GivenUp number q) = record s { unanswered = without_first (has_id id) s.unanswered; given_up = s.given_up ++ number ∷ [] }
next s Reset outcome = record s { broken = false; unanswered = map without_id s.unanswered; written = [] }
next s Resend (Wrote message) =
    record s { unanswered = with_first_written (length s.written) s.unanswered; written = s.written ++ request_if (find is_unwritten s.unanswered) }
next s Resend OutOfMemory = record s { broken = true }
next s call outcome = s
