-- Which outcome a call of a resending exporter may have in a state.
use Rattle.std.specs.Prelude.{◌≡◌, ◌⊎◌, ◌<◌, ◌≤◌, ◌||◌, ℕ, ℤ, pos, Bool, true, false, List, ◌∷◌, [], ◌++◌, length, find, Some, None}
use Rattle.std.specs.Ordering.{int_eq}
use Rattle.otlp_model.specs.declared.request.Request.{Request}
use Rattle.otlp_model.specs.Limits.{item_limit, weight_limit}
use Rattle.otlp_model.specs.Telemetry.{telemetry}
use Rattle.otlp_model.specs.Weight.{weight_of}
use Rattle.otap_capture.specs.Batch.{batch_content}
use Rattle.otap_capture.specs.Capture.{longest_frame}
use Rattle.otap_cells.specs.Weights.{row_weight_limit, weight_of_tables}
use Rattle.otap_signals.specs.Meanings.{SignalRows}
use Rattle.otap_produce.specs.Exporters.{IsLaidMessage}
use Rattle.otap_produce.specs.Policy.{IsExported, Policy}
use Rattle.otap_resend.specs.declared.unanswered.Unanswered.{Unanswered}
use Rattle.otap_resend.specs.States.{State, Call, Send, Answer, Reset, Resend, Outcome, Wrote, Refused, OutOfMemory, Done, GivenUp, Kept, Unknown, Nothing, Full, Pending, Broken, TooManyItems, TooHeavy, is_unwritten, has_id, next}

-- THE NEXT MESSAGE OF A SEGMENT in which these requests were written: a request that is exported is written as a message that fits
-- into a frame. Its batch id counts the requests before it. Whatever messages the policy allows for these requests, it allows this
-- one after them, and this one is laid out after them.
pub record IsNextMessage (rows : SignalRows) (written : List Request) (request : Request) (message : List ℕ) : Type 0 where
  pub exported : IsExported rows request
  pub id : (batch_content message).id ≡ pos (length written)
  pub short : length message ≤ longest_frame
  pub policy : (messages : List (List ℕ)) → Policy rows written messages → Policy rows (written ++ request ∷ []) (messages ++ message ∷ [])
  pub laid : (messages : List (List ℕ)) → Policy rows written messages → IsLaidMessage rows written messages request message

-- fewer requests than the window are unanswered, and each was written since the last reset
pub record HasRoom (window : ℕ) (unanswered : List Unanswered) : Type 0 where
  pub room : length unanswered < window
  pub written : find is_unwritten unanswered ≡ None

-- and memory didn't run out since then
pub record IsReady (s : State) : Type 0 where
  pub room : HasRoom s.window s.unanswered
  pub sound : s.broken ≡ false

-- the codes of gRPC: OK; INVALID_ARGUMENT and RESOURCE_EXHAUSTED
abbrev pub is_accepted : ℤ → Bool
is_accepted code = int_eq code (pos 0)

abbrev pub is_refused : ℤ → Bool
is_refused code = int_eq code (pos 3) || int_eq code (pos 8)

abbrev pub IsTooHeavy : SignalRows → Request → Type 0
IsTooHeavy rows q = (weight_limit < weight_of q) ⊎ (row_weight_limit < weight_of_tables (rows.tables q))

-- THE OUTCOMES THAT A CALL MAY HAVE in a state
pub data MayGive (rows : SignalRows) (s : State) : Call → Outcome → Type 0 where
  full : (q : Request) → s.window ≤ length s.unanswered → MayGive rows s (Send q) (Refused Full)
  pending : (q : Request) (w : Unanswered) → length s.unanswered < s.window → find is_unwritten s.unanswered ≡ Some w → MayGive rows s (Send q) (Refused Pending)
  broken : (q : Request) → HasRoom s.window s.unanswered → s.broken ≡ true → MayGive rows s (Send q) (Refused Broken)
  too_many_items : (q : Request) → IsReady s → item_limit < length (telemetry q) → MayGive rows s (Send q) (Refused TooManyItems)
  too_heavy : (q : Request) → IsReady s → length (telemetry q) ≤ item_limit → IsTooHeavy rows q → MayGive rows s (Send q) (Refused TooHeavy)
  out_of_memory : (q : Request) → IsReady s → IsExported rows q → MayGive rows s (Send q) OutOfMemory
  sends : (q : Request) (message : List ℕ) → IsReady s → IsNextMessage rows s.written q message → MayGive rows s (Send q) (Wrote message)
  unknown : (id code : ℤ) → find (has_id id) s.unanswered ≡ None → MayGive rows s (Answer id code) Unknown
  done : (id code : ℤ) (w : Unanswered) → find (has_id id) s.unanswered ≡ Some w → is_accepted code ≡ true → MayGive rows s (Answer id code) (Done w.number)
  given_up : (id code : ℤ) (w : Unanswered) → find (has_id id) s.unanswered ≡ Some w → is_refused code ≡ true → MayGive rows s (Answer id code) (GivenUp w.number w.request)
  kept : (id code : ℤ) (w : Unanswered) → find (has_id id) s.unanswered ≡ Some w → (is_accepted code || is_refused code) ≡ false → MayGive rows s (Answer id code) (Kept w.number)
  resets : MayGive rows s Reset Nothing
  resend_broken : s.broken ≡ true → MayGive rows s Resend (Refused Broken)
  all_written : s.broken ≡ false → find is_unwritten s.unanswered ≡ None → MayGive rows s Resend Nothing
  resend_out_of_memory : (w : Unanswered) → s.broken ≡ false → find is_unwritten s.unanswered ≡ Some w → MayGive rows s Resend OutOfMemory
  resends : (w : Unanswered) (message : List ℕ) → s.broken ≡ false → find is_unwritten s.unanswered ≡ Some w → IsNextMessage rows s.written w.request message
      → MayGive rows s Resend (Wrote message)

-- A TURN: a call, its outcome, and the states before and after it
pub record Turn (rows : SignalRows) (old : State) (call : Call) (outcome : Outcome) (new : State) : Type 0 where
  pub may : MayGive rows old call outcome
  pub follows : new ≡ next old call outcome
