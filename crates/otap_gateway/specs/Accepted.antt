-- What the far end makes of the requests that a resending exporter wrote in a segment.
use Rattle.std.specs.Prelude.{◌≡◌, ℕ, ℤ, pos, List, Some, map, find, slice_get}
use Rattle.otlp_model.specs.Same.{Same}
use Rattle.otlp_model.specs.declared.request.Request.{Request}
use Rattle.otap_capture.specs.Batch.{batch_content}
use Rattle.otap_capture.specs.Capture.{Message}
use Rattle.otap_cells.specs.Tables.{Table}
use Rattle.otap_signals.specs.Meanings.{Meaning}
use Rattle.otap_consume.specs.Outcomes.{Outcome, Accepted}
use Rattle.otap_consume.specs.Receiving.{Received}
use Rattle.otap_resend.specs.declared.unanswered.Unanswered.{Unanswered}
use Rattle.otap_resend.specs.Runs.{IsSentAs}
use Rattle.otap_resend.specs.States.{State, has_id}

-- the message with this index, which is its batch id, is accepted as the same telemetry as the request
pub record IsAcceptedAs (m : Meaning) (messages : List (List ℕ)) (received : List Outcome)
    (index : ℕ) (request : Request) : Type 0 where
  pub message : List ℕ
  pub tables : List Table
  pub written : slice_get messages index ≡ Some message
  pub id : (batch_content message).id ≡ pos index
  pub accepted : slice_get received index ≡ Some (Accepted (batch_content message) tables)
  pub same : Same request (m.request tables)

-- A SEGMENT ACCEPTS A REQUEST at an index: its messages have outcomes at the far end, and in all that they have the message
-- with this index is accepted as the request
pub record AcceptsAt (m : Meaning) (messages : List (List ℕ)) (index : ℕ) (request : Request) : Type 0 where
  pub received : List Outcome
  pub some : Received m (map Message messages) received
  pub all : (outcomes : List Outcome) → Received m (map Message messages) outcomes
      → IsAcceptedAs m messages outcomes index request

-- A REQUEST THAT IS DONE IS ACCEPTED: it is the unanswered one that was written with the status's batch id, it was sent with this
-- number, and the segment in which these messages were written accepts it there. Of the status only its id is in this: it is
-- taken as one for a message of this segment.
pub record WasAccepted (m : Meaning) (s : State) (sent : List Request) (messages : List (List ℕ))
    (id : ℤ) (number : ℕ) : Type 0 where
  pub done : Unanswered
  pub found : find (has_id id) s.unanswered ≡ Some done
  pub numbered : done.number ≡ number
  pub was_sent : IsSentAs sent number done.request
  pub index : ℕ
  pub is_id : id ≡ pos index
  pub accepts : AcceptsAt m messages index done.request
