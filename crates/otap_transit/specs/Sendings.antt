-- What leaves an exporter, with resets between segments, and what arrives.
use Rattle.std.specs.Prelude.{◌≡◌, ⊤, ℕ, pos, Bool, true, false, List, [], ◌∷◌, length}
use Rattle.std.specs.List.{flat_map}
use Rattle.lists.specs.EachAfter.{EachAfter, AllAfter}
use Rattle.lists.specs.Since.{since}
use Rattle.otlp_model.specs.Same.{Same}
use Rattle.otlp_model.specs.declared.request.Request.{Request}
use Rattle.otap_capture.specs.Batch.{batch_content}
use Rattle.otap_capture.specs.Capture.{Frame, Message}
use Rattle.otap_capture.specs.Capture as capture
use Rattle.otap_cells.specs.Tables.{Table}
use Rattle.otap_signals.specs.Meanings.{Meaning, SignalRows}
use Rattle.otap_consume.specs.Outcomes.{Outcome, Accepted}
use Rattle.otap_consume.specs.Outcomes as outcomes
use Rattle.otap_produce.specs.Policy.{IsExported, IsMessageOf}

-- the message of a request is sent, or a reset
pub data Sending : Type 0 where
  Sent : Request → List ℕ → Sending
  Reset : Sending

abbrev pub frame_sent : Sending → Frame
frame_sent (Sent request message) = Message message
frame_sent Reset = capture.Reset

-- ---- the segment so far

abbrev pub is_reset : Sending → Bool
is_reset (Sent request message) = false
is_reset Reset = true

abbrev pub request_if : Sending → List Request
request_if (Sent request message) = request ∷ []
request_if Reset = []

abbrev pub message_if : Sending → List (List ℕ)
message_if (Sent request message) = message ∷ []
message_if Reset = []

-- the requests and the messages since the latest reset
unfoldable pub requests_since : List Sending → List Request
requests_since sendings = flat_map request_if (since is_reset sendings)

unfoldable pub messages_since : List Sending → List (List ℕ)
messages_since sendings = flat_map message_if (since is_reset sendings)

-- ---- what may be sent

-- a request that is exported, by a message that the policy gives it in its segment
pub record MaySend (rows : SignalRows) (before : List Sending) (request : Request) (message : List ℕ) : Type 0 where
  pub exported : IsExported rows request
  pub message_of : IsMessageOf rows (requests_since before) (messages_since before) request message

abbrev pub IsAllowed : SignalRows → List Sending → Sending → Type 0
IsAllowed rows before (Sent request message) = MaySend rows before request message
IsAllowed rows before Reset = ⊤

abbrev pub AreAllowed : SignalRows → List Sending → Type 0
AreAllowed rows sendings = AllAfter (IsAllowed rows) [] sendings

-- ---- what arrives

-- the outcome of a message is its batch, accepted with the next id of its segment, and its tables mean the same telemetry
pub record IsAccepted (m : Meaning) (before : List Sending) (request : Request) (message : List ℕ) (outcome : Outcome) : Type 0 where
  pub tables : List Table
  pub accepted : outcome ≡ Accepted (batch_content message) tables
  pub id : (batch_content message).id ≡ pos (length (requests_since before))
  pub same : Same request (m.request tables)

abbrev pub ArrivesAs : Meaning → List Sending → Sending → Outcome → Type 0
ArrivesAs m before (Sent request message) outcome = IsAccepted m before request message outcome
ArrivesAs m before Reset outcome = outcome ≡ outcomes.Reset

-- each has its outcome
abbrev pub Arrive : Meaning → List Sending → List Outcome → Type 0
Arrive m sendings outcomes = EachAfter (λ before past sending outcome. ArrivesAs m before sending outcome) [] [] sendings outcomes
