-- What the far end reads of all that `filter` wrote.
use Rattle.std.specs.Prelude.{◌≡◌, ◌<◌, ◌≤◌, ℕ, List, [], ◌∷◌, length, map, None}
use Rattle.std.specs.List.{AllZip, flat_map}
use Rattle.otlp_model.specs.Same.{SameTelemetry}
use Rattle.otlp_model.specs.Telemetry.{telemetry}
use Rattle.otlp_model.specs.Weight.{weight_of}
use Rattle.otlp_model.specs.declared.request.Signal.{Signal}
use Rattle.otlp_model.specs.declared.value.Pair.{Pair}
use Rattle.otap_capture.specs.Batch.{BatchContent, batch_content}
use Rattle.otap_capture.specs.Capture.{Frame, IsCapture, Message, capture_limit}
use Rattle.otap_capture.specs.Capture as capture
use Rattle.otap_cells.specs.Tables.{Table}
use Rattle.otap_cells.specs.Weights.{weight_of_tables}
use Rattle.otap_signals.specs.BySignal.{meaning_by, request_in}
use Rattle.otap_kept.specs.declared.whose.Whose.{Whose}
use Rattle.otap_kept.specs.Filtered.{filtered}
use Rattle.otap_consume.specs.Outcomes.{Outcome, Accepted}
use Rattle.otap_consume.specs.Outcomes as outcomes
use Rattle.otap_consume.specs.Receiving.{Received}
use Rattle.otap_filter.specs.Filtering.{Answer, AreFiltered, Batch, FrameResult, outcomes_in}
use Rattle.otap_filter.specs.Filtering as answers
use Rattle.otap_gateway.specs.Filtering.{filtered_text}
use Rattle.otap_gateway.specs.Reply.{ReplyText, out_text}
use Rattle.otap_gateway.specs.Replies.{replies_from}

-- THE REPLIES HAVE OUTCOMES: they are the texts of what these frames gave, whose outcomes are those of a receiver
pub record HaveOutcomes (of : Signal) (whose : Whose) (pair : Pair) (frames : List Frame) (replies : List ReplyText) : Type 0 where
  pub given : List FrameResult
  pub gave : AreFiltered of whose pair frames given
  pub texts : replies ≡ replies_from filtered_text 0 given
  pub received : Received (meaning_by of) frames (outcomes_in given)

-- ---- what is put on out

-- the message of what is kept of a batch and of its tables, or a reset
pub data Passed : Type 0 where
  Kept : BatchContent → List Table → List ℕ → Passed
  Reset : Passed

abbrev pub frame_passed : Passed → Frame
frame_passed (Kept batch tables message) = Message message
frame_passed Reset = capture.Reset

-- nothing else is
abbrev pub passed_by : Outcome → Answer → List Passed
passed_by (Accepted batch tables) (Batch id message) = Kept batch tables message ∷ []
passed_by outcomes.Reset answers.Reset = Reset ∷ []
passed_by outcome answer = []

abbrev pub passed : List FrameResult → List Passed
passed given = flat_map (λ g. passed_by g.outcome g.answer) given

abbrev pub frames_passed : List FrameResult → List Frame
frames_passed given = map frame_passed (passed given)

-- ---- what arrives

-- A BATCH ARRIVES FILTERED: its message is accepted as a batch of the same id, and what is read of it tells the filter of the
-- telemetry that the batch tells. It weighs no more than the batch, and neither do its rows.
pub record ArrivesFiltered (of : Signal) (whose : Whose) (pair : Pair) (batch : BatchContent) (tables : List Table) (message : List ℕ)
    (outcome : Outcome) : Type 0 where
  pub read : List Table
  pub accepted : outcome ≡ Accepted (batch_content message) read
  pub id : (batch_content message).id ≡ batch.id
  pub tells : SameTelemetry (filtered whose pair (telemetry (request_in of tables))) (telemetry (request_in of read))
  pub light : weight_of (request_in of read) ≤ weight_of (request_in of tables)
  pub rows : weight_of_tables read ≤ weight_of_tables tables

abbrev pub ArrivesAs : Signal → Whose → Pair → Passed → Outcome → Type 0
ArrivesAs of whose pair (Kept batch tables message) outcome = ArrivesFiltered of whose pair batch tables message outcome
ArrivesAs of whose pair Reset outcome = outcome ≡ outcomes.Reset

-- ALL THAT IS PUT ON OUT ARRIVES: its frames have outcomes for a receiver, and in all that they have each batch arrives filtered
pub record AllArrive (of : Signal) (whose : Whose) (pair : Pair) (given : List FrameResult) : Type 0 where
  pub received : List Outcome
  pub some : Received (meaning_by of) (frames_passed given) received
  pub all : (received : List Outcome) → Received (meaning_by of) (frames_passed given) received → AllZip (ArrivesAs of whose pair) (passed given) received

-- WHAT `filter` WRITES IS READ: the replies are the texts of what these frames gave, and all that was put on out arrives. The bytes
-- on out, read as one capture, are its frames, and end well; each frame of a capture begins below its limit.
pub record IsReadFiltered (of : Signal) (whose : Whose) (pair : Pair) (frames : List Frame) (replies : List ReplyText) : Type 0 where
  pub given : List FrameResult
  pub gave : AreFiltered of whose pair frames given
  pub texts : replies ≡ replies_from filtered_text 0 given
  pub arrive : AllArrive of whose pair given
  pub capture : length (out_text replies) < capture_limit → IsCapture (out_text replies) (frames_passed given) None
