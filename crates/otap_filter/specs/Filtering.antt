-- What each frame of a capture gives a filter: its outcome, and what is answered. Which pair is looked for, and whose, stays the same.
use Rattle.std.specs.Prelude.{◌≡◌, ⊤, ℤ, ℕ, All, Bool, true, false, if◌then◌else◌, List, [], ◌∷◌, map}
use Rattle.std.specs.List.{flat_map}
use Rattle.lists.specs.EachAfter.{EachAfter}
use Rattle.lists.specs.Since.{since}
use Rattle.otlp_model.specs.declared.request.Signal.{Signal}
use Rattle.otlp_model.specs.declared.value.Pair.{Pair}
use Rattle.otap_capture.specs.Batch.{BatchContent}
use Rattle.otap_capture.specs.Capture.{Frame}
use Rattle.otap_cells.specs.Tables.{IsTable, Table}
use Rattle.otap_signals.specs.BySignal.{meaning_by}
use Rattle.otap_kept.specs.declared.whose.Whose.{Whose}
use Rattle.otap_kept.specs.Kept.{is_ordered, kept}
use Rattle.otap_consume.specs.declared.refusal.Refusal.{Refusal}
use Rattle.otap_consume.specs.Outcomes.{Outcome, Accepted, segment}
use Rattle.otap_consume.specs.Outcomes as outcomes
use Rattle.otap_consume.specs.Receiving.{ReceivedAfter}
use Rattle.otap_transit.specs.Arrivals.{SetIn, IsLaidSet, IsMessageOfSet}

-- ---- what a frame gives

-- an answer. `Batch` has the id of a batch and the message of what is kept of it; `Unordered` has the id of a batch of which what is
-- kept isn't ordered
pub data Answer : Type 0 where
  Batch : ℤ → List ℕ → Answer
  Unordered : ℤ → Answer
  Refused : Refusal → Answer
  Reset : Answer

-- WHAT A FRAME GIVES: its outcome for a receiver, and the answer
pub record FrameResult : Type 0 where
  pub outcome : Outcome
  pub answer : Answer

abbrev pub outcomes_in : List FrameResult → List Outcome
outcomes_in given = map (λ g. g.outcome) given

-- ---- what was sent since the latest reset

-- what is kept of a batch, under its id
abbrev pub kept_set : Signal → Whose → Pair → BatchContent → List Table → SetIn
kept_set of whose pair batch tables = record { id = batch.id; tables = kept of whose pair tables }

-- it is sent where it is ordered
abbrev pub set_if : Signal → Whose → Pair → Outcome → List SetIn
set_if of whose pair (Accepted batch tables) = if is_ordered of whose pair tables then kept_set of whose pair batch tables ∷ [] else []
set_if of whose pair (outcomes.Refused refusal) = []
set_if of whose pair outcomes.Reset = []

-- THE SETS THAT WERE SENT since the latest reset: the outcomes decide them
unfoldable pub sets_sent : Signal → Whose → Pair → List Outcome → List SetIn
sets_sent of whose pair before = flat_map (set_if of whose pair) (segment before)

abbrev pub sets_before : Signal → Whose → Pair → List FrameResult → List SetIn
sets_before of whose pair given = sets_sent of whose pair (outcomes_in given)

-- THE MESSAGES OF THEM
abbrev pub message_if : Answer → List (List ℕ)
message_if (Batch id message) = message ∷ []
message_if (Unordered id) = []
message_if (Refused refusal) = []
message_if Reset = []

abbrev pub is_reset : FrameResult → Bool
is_reset g = outcomes.is_reset g.outcome

unfoldable pub messages_sent : List FrameResult → List (List ℕ)
messages_sent given = flat_map (λ g. message_if g.answer) (since is_reset given)

-- ---- what is answered

-- A BATCH IS FILTERED after frames that gave these. Its tables have cells of their columns' types, and what is kept of them is
-- ordered. The message is one of what is kept under the id of the batch, after the sets and the messages since the latest reset; and
-- it is laid out
pub record IsFiltered (of : Signal) (whose : Whose) (pair : Pair) (given : List FrameResult) (batch : BatchContent) (tables : List Table)
    (message : List ℕ) : Type 0 where
  pub sound : All IsTable tables
  pub ordered : is_ordered of whose pair tables ≡ true
  pub message_of : IsMessageOfSet (sets_before of whose pair given) (messages_sent given) (kept_set of whose pair batch tables) message
  pub laid : IsLaidSet (sets_before of whose pair given) (messages_sent given) (kept_set of whose pair batch tables) message

-- THE ANSWER for an outcome after frames that gave these
abbrev pub Answers : Signal → Whose → Pair → List FrameResult → Outcome → Answer → Type 0
Answers of whose pair given (Accepted batch tables) (Batch id message) = (id ≡ batch.id) × IsFiltered of whose pair given batch tables message
Answers of whose pair given (Accepted batch tables) (Unordered id) = (id ≡ batch.id) × (is_ordered of whose pair tables ≡ false)
Answers of whose pair given (outcomes.Refused refusal) (Refused answered) = answered ≡ refusal
Answers of whose pair given outcomes.Reset Reset = ⊤
Answers of whose pair given outcome answer = ⊥

-- WHAT A FRAME GIVES after frames that gave these: the outcome that it has for a receiver, and the answer for this outcome
pub record FiltersAfter (of : Signal) (whose : Whose) (pair : Pair) (given : List FrameResult) (frame : Frame) (gives : FrameResult) : Type 0 where
  pub received : ReceivedAfter (meaning_by of) (outcomes_in given) frame gives.outcome
  pub answers : Answers of whose pair given gives.outcome gives.answer

-- WHAT THE FRAMES OF A CAPTURE GIVE, one after the other
abbrev pub AreFiltered : Signal → Whose → Pair → List Frame → List FrameResult → Type 0
AreFiltered of whose pair frames given = EachAfter (λ past before frame gives. FiltersAfter of whose pair before frame gives) [] [] frames given
