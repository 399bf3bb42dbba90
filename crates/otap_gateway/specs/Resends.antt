-- The texts of `resend`: the batches of an exporter that sends again what wasn't answered.
use Rattle.std.specs.Prelude.{◌≡◌, ⊤, Bool, true, false, ℕ, ℤ, None, List, [], ◌∷◌, ◌++◌, length, map, find, codes}
use Rattle.std.specs.Fmt.{decimal, signed_decimal}
use Rattle.std.specs.List.{flat_map}
use Rattle.lists.specs.EachAfter.{AllAfter}
use Rattle.otlp_codec.specs.Requests.{Reads, Stands}
use Rattle.otlp_messages.specs.declared.messages.Defect.{Defect}
use Rattle.otlp_messages.specs.Names.{defect_text}
use Rattle.otlp_model.specs.declared.request.Request.{Request}
use Rattle.otap_capture.specs.declared.batch.BatchRefusal.{BatchRefusal}
use Rattle.otap_capture.specs.Capture.{Frame, Message, Packed, message_frame, reset_frame}
use Rattle.otap_capture.specs.Capture as capture
use Rattle.otap_capture.specs.SendEvents.{ReadsEvent, RefusesEvent}
use Rattle.otap_capture.specs.SendEvents as event
use Rattle.otap_capture.specs.Statuses.{StatusContent}
use Rattle.otap_signals.specs.Meanings.{SignalRows}
use Rattle.otap_resend.specs.Runs.{Step, IsRun, state_after}
use Rattle.otap_resend.specs.States.{State, Call, Send, Answer, Reset, Resend, Outcome, Wrote, Refused, Done, GivenUp, Kept, Unknown, Nothing, Refusal, Full, Pending, Broken, TooManyItems, TooHeavy, is_unwritten}
use Rattle.otap_resend.specs.Turns.{MayGive}
use Rattle.otap_gateway.specs.Lines.{line_feed, printed, refuses}
use Rattle.otap_gateway.specs.Refused.{unread_name}
use Rattle.otap_gateway.specs.RefusedRequests.{refused_request}
use Rattle.otap_gateway.specs.Replies.{Gave, IsReplyAfter, replies_from}
use Rattle.otap_gateway.specs.Reply.{ReplyText, Closing, adds_after}

-- ---- what a frame gives

-- a call of the resender and its outcome; or a refusal by its name, of the request in an event or of the event; or a new segment,
-- and the messages that are written again in it
pub data Resent : Type 0 where
  Calls : Call → Outcome → Resent
  Unread : List ℕ → Resent
  Ill : List ℕ → Resent
  Begins : List (List ℕ) → Resent

-- the calls of the resender that belong to it
abbrev pub reset_step : Step
reset_step = record { call = Reset; outcome = Nothing }

abbrev pub resend_step : List ℕ → Step
resend_step message = record { call = Resend; outcome = Wrote message }

abbrev pub steps_in : Resent → List Step
steps_in (Calls call outcome) = record { call = call; outcome = outcome } ∷ []
steps_in (Unread name) = []
steps_in (Ill name) = []
steps_in (Begins messages) = reset_step ∷ map resend_step messages

abbrev pub steps_of : List Resent → List Step
steps_of given = flat_map steps_in given

-- the state of the resender after frames that gave these
abbrev pub state_by : ℕ → List Resent → State
state_by window given = state_after window (steps_of given)

-- a call has an outcome that it may have after those before it
abbrev pub MayStep : SignalRows → ℕ → List Step → Step → Type 0
MayStep rows window before step = MayGive rows (state_after window before) step.call step.outcome

-- the outcomes of a request that have a text: it is written, or refused for its size or for the window
abbrev pub IsSettled : Outcome → Type 0
IsSettled (Wrote message) = ⊤
IsSettled (Refused Full) = ⊤
IsSettled (Refused TooManyItems) = ⊤
IsSettled (Refused TooHeavy) = ⊤
IsSettled other = ⊥

-- WHAT THE BYTES OF A REQUEST GIVE after frames that gave these: the request is sent or refused
pub data RequestGives (rows : SignalRows) (window : ℕ) (given : List Resent) (part : List ℕ) : Resent → Type 0 where
  unread : (defect : Defect) → Stands rows.signal part defect
      → RequestGives rows window given part (Unread (defect_text defect))
  sends : (request : Request) (outcome : Outcome) → Reads rows.signal part request
      → MayGive rows (state_by window given) (Send request) outcome → IsSettled outcome
      → RequestGives rows window given part (Calls (Send request) outcome)

-- what a status gives
pub record StatusGives (rows : SignalRows) (window : ℕ) (given : List Resent)
    (status : StatusContent) (gives : Resent) : Type 0 where
  pub outcome : Outcome
  pub same : gives ≡ Calls (Answer status.id status.code) outcome
  pub may : MayGive rows (state_by window given) (Answer status.id status.code) outcome

-- what the bytes of an event give
pub data EventGives (rows : SignalRows) (window : ℕ) (given : List Resent) (bytes : List ℕ) : Resent → Type 0 where
  ill : (refusal : BatchRefusal) → RefusesEvent bytes refusal → EventGives rows window given bytes (Ill (unread_name refusal))
  request : (part : List ℕ) (gives : Resent) → ReadsEvent bytes (event.Request part)
      → RequestGives rows window given part gives → EventGives rows window given bytes gives
  status : (content : StatusContent) (gives : Resent) → ReadsEvent bytes (event.Status content)
      → StatusGives rows window given content gives → EventGives rows window given bytes gives

-- what a reset gives or begins: the first of the requests that are written again
pub record ResetGives (rows : SignalRows) (window : ℕ) (given : List Resent) (messages : List (List ℕ)) : Type 0 where
  pub each : AllAfter (MayStep rows window) (steps_of given ++ reset_step ∷ []) (map resend_step messages)

-- WHAT A FRAME MAY BEGIN after frames that gave these
pub data BeginsAfter (rows : SignalRows) (window : ℕ) (given : List Resent) : Frame → Resent → Type 0 where
  compressed : BeginsAfter rows window given Packed (Ill (codes "Compressed"))
  takes : (bytes : List ℕ) (gives : Resent) → EventGives rows window given bytes gives
      → BeginsAfter rows window given (Message bytes) gives
  resets : (messages : List (List ℕ)) → ResetGives rows window given messages
      → BeginsAfter rows window given capture.Reset (Begins messages)

-- WHAT A FRAME GIVES: after it each unanswered request is written
pub record ResendsAfter (rows : SignalRows) (window : ℕ) (given : List Resent) (frame : Frame) (gives : Resent) : Type 0 where
  pub begins : BeginsAfter rows window given frame gives
  pub whole : find is_unwritten (state_by window (given ++ gives ∷ [])).unanswered ≡ None

-- ---- its text

abbrev pub event_line : ℕ → List ℕ → List ℕ
event_line number name = codes "frame " ++ decimal number ++ codes ": event refused: " ++ name ++ line_feed

abbrev pub answer_line : ℕ → ℤ → List ℕ → List ℕ
answer_line number id word =
    codes "frame " ++ decimal number ++ codes ": answer " ++ signed_decimal id ++ codes " " ++ word ++ line_feed

-- what became of the request of a batch
abbrev pub answer_word : Outcome → List ℕ
answer_word (Done number) = codes "done"
answer_word (GivenUp number q) = codes "given up"
answer_word (Kept number) = codes "kept"
answer_word other = codes "unknown"

-- a status that is for no unanswered request is refused
abbrev pub is_unknown : Outcome → Bool
is_unknown Unknown = true
is_unknown other = false

abbrev pub answer_text : ℕ → ℤ → Outcome → ReplyText
answer_text number id outcome =
    record { out = []; err = answer_line number id (answer_word outcome); refused = is_unknown outcome }

-- why a request isn't sent
abbrev pub why_text : Refusal → List ℕ
why_text Full = codes "Full"
why_text Pending = codes "Pending"
why_text Broken = codes "Broken"
why_text TooManyItems = codes "TooManyItems"
why_text TooHeavy = codes "TooHeavy"

abbrev pub sent_text : ℕ → Outcome → ReplyText
sent_text number (Wrote message) = printed (message_frame message)
sent_text number (Refused why) = refused_request number (why_text why)
sent_text number other = printed []

abbrev pub called_text : ℕ → Call → Outcome → ReplyText
called_text number (Send q) outcome = sent_text number outcome
called_text number (Answer id code) outcome = answer_text number id outcome
called_text number call outcome = printed []

abbrev pub resent_text : ℕ → Resent → ReplyText
resent_text number (Calls call outcome) = called_text number call outcome
resent_text number (Unread name) = refused_request number name
resent_text number (Ill name) = refuses (event_line number name)
resent_text number (Begins messages) = printed (reset_frame ++ flat_map message_frame messages)

-- the last line: how many requests were sent, done and given up, and how many are open
abbrev pub counts_line : ℕ → ℕ → ℕ → ℕ → List ℕ
counts_line sent done given_up still =
    codes "sent " ++ decimal sent ++ codes " done " ++ decimal done ++ codes " given up " ++ decimal given_up
    ++ codes " open " ++ decimal still ++ line_feed

abbrev pub sent_line : State → List ℕ
sent_line s = counts_line s.sent (length s.done) (length s.given_up) (length s.unanswered)

-- ---- the job

-- WHAT IT REPLIES TO A FRAME after these: the text of what the frame gives after what those gave
abbrev pub ResendsFrame : SignalRows → ℕ → List Frame → List ReplyText → Frame → ReplyText → Type 0
ResendsFrame rows window = IsReplyAfter (ResendsAfter rows window) resent_text

-- what it may have begun to reply where something stops it
pub record BeginsFrame (rows : SignalRows) (window : ℕ) (frames : List Frame) (replies : List ReplyText)
    (frame : Frame) (reply : ReplyText) : Type 0 where
  pub given : List Resent
  pub before : Gave (ResendsAfter rows window) frames given
  pub so_far : replies ≡ replies_from resent_text 0 given
  pub gives : Resent
  pub begins : BeginsAfter rows window given frame gives
  pub says : reply ≡ resent_text (length frames) gives

-- what it adds after all frames
pub record ResendCloses (rows : SignalRows) (window : ℕ) (frames : List Frame) (replies : List ReplyText)
    (closing : Closing) : Type 0 where
  pub given : List Resent
  pub before : Gave (ResendsAfter rows window) frames given
  pub so_far : replies ≡ replies_from resent_text 0 given
  pub says : closing ≡ adds_after (sent_line (state_by window given))

-- WHAT IT WROTE BELONGS TO A RUN: the replies are the texts of what these frames gave, and the calls that these made are a run
-- of a resending exporter
pub record IsResent (rows : SignalRows) (window : ℕ) (frames : List Frame) (replies : List ReplyText) : Type 0 where
  pub given : List Resent
  pub gave : Gave (ResendsAfter rows window) frames given
  pub texts : replies ≡ replies_from resent_text 0 given
  pub run : IsRun rows window (steps_of given)
