-- What `resend` writes over all frames: the texts of one run of a resending exporter, and what the far end reads of them.
use Rattle.std.specs.Prelude.{◌≡◌, ◌<◌, ℕ, List, [], ◌∷◌, ◌++◌, length, map, find, None}
use Rattle.std.specs.declared.option.Option.{Option}
use Rattle.std.specs.Io.KnownBytes.{Appends}
use Rattle.otap_capture.specs.declared.frame.Damage.{Damage}
use Rattle.otap_capture.specs.Capture.{Frame, IsCapture, capture_limit}
use Rattle.otap_signals.specs.Meanings.{Meaning, SignalRows}
use Rattle.otap_transit.specs.Sendings.{Sending, Sent, AreAllowed, frame_sent}
use Rattle.otap_transit.specs.Sendings as transit
use Rattle.otap_resend.specs.Runs.{Step, IsRun}
use Rattle.otap_resend.specs.States.{State, Call, Send, Answer, Reset, Resend, Outcome, Wrote, is_unwritten, new_state, next, request_if}
use Rattle.otap_gateway.specs.Encoding.{Arrives}
use Rattle.otap_gateway.specs.Lines.{end_text}
use Rattle.otap_gateway.specs.Replies.{Gave, replies_from}
use Rattle.otap_gateway.specs.Reply.{ReplyText, Closing, adds_after, err_text, out_text}
use Rattle.otap_gateway.specs.Resends.{Resent, ResendsAfter, resent_text, sent_line, state_by, steps_of}
use Rattle.otap_gateway.specs.Runs.{Sinks}

-- ---- all texts are of one run

-- the texts of what the frames gave
abbrev pub texts_of : List Resent → List ReplyText
texts_of given = replies_from resent_text 0 given

-- ALL THAT IT WRITES IS OF ONE RUN: the replies are the texts of what these frames gave, the calls that these made are a run of a
-- resending exporter, and the last line counts the requests after all these calls
pub record IsOneRun (rows : SignalRows) (window : ℕ) (frames : List Frame) (replies : List ReplyText)
    (closing : Closing) : Type 0 where
  pub given : List Resent
  pub gave : Gave (ResendsAfter rows window) frames given
  pub run : IsRun rows window (steps_of given)
  pub texts : replies ≡ texts_of given
  pub last_line : closing ≡ adds_after (sent_line (state_by window given))

-- THE SINKS GREW BY ONE RUN over these frames: out by its texts, and err by its texts, the line of a damage, and the line that
-- counts the requests after all its calls
pub record GrowsByRun (rows : SignalRows) (window : ℕ) (frames : List Frame) (end : Option Damage)
    (old new : Sinks) : Type 0 where
  pub given : List Resent
  pub gave : Gave (ResendsAfter rows window) frames given
  pub run : IsRun rows window (steps_of given)
  pub out : Appends old.out.written new.out.written (out_text (texts_of given))
  pub err : Appends old.err.written new.err.written
      (err_text (texts_of given) ++ (end_text end ++ sent_line (state_by window given)))

-- ---- what is read of them

-- what a call sends in a state: a message, beside the request that it carries, or a reset
abbrev pub sendings_in : State → Call → Outcome → List Sending
sendings_in s (Send q) (Wrote message) = Sent q message ∷ []
sendings_in s (Send q) other = []
sendings_in s (Answer id code) outcome = []
sendings_in s Reset outcome = transit.Reset ∷ []
sendings_in s Resend (Wrote message) = map (λ q. Sent q message) (request_if (find is_unwritten s.unanswered))
sendings_in s Resend other = []

-- what calls send, one after the other
abbrev pub sendings_from : State → List Step → List Sending
sendings_from s [] = []
sendings_from s (step ∷ steps) =
    sendings_in s step.call step.outcome ++ sendings_from (next s step.call step.outcome) steps

abbrev pub sent_by : ℕ → List Resent → List Sending
sent_by window given = sendings_from (new_state window) (steps_of given)

-- WHAT IT WRITES IS READ: all that was sent for what frames gave was allowed, and all of it arrives. The bytes on out, read as
-- one capture, are the frames of what was sent and end well; each frame of a capture begins below its limit.
pub record IsReadBack (rows : SignalRows) (m : Meaning) (window : ℕ) (given : List Resent) : Type 0 where
  pub allowed : AreAllowed rows (sent_by window given)
  pub arrives : Arrives m (sent_by window given)
  pub capture : length (out_text (texts_of given)) < capture_limit
      → IsCapture (out_text (texts_of given)) (map frame_sent (sent_by window given)) None
