-- The bytes that `encode` writes are the frames of what was sent.
use Rattle.std.proofs.Common.{◌≡◌, ℕ, suc, ◌<◌, List, [], ◌∷◌, ◌++◌, length, map, None, refl, sym, ap, ◌∙◌, subst}
use Rattle.std.specs.List.{flat_map}
use Rattle.lists.specs.EachAfter.{EachAfter, AllAfter}
use Rattle.otap_capture.specs.Capture.{Frame, IsFrame, IsCapture, message_frame, reset_frame, capture_limit}
use Rattle.otap_capture.specs.Capture as capture
use Rattle.otap_signals.specs.Meanings.{Meaning, SignalRows}
use Rattle.otap_transit.specs.Sendings.{Sending, Sent, Reset, AreAllowed, IsAllowed, frame_sent}
use Rattle.otlp_model.specs.declared.request.Signal.{Signal}
use Rattle.otap_gateway.specs.declared.jobs.command.Command.TheVariants as command
use Rattle.otap_gateway.specs.Commands.{ReplyOf}
use Rattle.otap_signals.specs.BySignal.{rows_by, meaning_by}
use Rattle.otap_gateway.specs.Encoding.{Encoded, Puts, Refuses, Encodes, Arrives, encoded, sent}
use Rattle.otap_gateway.specs.ReadBack.{IsReadAgain}
use Rattle.otap_gateway.specs.Reply.{ReplyText, out_text}
use Rattle.otap_gateway.specs.Replies.{Gave, replies_from}
use Rattle.otap_gateway.proofs.EncodedFrames.{encoded_only}
use Rattle.otap_gateway.proofs.SentSoFar.{are_allowed}
use Rattle.otap_gateway.proofs.AllReplies.{encode_back}
use Rattle.otap_gateway.proofs.WrittenCaptures.{AreSpelled, MessagesAreRead, capture_of}

-- the bytes of what is sent
abbrev pub spelled : Sending → List ℕ
spelled (Sent request message) = message_frame message
spelled Reset = reset_frame

out_replies : (number : ℕ) (os : List Encoded) → out_text (replies_from encoded number os) ≡ flat_map spelled (sent os)
out_replies number [] = refl
out_replies number (Puts (Sent q m) ∷ os) = ap (λ l. message_frame m ++ l) (out_replies (suc number) os)
out_replies number (Puts Reset ∷ os) = ap (λ l. reset_frame ++ l) (out_replies (suc number) os)
out_replies number (Refuses name ∷ os) = out_replies (suc number) os

module _ (rows : SignalRows) (messages : MessagesAreRead) (resets : IsFrame reset_frame capture.Reset) where
  one_frame : (past : List Sending) (s : Sending) → IsAllowed rows past s → IsFrame (spelled s) (frame_sent s)
  one_frame past (Sent q m) may = messages m may.message_of.short
  one_frame past Reset may = resets

  all_frames : (past ss : List Sending) → AllAfter (IsAllowed rows) past ss → AreSpelled spelled frame_sent ss
  all_frames past [] each = tt
  all_frames past (s ∷ ss) each = (one_frame past s each.0, all_frames (past ++ s ∷ []) ss each.1)

  pub sent_capture : (ss : List Sending) → AreAllowed rows ss → length (flat_map spelled ss) < capture_limit → IsCapture (flat_map spelled ss) (map frame_sent ss) None
  sent_capture ss allowed = capture_of spelled frame_sent ss (all_frames [] ss allowed)

  read_from : (m : Meaning) → ((ss : List Sending) → AreAllowed rows ss → Arrives m ss) → (frames : List Frame) (replies : List ReplyText) (os : List Encoded)
      → Gave (Encodes rows m) frames os → replies ≡ replies_from encoded 0 os → IsReadAgain rows m frames replies
  read_from m arrives frames replies os each texts =
      let gave = encoded_only rows m frames os each in
      let allowed : AreAllowed rows (sent os) = are_allowed rows frames os gave in
      let out : flat_map spelled (sent os) ≡ out_text replies = sym (ap out_text texts ∙ out_replies 0 os) in
      record {
        outcomes = os;
        gave = gave;
        texts = texts;
        allowed = allowed;
        arrives = arrives (sent os) allowed;
        capture = subst (λ (l : List ℕ). length l < capture_limit → IsCapture l (map frame_sent (sent os)) None) out (sent_capture (sent os) allowed);
      }

pub read_back : (signal : Signal) → MessagesAreRead → IsFrame reset_frame capture.Reset → ((ss : List Sending) → AreAllowed (rows_by signal) ss → Arrives (meaning_by signal) ss)
    → (frames : List Frame) (replies : List ReplyText) → EachAfter (ReplyOf (command.Encode signal)) [] [] frames replies
    → IsReadAgain (rows_by signal) (meaning_by signal) frames replies
read_back signal messages resets arrives frames replies each =
    let some = encode_back signal frames replies each in
    read_from (rows_by signal) messages resets (meaning_by signal) arrives frames replies some.0 some.1 some.2
