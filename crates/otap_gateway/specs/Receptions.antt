-- The texts of the jobs of a receiver: `decode`, `status` and `replay`.
use Rattle.std.specs.Prelude.{ℕ, ℤ, pos, negsuc, List, [], ◌++◌, length, codes, ◌==◌, ◌||◌, if◌then◌else◌, true}
use Rattle.std.specs.Fmt.{decimal, signed_decimal}
use Rattle.std.specs.declared.option.Option.{Option}
use Rattle.std.specs.declared.option.Option.TheVariants.{Some, None}
use Rattle.otlp_codec.specs.Requests.{canon_request}
use Rattle.otlp_model.specs.Telemetry.{telemetry}
use Rattle.otap_capture.specs.Capture.{message_frame, reset_frame}
use Rattle.otap_capture.specs.Statuses.{StatusContent, canon_status}
use Rattle.otap_consume.specs.declared.refusal.Refusal.{Refusal}
use Rattle.otap_consume.specs.declared.taken.Taken.{Taken}
use Rattle.otap_consume.specs.declared.taken.Taken.TheVariants.{Accepted, Refused, Reset}
use Rattle.otap_signals.specs.Meanings.{Meaning}
use Rattle.otap_consume.specs.Outcomes.{Outcome}
use Rattle.otap_consume.specs.Receivers.{taken_of}
use Rattle.otap_gateway.specs.declared.jobs.command.ReceiverText.{ReceiverText}
use Rattle.otap_gateway.specs.declared.jobs.command.ReceiverText.TheVariants as text
use Rattle.otap_gateway.specs.Causes.{cause_name}
use Rattle.otap_gateway.specs.Lines.{reset_line, batch_head, refusal_text, refused_line, line_feed, printed, refuses}
use Rattle.otap_gateway.specs.Reply.{ReplyText}

-- ---- what each job prints of what a frame gave

abbrev pub refusal_line : ℕ → Refusal → List ℕ
refusal_line number refusal = refused_line number refusal.id refusal.stage (cause_name refusal.cause) refusal.payload

-- `decode`: the canonical request of a batch
abbrev pub decoded : ℕ → Taken → ReplyText
decoded number (Accepted id request rows tree) = printed (message_frame (canon_request request))
decoded number (Refused refusal) = refuses (refusal_line number refusal)
decoded number Reset = printed reset_frame

-- `replay`: a line with the items of the request, the row weight and the tree weight
abbrev pub weights_text : ℕ → ℕ → List ℕ
weights_text rows tree = codes " rows " ++ decimal rows ++ codes " weight " ++ decimal tree ++ line_feed

abbrev pub replay_line : ℕ → ℤ → ℕ → ℕ → ℕ → List ℕ
replay_line number id items rows tree = batch_head number (signed_decimal id) ++ codes " accepted items " ++ decimal items ++ weights_text rows tree

abbrev pub replayed : ℕ → Taken → ReplyText
replayed number (Accepted id request rows tree) = printed (replay_line number id (length (telemetry request)) rows tree)
replayed number (Refused refusal) = refuses (refusal_line number refusal)
replayed number Reset = printed (reset_line number)

-- `status`: the status of a batch. The codes are those of gRPC: ABORTED, RESOURCE_EXHAUSTED and INVALID_ARGUMENT
abbrev pub code_of : ℕ → ℤ
code_of stage = if stage == 0 then pos 10 else (if stage == 4 || stage == 6 then pos 8 else pos 3)

abbrev pub id_or_less : Option ℤ → ℤ
id_or_less (Some id) = id
id_or_less None = negsuc 0

abbrev pub refusal_status : Refusal → StatusContent
refusal_status refusal = record {
  id = id_or_less refusal.id;
  code = code_of refusal.stage;
  message = refusal_text refusal.stage (cause_name refusal.cause) refusal.payload;
}

abbrev pub fine_status : ℤ → StatusContent
fine_status id = record { id = id; code = pos 0; message = [] }

abbrev pub statused : ℕ → Taken → ReplyText
statused number (Accepted id request rows tree) = printed (message_frame (canon_status (fine_status id)))
statused number (Refused refusal) = record { out = message_frame (canon_status (refusal_status refusal)); err = refusal_line number refusal; refused = true }
statused number Reset = printed reset_frame

-- the text of a job
abbrev pub text_of : ReceiverText → ℕ → Taken → ReplyText
text_of text.Decode = decoded
text_of text.Status = statused
text_of text.Replay = replayed

-- the text of what is returned for an outcome
abbrev pub as_taken : Meaning → (ℕ → Taken → ReplyText) → ℕ → Outcome → ReplyText
as_taken m text number outcome = text number (taken_of m outcome)
