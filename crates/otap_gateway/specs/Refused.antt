-- The replies to refused batches.
use Rattle.std.specs.Prelude.{◌≡◌, ℕ, ℤ, List, Option, None, Some}
use Rattle.otap_capture.specs.declared.batch.BatchRefusal.{BatchRefusal}
use Rattle.otap_capture.specs.Batch.{RefusesBatch, defect_of}
use Rattle.otlp_messages.specs.Names.{defect_text}
use Rattle.otap_gateway.specs.Lines.{refused_line, refuses}
use Rattle.otap_gateway.specs.Reply.{ReplyText}

-- the name of the defect that a refusal names
abbrev pub unread_name : BatchRefusal → List ℕ
unread_name refusal = defect_text (defect_of refusal)

-- the reply to a frame whose message can't be read, by the name of the cause
abbrev pub refused_unread : ℕ → List ℕ → ReplyText
refused_unread number cause = refuses (refused_line number None 1 cause None)

-- the reply to a message that has that defect
pub record RefusesUnread (number : ℕ) (bytes : List ℕ) (reply : ReplyText) : Type 0 where
  pub refusal : BatchRefusal
  pub stands : RefusesBatch bytes refusal
  pub line : reply ≡ refused_unread number (unread_name refusal)

-- the reply to a batch that a stage refuses, by the name of the cause and the type of the payload that it is in
abbrev pub refused_batch : ℕ → ℤ → ℕ → List ℕ → Option ℤ → ReplyText
refused_batch number id stage cause payload = refuses (refused_line number (Some id) stage cause payload)
