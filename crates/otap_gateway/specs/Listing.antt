-- The texts of `list`: one line for each frame.
use Rattle.std.specs.Prelude.{◌≡◌, ◌⊎◌, ℕ, List, ◌++◌, length, codes}
use Rattle.std.specs.Fmt.{decimal, signed_decimal}
use Rattle.std.specs.List.{flat_map}
use Rattle.lists.specs.Payloads.{PayloadIn}
use Rattle.otap_capture.specs.Batch.{BatchContent, ReadsBatch}
use Rattle.otap_capture.specs.Capture.{Frame, Message, Packed, Reset}
use Rattle.otap_gateway.specs.Lines.{reset_line, line_feed, batch_head, printed}
use Rattle.otap_gateway.specs.Reply.{ReplyText}
use Rattle.otap_gateway.specs.Refused.{RefusesUnread, refused_unread}

-- a payload's type and the length of its record
abbrev pub payload_text : PayloadIn → List ℕ
payload_text payload = codes " " ++ signed_decimal payload.kind ++ codes ":" ++ decimal (length payload.bytes)

abbrev pub batch_line : ℕ → BatchContent → List ℕ
batch_line number batch = batch_head number (signed_decimal batch.id) ++ flat_map payload_text batch.payloads ++ line_feed

-- the reply to a message that is a batch
pub record ListsBatch (number : ℕ) (bytes : List ℕ) (reply : ReplyText) : Type 0 where
  pub batch : BatchContent
  pub reads : ReadsBatch bytes batch
  pub line : reply ≡ printed (batch_line number batch)

abbrev pub ListsMessage : ℕ → List ℕ → ReplyText → Type 0
ListsMessage number bytes reply = ListsBatch number bytes reply ⊎ RefusesUnread number bytes reply

-- what `list` replies to a frame
abbrev pub ListsFrame : ℕ → Frame → ReplyText → Type 0
ListsFrame number (Message bytes) reply = ListsMessage number bytes reply
ListsFrame number Packed reply = reply ≡ refused_unread number (codes "Compressed")
ListsFrame number Reset reply = reply ≡ printed (reset_line number)
