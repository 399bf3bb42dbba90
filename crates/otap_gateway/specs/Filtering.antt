-- The texts of `filter`: of each batch the message of what is kept of it.
use Rattle.std.specs.Prelude.{ℕ, ℤ, List, ◌++◌, codes}
use Rattle.std.specs.Fmt.{signed_decimal}
use Rattle.otap_capture.specs.Capture.{message_frame, reset_frame}
use Rattle.otap_filter.specs.Filtering.{Answer, Batch, FrameResult, Refused, Reset, Unordered}
use Rattle.otap_gateway.specs.Lines.{batch_head, line_feed, printed, refuses}
use Rattle.otap_gateway.specs.Receptions.{refusal_line}
use Rattle.otap_gateway.specs.Reply.{ReplyText}

-- a batch of which what is kept isn't ordered
abbrev pub unordered_line : ℕ → ℤ → List ℕ
unordered_line number id = batch_head number (signed_decimal id) ++ codes " not filtered: ids fall" ++ line_feed

-- the text of an answer: the message of what is kept is put on out, and so is a reset; any other batch has a line on err
abbrev pub answer_text : ℕ → Answer → ReplyText
answer_text number (Batch id message) = printed (message_frame message)
answer_text number (Unordered id) = refuses (unordered_line number id)
answer_text number (Refused refusal) = refuses (refusal_line number refusal)
answer_text number Reset = printed reset_frame

-- that of what a frame gives
abbrev pub filtered_text : ℕ → FrameResult → ReplyText
filtered_text number given = answer_text number given.answer
