-- What the far end reads of all that `encode` wrote.
use Rattle.std.specs.Prelude.{◌≡◌, ◌<◌, List, length, map, None}
use Rattle.otap_capture.specs.Capture.{Frame, IsCapture, capture_limit}
use Rattle.otap_signals.specs.Meanings.{Meaning, SignalRows}
use Rattle.otap_transit.specs.Sendings.{AreAllowed, frame_sent}
use Rattle.otap_gateway.specs.Encoding.{Encoded, EncodedAfter, Arrives, encoded, sent}
use Rattle.otap_gateway.specs.Reply.{ReplyText, out_text}
use Rattle.otap_gateway.specs.Replies.{Gave, replies_from}

-- WHAT IS WRITTEN IS READ: the replies are the texts of what these frames gave, all that was sent was allowed, and all of it
-- arrives. The bytes on out, read as one capture, are the frames of what was sent and end well; each frame of a capture begins
-- below its limit.
pub record IsReadAgain (rows : SignalRows) (m : Meaning) (frames : List Frame) (replies : List ReplyText) : Type 0 where
  pub outcomes : List Encoded
  pub gave : Gave (EncodedAfter rows) frames outcomes
  pub texts : replies ≡ replies_from encoded 0 outcomes
  pub allowed : AreAllowed rows (sent outcomes)
  pub arrives : Arrives m (sent outcomes)
  pub capture : length (out_text replies) < capture_limit → IsCapture (out_text replies) (map frame_sent (sent outcomes)) None
