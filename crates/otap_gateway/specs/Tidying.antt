-- The texts of `tidy`: each request in canonical spelling.
use Rattle.std.specs.Prelude.{◌≡◌, ◌⊎◌, ℕ, List, length, codes, nat_lt, if◌then◌else◌}
use Rattle.otap_capture.specs.Capture.{Frame, Message, Packed, Reset, message_frame, reset_frame}
use Rattle.otlp_codec.specs.Requests.{Reads, Stands, canon_request}
use Rattle.otlp_messages.specs.declared.messages.Defect.{Defect}
use Rattle.otlp_messages.specs.Names.{defect_text}
use Rattle.otlp_model.specs.Limits.{item_limit, weight_limit}
use Rattle.otlp_model.specs.declared.request.Request.{Request}
use Rattle.otlp_model.specs.declared.request.Signal.{Signal}
use Rattle.otlp_model.specs.Telemetry.{telemetry}
use Rattle.otlp_model.specs.Weight.{weight_of}
use Rattle.otap_gateway.specs.Lines.{printed}
use Rattle.otap_gateway.specs.RefusedRequests.{refused_request}
use Rattle.otap_gateway.specs.Reply.{ReplyText}

-- the reply to a request: a refusal by the first limit that it goes past, or its canonical spelling
abbrev pub tidied : ℕ → Request → ReplyText
tidied number request =
    if nat_lt item_limit (length (telemetry request)) then refused_request number (codes "TooManyItems")
    else if nat_lt weight_limit (weight_of request) then refused_request number (codes "TooHeavy")
    else printed (message_frame (canon_request request))

-- the reply to a message that is a request, or to one that has that defect
pub record TidiesRequest (signal : Signal) (number : ℕ) (bytes : List ℕ) (reply : ReplyText) : Type 0 where
  pub request : Request
  pub reads : Reads signal bytes request
  pub text : reply ≡ tidied number request

pub record RefusesRequest (signal : Signal) (number : ℕ) (bytes : List ℕ) (reply : ReplyText) : Type 0 where
  pub defect : Defect
  pub stands : Stands signal bytes defect
  pub line : reply ≡ refused_request number (defect_text defect)

abbrev pub TidiesMessage : Signal → ℕ → List ℕ → ReplyText → Type 0
TidiesMessage signal number bytes reply = TidiesRequest signal number bytes reply ⊎ RefusesRequest signal number bytes reply

-- what `tidy` replies to a frame
abbrev pub TidiesFrame : Signal → ℕ → Frame → ReplyText → Type 0
TidiesFrame signal number (Message bytes) reply = TidiesMessage signal number bytes reply
TidiesFrame signal number Packed reply = reply ≡ refused_request number (codes "Compressed")
TidiesFrame signal number Reset reply = reply ≡ printed reset_frame
