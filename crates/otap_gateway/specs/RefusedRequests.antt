-- The replies to refused requests.
use Rattle.std.specs.Prelude.{ℕ, List}
use Rattle.otap_gateway.specs.Lines.{request_line, refuses}
use Rattle.otap_gateway.specs.Reply.{ReplyText}

-- the reply to a frame whose request is refused, by the name of the cause
abbrev pub refused_request : ℕ → List ℕ → ReplyText
refused_request number cause = refuses (request_line number cause)
