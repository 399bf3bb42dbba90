-- The jobs: their words, and what each may reply to a frame.
use Rattle.std.specs.Prelude.{◌≢◌, ℕ, List, [], ◌∷◌, length, codes}
use Rattle.otap_capture.specs.Capture.{Frame}
use Rattle.otap_kept.specs.Texts.{text_under}
use Rattle.otap_consume.specs.Outcomes.{OutcomeAfter}
use Rattle.otap_consume.specs.Receiving.{ReceivedAfter}
use Rattle.otap_filter.specs.Filtering.{FiltersAfter}
use Rattle.otlp_model.specs.declared.request.Signal.{Signal}
use Rattle.otlp_model.specs.declared.request.Signal.TheVariants as signals
use Rattle.otap_gateway.specs.declared.jobs.command.Command.{Command}
use Rattle.otap_gateway.specs.declared.jobs.command.Command.TheVariants as command
use Rattle.otap_gateway.specs.declared.jobs.command.ReceiverText.{ReceiverText}
use Rattle.otap_gateway.specs.declared.jobs.command.ReceiverText.TheVariants as texts
use Rattle.otap_signals.specs.BySignal.{rows_by, meaning_by}
use Rattle.otap_gateway.specs.Encoding.{Encodes, encoded}
use Rattle.otap_gateway.specs.Filtering.{filtered_text}
use Rattle.otap_gateway.specs.Listing.{ListsFrame}
use Rattle.otap_gateway.specs.Owners.{signal_of, whose_of, whose_word}
use Rattle.otap_gateway.specs.Receptions.{as_taken, text_of}
use Rattle.otap_gateway.specs.Reply.{ReplyText}
use Rattle.otap_gateway.specs.Schemas.{SchemasFrame}
use Rattle.otap_gateway.specs.Showing.{shown}
use Rattle.otap_gateway.specs.Tidying.{TidiesFrame}
use Rattle.otap_gateway.specs.Replies.{IsReplyAfter}

abbrev pub signal_word : Signal → List ℕ
signal_word signals.Traces = codes "traces"
signal_word signals.Logs = codes "logs"
signal_word signals.Metrics = codes "metrics"

abbrev pub text_word : ReceiverText → List ℕ
text_word texts.Decode = codes "decode"
text_word texts.Status = codes "status"
text_word texts.Replay = codes "replay"

-- the words of a job
abbrev pub words_of : Command → List (List ℕ)
words_of command.List = codes "list" ∷ []
words_of (command.Tidy signal) = codes "tidy" ∷ signal_word signal ∷ []
words_of (command.Encode signal) = codes "encode" ∷ signal_word signal ∷ []
words_of (command.Schema signal) = codes "schema" ∷ signal_word signal ∷ []
words_of (command.Show signal) = codes "show" ∷ signal_word signal ∷ []
words_of (command.Receive text signal) = text_word text ∷ signal_word signal ∷ []
words_of (command.Filter owner key text) = codes "filter" ∷ signal_word (signal_of owner) ∷ whose_word (whose_of owner) ∷ key ∷ text ∷ []

-- words that are those of no job over a capture
abbrev pub IsNoCommand : List (List ℕ) → Type 0
IsNoCommand words = (job : Command) → words ≢ words_of job

-- what a job may reply to a frame, after these frames and the replies to them
unfoldable pub ReplyOf : Command → List Frame → List ReplyText → Frame → ReplyText → Type 0
ReplyOf command.List frames replies frame reply = ListsFrame (length frames) frame reply
ReplyOf (command.Tidy signal) frames replies frame reply = TidiesFrame signal (length frames) frame reply
ReplyOf (command.Encode signal) frames replies frame reply = IsReplyAfter (Encodes (rows_by signal) (meaning_by signal)) encoded frames replies frame reply
ReplyOf (command.Schema signal) frames replies frame reply = SchemasFrame signal (length frames) frame reply
ReplyOf (command.Show signal) frames replies frame reply = IsReplyAfter (OutcomeAfter signal) shown frames replies frame reply
ReplyOf (command.Receive text signal) frames replies frame reply =
    IsReplyAfter (ReceivedAfter (meaning_by signal)) (as_taken (meaning_by signal) (text_of text)) frames replies frame reply
ReplyOf (command.Filter owner key text) frames replies frame reply =
    IsReplyAfter (FiltersAfter (signal_of owner) (whose_of owner) (text_under key text)) filtered_text frames replies frame reply
