-- The jobs that add something of their own at the end of the capture.
use Rattle.std.specs.Prelude.{◌≢◌, ◌<◌, ◌≤◌, ℕ, List, [], ◌∷◌, ◌++◌, codes, Contains}
use Rattle.std.specs.Fmt.{decimal}
use Rattle.std.specs.declared.option.Option.{Option}
use Rattle.otap_capture.specs.declared.frame.Damage.{Damage}
use Rattle.otap_capture.specs.Capture.{Frame}
use Rattle.otap_cells.specs.declared.payload.Kind.{Kind}
use Rattle.otap_cells.specs.Payload.{kinds_of, number_of}
use Rattle.otlp_model.specs.declared.request.Signal.{Signal}
use Rattle.otap_gateway.specs.declared.jobs.command.Command.{Command}
use Rattle.otap_gateway.specs.declared.jobs.ending.Ending.{Ending}
use Rattle.otap_gateway.specs.declared.jobs.ending.Ending.TheVariants as ending
use Rattle.otap_gateway.specs.Commands.{ReplyOf, signal_word}
use Rattle.otap_signals.specs.BySignal.{rows_by}
use Rattle.otap_gateway.specs.Filing.{FilesFrame, FileCloses}
use Rattle.otap_gateway.specs.Jobs.{Rule}
use Rattle.otap_gateway.specs.Lines.{end_text}
use Rattle.otap_gateway.specs.Reply.{ReplyText, Closing}
use Rattle.otap_gateway.specs.Resends.{ResendsFrame, BeginsFrame, ResendCloses}

-- ---- words

-- the words of such a job
abbrev pub ending_words : Ending → List (List ℕ)
ending_words (ending.File signal kind number) = codes "file" ∷ signal_word signal ∷ decimal (number_of kind) ∷ decimal number ∷ []
ending_words (ending.Resend signal window) = codes "resend" ∷ signal_word signal ∷ decimal window ∷ []

-- the payload type is one of the signal's, and the sub-stream has one of the first million numbers
abbrev pub number_limit : ℕ
number_limit = 999999

pub record IsSubstream (signal : Signal) (kind : Kind) (number : ℕ) : Type 0 where
  pub kind_is : Contains (kinds_of signal) kind
  pub few : number ≤ number_limit

-- a window is from 1 to 64
abbrev pub window_limit : ℕ
window_limit = 64

pub record IsWindow (window : ℕ) : Type 0 where
  pub some : 0 < window
  pub few : window ≤ window_limit

abbrev pub IsEnding : Ending → Type 0
IsEnding (ending.File signal kind number) = IsSubstream signal kind number
IsEnding (ending.Resend signal window) = IsWindow window

abbrev pub IsNoEnding : List (List ℕ) → Type 0
IsNoEnding words = (job : Ending) → IsEnding job → words ≢ ending_words job

-- ---- what it does

-- what the job may reply to a frame, after these frames and the replies to them
unfoldable pub AnswerOf : Ending → List Frame → List ReplyText → Frame → ReplyText → Type 0
AnswerOf (ending.File signal kind number) frames replies frame reply = FilesFrame signal frames replies frame reply
AnswerOf (ending.Resend signal window) frames replies frame reply =
    ResendsFrame (rows_by signal) window frames replies frame reply

-- what it may have begun to reply where something stops it: the first pieces of a reply
unfoldable pub BegunOf : Ending → List Frame → List ReplyText → Frame → ReplyText → Type 0
BegunOf (ending.File signal kind number) frames replies frame reply = FilesFrame signal frames replies frame reply
BegunOf (ending.Resend signal window) frames replies frame reply =
    BeginsFrame (rows_by signal) window frames replies frame reply

-- what it may add once these are all frames of the capture and the replies to them
unfoldable pub ClosingOf : Ending → List Frame → List ReplyText → Closing → Type 0
ClosingOf (ending.File signal kind number) frames replies closing = FileCloses signal kind number frames replies closing
ClosingOf (ending.Resend signal window) frames replies closing =
    ResendCloses (rows_by signal) window frames replies closing

-- what follows the replies to all frames on err: the line of a damage is inside what is added
abbrev pub closing_text : Closing → Option Damage → List ℕ
closing_text closing end = closing.before ++ (end_text end ++ closing.after)

-- ---- a job over a capture, by what it may reply: one that adds nothing at the end, or one that adds something

pub data Task : Type 0 where
  Each : Command → Task
  Ends : Ending → Task

abbrev pub RuleOf : Task → Rule
RuleOf (Each job) = ReplyOf job
RuleOf (Ends job) = AnswerOf job

abbrev pub BegunBy : Task → Rule
BegunBy (Each job) = ReplyOf job
BegunBy (Ends job) = BegunOf job
