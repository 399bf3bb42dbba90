-- The steps of `unfile`: used in private contracts.
use Rattle.std.specs.Prelude.{◌≡◌, ◌⊎◌, ◌≤◌, ◌+◌, ℕ, Bool, List, ◌++◌, length, drop, All}
use Rattle.std.specs.List.{flat_map}
use Rattle.std.specs.declared.option.Option.{Option}
use Rattle.std.specs.declared.result.Result.{Result}
use Rattle.std.specs.declared.result.Result.TheVariants.{Ok, Err}
use Rattle.std.specs.Io.KnownBytes.{Appends, Consumes, IsAtEnd}
use Rattle.arrow_file.specs.declared.refusal.FileRefusal.{FileRefusal}
use Rattle.arrow_file.specs.declared.refusal.FileRefusal.TheVariants.{Memory}
use Rattle.arrow_file.specs.Views.{FileIn}
use Rattle.otap_capture.specs.Limits.{longest_frame}
use Rattle.otap_capture.specs.Outside.{AppendsFront, Rose}
use Rattle.otap_cells.specs.declared.payload.Kind.{Kind}
use Rattle.otap_gateway.specs.declared.runs.stop.Stop.{Stop}
use Rattle.otap_gateway.specs.declared.runs.stop.Stop.TheVariants as stop
use Rattle.otap_gateway.specs.Reply.{ReplyText}
use Rattle.otap_gateway.specs.Runs.{Sinks}
use Rattle.otap_gateway.specs.Unfiling.{Unfiles, UnfilesNothing, frames_from, records_of}

-- ---- reading

-- a read gave some bytes; where none, the source is at its end
pub record ReadsPiece (old new : List ℕ) (left left' : Option (List ℕ)) (most count : ℕ) : Type 0 where
  pub piece : List ℕ
  pub grown : new ≡ old ++ piece
  pub taken : Consumes left left' piece
  pub counted : count ≡ length piece
  pub few : length piece ≤ most
  pub last : count ≡ 0 → IsAtEnd left'

abbrev pub ReadsIn : List ℕ → List ℕ → Option (List ℕ) → Option (List ℕ) → ℕ → Result ℕ Stop → Type 0
ReadsIn old new left left' most (Ok count) = ReadsPiece old new left left' most count
ReadsIn old new left left' most (Err stop) = Unit {0}

-- the count of faults of the source, where nothing else is called
abbrev pub CountsSource : {T : Type 0} → ℕ → ℕ → Result T Stop → Type 0
CountsSource old new (Ok x) = new ≡ old
CountsSource old new (Err stop.Source) = Rose old new
CountsSource old new (Err stop.Sink) = ⊥
CountsSource old new (Err stop.Memory) = new ≡ old

-- ---- writing

-- where nothing else is called: a text is written, or a front of it; and the count of faults
abbrev pub WritesIn : Option (List ℕ) → Option (List ℕ) → List ℕ → Result (Unit {0}) Stop → Type 0
WritesIn written written' text (Ok x) = Appends written written' text
WritesIn written written' text (Err stop) = AppendsFront written written' text

abbrev pub CountsSink : {T : Type 0} → ℕ → ℕ → Result T Stop → Type 0
CountsSink old new (Ok x) = new ≡ old
CountsSink old new (Err stop.Source) = ⊥
CountsSink old new (Err stop.Sink) = Rose old new
CountsSink old new (Err stop.Memory) = new ≡ old

-- the record of the first payload
abbrev pub first_record : FileIn → List ℕ → List ℕ
first_record file rows = file.schema ++ (flat_map (λ d. d) file.dictionaries ++ rows)

-- the frames of a file, and those from a record batch on
abbrev pub file_text : Kind → FileIn → List ℕ
file_text kind file = frames_from kind 0 (records_of file.schema file.dictionaries file.batches)

abbrev pub later_text : Kind → ℕ → FileIn → List ℕ
later_text kind place file = frames_from kind place (drop place file.batches)

-- each record fits a frame with what a message has beside it, also after the schema and all dictionaries
abbrev pub FitsFrames : FileIn → Type 0
FitsFrames file = All (λ rows. length (first_record file rows) + 24 ≤ longest_frame) file.batches

-- what a refusal names is wrong with the bytes: memory didn't run out
abbrev pub IsOfFile : FileRefusal → Type 0
IsOfFile (Memory e) = ⊥
IsOfFile refusal = Unit {0}

-- the reply to the bytes of a file is written
pub record RepliesWhole (kind : Kind) (bytes : List ℕ) (old new : Sinks) (refused : Bool) : Type 0 where
  pub reply : ReplyText
  pub gives : Unfiles kind bytes reply
  pub out : Appends old.out.written new.out.written reply.out
  pub err : Appends old.err.written new.err.written reply.err
  pub same : refused ≡ reply.refused

-- or fronts of it
pub record RepliesPart (kind : Kind) (bytes : List ℕ) (old new : Sinks) : Type 0 where
  pub reply : ReplyText
  pub gives : Unfiles kind bytes reply
  pub out : AppendsFront old.out.written new.out.written reply.out
  pub err : AppendsFront old.err.written new.err.written reply.err

abbrev pub Replies : Kind → List ℕ → Sinks → Sinks → Result Bool Stop → Type 0
Replies kind bytes old new (Ok refused) = RepliesWhole kind bytes old new refused
Replies kind bytes old new (Err stop.Source) = ⊥
Replies kind bytes old new (Err stop.Sink) = RepliesPart kind bytes old new
Replies kind bytes old new (Err stop.Memory) = UnfilesNothing old new ⊎ RepliesPart kind bytes old new
