-- The job `unfile`: its words, and the batches of an Arrow file. It reads no capture, but the source to its end.
use Rattle.std.specs.Prelude.{◌≡◌, ◌≢◌, ◌⊎◌, ◌≤◌, ◌+◌, ℕ, suc, pos, false, if◌then◌else◌, List, [], ◌∷◌, ◌++◌, length, take, codes, Contains}
use Rattle.std.specs.Fmt.{decimal}
use Rattle.std.specs.List.{flat_map}
use Rattle.std.specs.declared.option.Option.{Option}
use Rattle.std.specs.declared.result.Result.{Result}
use Rattle.std.specs.declared.result.Result.TheVariants.{Ok, Err}
use Rattle.std.specs.Io.KnownBytes.{Appends, Consumes, IsAtEnd, Keeps}
use Rattle.flat_tables.specs.declared.fault.FlatFault.TheVariants.{OutOfRange, BadVtable}
use Rattle.arrow_file.specs.declared.refusal.FileRefusal.{FileRefusal}
use Rattle.arrow_file.specs.declared.refusal.FileRefusal.TheVariants.{TooLong, BadMagic, BadFooter, BadSchema, BadBlock, Memory}
use Rattle.arrow_file.specs.Defects.{HasFileDefect}
use Rattle.arrow_file.specs.Files.{File}
use Rattle.arrow_file.specs.Limits.{max_file}
use Rattle.otap_capture.specs.Batch.{BatchContent, canon_batch}
use Rattle.otap_capture.specs.Capture.{message_frame}
use Rattle.otap_capture.specs.Outside.{AppendsFront}
use Rattle.otap_cells.specs.declared.payload.Kind.{Kind}
use Rattle.otap_cells.specs.Payload.{kinds_of, number_of}
use Rattle.otap_consume.specs.Payloads.{payload_type_of}
use Rattle.otap_gateway.specs.declared.jobs.unfile.Unfile.{Unfile}
use Rattle.otap_gateway.specs.declared.runs.stop.Stop.{Stop}
use Rattle.otap_gateway.specs.declared.runs.stop.Stop.TheVariants as stop
use Rattle.otap_gateway.specs.declared.runs.stop.Tally.{Tally}
use Rattle.otap_gateway.specs.Commands.{signal_word}
use Rattle.otap_gateway.specs.Lines.{line_feed, printed, refuses}
use Rattle.otap_gateway.specs.Reply.{ReplyText}
use Rattle.otap_gateway.specs.Runs.{World, Sinks, CountsFaults, IsFlushed, exit_status}

-- ---- words

abbrev pub unfile_words : Unfile → List (List ℕ)
unfile_words job = codes "unfile" ∷ signal_word job.signal ∷ decimal (number_of job.kind) ∷ []

-- the payload type is one of the signal's
abbrev pub IsUnfile : Unfile → Type 0
IsUnfile job = Contains (kinds_of job.signal) job.kind

abbrev pub IsNoUnfile : List (List ℕ) → Type 0
IsNoUnfile words = (job : Unfile) → IsUnfile job → words ≢ unfile_words job

-- ---- the batches of a file

-- the records of the payloads, one for each record batch: the first has the schema and all dictionaries before its rows
abbrev pub records_of : List ℕ → List (List ℕ) → List (List ℕ) → List (List ℕ)
records_of schema dictionaries [] = []
records_of schema dictionaries (rows ∷ batches) = (schema ++ (flat_map (λ d. d) dictionaries ++ rows)) ∷ batches

-- a batch has one payload, with the schema id 0
abbrev pub batch_of : Kind → ℕ → List ℕ → BatchContent
batch_of kind id record_bytes = record { id = pos id; payloads = record { schema_id = codes "0"; kind = payload_type_of kind; bytes = record_bytes } ∷ [] }

-- the frames of batches with these records, whose ids are counted from a number on
abbrev pub frames_from : Kind → ℕ → List (List ℕ) → List ℕ
frames_from kind id [] = []
frames_from kind id (bytes ∷ records) = message_frame (canon_batch (batch_of kind id bytes)) ++ frames_from kind (suc id) records

-- why bytes are no file, as it is printed
abbrev pub refusal_name : FileRefusal → List ℕ
refusal_name TooLong = codes "TooLong"
refusal_name BadMagic = codes "BadMagic"
refusal_name (BadFooter OutOfRange) = codes "BadFooter.OutOfRange"
refusal_name (BadFooter BadVtable) = codes "BadFooter.BadVtable"
refusal_name BadSchema = codes "BadSchema"
refusal_name BadBlock = codes "BadBlock"
refusal_name (Memory e) = []

abbrev pub refused_file : FileRefusal → List ℕ
refused_file refusal = codes "file refused: " ++ refusal_name refusal ++ line_feed

-- WHAT `unfile` WRITES for the bytes of a file: its batches, or the line of the refusal
pub data Unfiles (kind : Kind) (bytes : List ℕ) : ReplyText → Type 0 where
  opens : (schema : List ℕ) (dictionaries batches : List (List ℕ)) → length bytes ≤ max_file → File bytes schema dictionaries batches
      → Unfiles kind bytes (printed (frames_from kind 0 (records_of schema dictionaries batches)))
  refused : (refusal : FileRefusal) → HasFileDefect bytes refusal → Unfiles kind bytes (refuses (refused_file refusal))

-- ---- a run

-- what is taken of the source: all that it has, or one byte more than a file has at most
pub record TakesFile (old new : Option (List ℕ)) (bytes : List ℕ) : Type 0 where
  pub taken : Consumes old new bytes
  pub few : length bytes ≤ max_file + 1
  pub enough : IsAtEnd new ⊎ (length bytes ≡ max_file + 1)

-- The run came to its end: the sinks grew by the reply, and all of it is passed on.
pub record UnfilesAll (kind : Kind) (old new : World) (tally : Tally) : Type 0 where
  pub bytes : List ℕ
  pub takes : TakesFile old.left new.left bytes
  pub reply : ReplyText
  pub gives : Unfiles kind bytes reply
  pub out : Appends old.sinks.out.written new.sinks.out.written reply.out
  pub err : Appends old.sinks.err.written new.sinks.err.written reply.err
  pub flushed : IsFlushed new.sinks
  pub refused : tally.refused ≡ reply.refused
  pub damaged : tally.damaged ≡ false

-- A sink or memory stopped it once all was read: the sinks grew by fronts of the reply.
pub record UnfilesPart (kind : Kind) (old new : World) : Type 0 where
  pub bytes : List ℕ
  pub takes : TakesFile old.left new.left bytes
  pub reply : ReplyText
  pub gives : Unfiles kind bytes reply
  pub out : AppendsFront old.sinks.out.written new.sinks.out.written reply.out
  pub err : AppendsFront old.sinks.err.written new.sinks.err.written reply.err

-- Something stopped it before that: nothing is written.
pub record UnfilesNothing (old new : Sinks) : Type 0 where
  pub out : Keeps old.out.written new.out.written
  pub err : Keeps old.err.written new.err.written

abbrev pub LeavesUnfile : Kind → World → World → Result Tally Stop → Type 0
LeavesUnfile kind old new (Ok tally) = UnfilesAll kind old new tally
LeavesUnfile kind old new (Err stop.Source) = UnfilesNothing old.sinks new.sinks
LeavesUnfile kind old new (Err stop.Sink) = UnfilesPart kind old new
LeavesUnfile kind old new (Err stop.Memory) = UnfilesNothing old.sinks new.sinks ⊎ UnfilesPart kind old new

-- A run for the words of `unfile`.
pub record RunsUnfile (job : Unfile) (old new : World) (status : ℕ) : Type 0 where
  pub returned : Result Tally Stop
  pub same : status ≡ exit_status returned
  pub leaves : LeavesUnfile job.kind old new returned
  pub faults : CountsFaults old new returned

-- A run in which nothing failed: of these bytes as many are read as are looked at, the sinks grew by the reply, all of it passed on,
-- and the status is 1 where the file is refused, and else 0.
pub record CompletesUnfile (job : Unfile) (bytes : List ℕ) (old new : Sinks) (status : ℕ) : Type 0 where
  pub reply : ReplyText
  pub gives : Unfiles job.kind (take (max_file + 1) bytes) reply
  pub out : Appends old.out.written new.out.written reply.out
  pub err : Appends old.err.written new.err.written reply.err
  pub flushed : IsFlushed new
  pub same : status ≡ (if reply.refused then 1 else 0)
