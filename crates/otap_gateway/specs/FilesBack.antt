-- What `unfile` makes of a file that `file` wrote.
use Rattle.std.specs.Prelude.{◌≤◌, List, [], ◌∷◌, length, map, codes, ℕ}
use Rattle.lists.specs.EachAfter.{EachAfter}
use Rattle.lists.specs.Payloads.{PayloadIn}
use Rattle.arrow_ipc.specs.declared.messages.IpcMessage.TheVariants.{Schema}
use Rattle.arrow_ipc.specs.Messages.{IsMessage}
use Rattle.arrow_file.specs.Files.{File}
use Rattle.arrow_file.specs.Limits.{max_file}
use Rattle.otap_cells.specs.declared.payload.Kind.{Kind}
use Rattle.otap_cells.specs.Tables.{Table}
use Rattle.otap_columns.specs.Plain.{plain_schema}
use Rattle.otap_columns.specs.PlainPayloads.{IsReadAgain}
use Rattle.otap_consume.specs.Payloads.{payload_type_of}
use Rattle.otap_gateway.specs.Lines.{printed}
use Rattle.otap_gateway.specs.Unfiling.{Unfiles, frames_from, records_of}

-- the payloads of batches with these records
abbrev pub payload_of : Kind → List ℕ → PayloadIn
payload_of kind bytes = record { schema_id = codes "0"; kind = payload_type_of kind; bytes = bytes }

abbrev pub payloads_of : Kind → List (List ℕ) → List PayloadIn
payloads_of kind records = map (payload_of kind) records

-- THE FILE COMES BACK: its bytes are an Arrow file without dictionaries, whose schema is that of all columns of the tables; where
-- it isn't too long, `unfile` writes a batch for each table, and each payload is read, after those before it, as its table,
-- cell by cell
pub record ComesBack (t : Table) (tables : List Table) (bytes : List ℕ) : Type 0 where
  pub schema : List ℕ
  pub batches : List (List ℕ)
  pub file : File bytes schema [] batches
  pub says : IsMessage schema (Schema (plain_schema t)) (length schema)
  pub writes : length bytes ≤ max_file → Unfiles t.kind bytes (printed (frames_from t.kind 0 (records_of schema [] batches)))
  pub read : EachAfter (λ before past u p. IsReadAgain past u p) [] [] (t ∷ tables) (payloads_of t.kind (records_of schema [] batches))
