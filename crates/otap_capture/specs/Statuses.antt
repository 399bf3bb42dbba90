-- What a status says (BatchStatus of the OpenTelemetry Arrow Protocol).
use Rattle.std.specs.Prelude.{◌≡◌, ℕ, List, [], ◌∷◌, ℤ, pos, IsUtf8, FitsSigned}
use Rattle.std.specs.Int.{w32, w64}
use Rattle.otlp_messages.specs.declared.messages.Message.TheVariants.{BatchStatus}
use Rattle.otlp_messages.specs.Defects.{Stands, IsFine}
use Rattle.otlp_messages.specs.Rows.{said, int32_in, int64_in, bytes_in}
use Rattle.otlp_messages.specs.Canon.{Filled, row, signed_row, bytes_row, canon}
use Rattle.otap_capture.specs.declared.batch.BatchRefusal.{BatchRefusal}
use Rattle.otap_capture.specs.declared.status.Status.{Status}
use Rattle.otap_capture.specs.Batch.{defect_of}

-- a status, without where its bytes lie in memory
pub record StatusContent : Type 0 where
  pub id : ℤ
  pub code : ℤ
  pub message : List ℕ

abbrev pub status_content : Status → StatusContent
status_content s = record { id = s.id; code = s.code; message = s.message.now }

-- what the fields of a status say: batch_id, status_code and status_message
abbrev pub status_in : List ℕ → StatusContent
status_in bytes = record {
  id = said 1 int64_in (pos 0) bytes;
  code = said 2 int32_in (pos 0) bytes;
  message = said 3 bytes_in [] bytes;
}

-- the bytes are a status, which says this; no value is in it, so it has no levels of members
abbrev pub ReadsStatus : List ℕ → StatusContent → Type 0
ReadsStatus bytes status = IsFine BatchStatus 0 bytes × (status ≡ status_in bytes)

-- a defect is in the bytes, read as a status
abbrev pub RefusesStatus : List ℕ → BatchRefusal → Type 0
RefusesStatus bytes refusal = Stands BatchStatus 0 bytes (defect_of refusal)

-- the canonical spelling of a status
abbrev pub status_rows : StatusContent → List Filled
status_rows s = row 1 (signed_row s.id) ∷ row 2 (signed_row s.code) ∷ row 3 (bytes_row s.message) ∷ []

unfoldable pub canon_status : StatusContent → List ℕ
canon_status s = canon (status_rows s)

-- what a program holds: numbers fit their types, and a message is UTF-8
pub record IsRealStatus (s : StatusContent) : Type 0 where
  pub id : FitsSigned w64 s.id
  pub code : FitsSigned w32 s.code
  pub message : IsUtf8 s.message
