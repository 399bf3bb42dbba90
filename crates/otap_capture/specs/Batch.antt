-- What a batch message says (BatchArrowRecords of the OpenTelemetry Arrow Protocol).
use Rattle.std.specs.Prelude.{◌≡◌, ℕ, List, [], ◌∷◌, map, ℤ, pos, IsUtf8, FitsSigned}
use Rattle.std.specs.List.{AllByRecursion}
use Rattle.std.specs.Int.{w32, w64}
use Rattle.lists.specs.Payloads.{PayloadIn}
use Rattle.otlp_wire.specs.Fields.{fields_of}
use Rattle.otlp_messages.specs.declared.messages.Message.TheVariants.{BatchArrowRecords}
use Rattle.otlp_messages.specs.declared.messages.Defect.{Defect}
use Rattle.otlp_messages.specs.declared.messages.Defect.TheVariants as defects
use Rattle.otlp_messages.specs.Defects.{Stands, IsFine}
use Rattle.otlp_messages.specs.Rows.{only, said, int32_in, int64_in, bytes_in, parts_of}
use Rattle.otlp_messages.specs.Canon.{Filled, row, signed_row, bytes_row, many_row, canon}
use Rattle.otap_capture.specs.declared.batch.BatchRefusal.{BatchRefusal}
use Rattle.otap_capture.specs.declared.batch.BatchRefusal.TheVariants.{BadMessage, Repeated, BadUtf8}
use Rattle.otap_capture.specs.declared.batch.Payload.{Payload}

-- a batch, without where its bytes lie in memory
pub record BatchContent : Type 0 where
  pub id : ℤ
  pub payloads : List PayloadIn

abbrev pub content_of : Payload → PayloadIn
content_of p = record { schema_id = p.schema_id.now; kind = p.kind; bytes = p.bytes.now }

-- what the fields of a payload say: schema_id, type and record
abbrev pub payload_in : List ℕ → PayloadIn
payload_in part = record {
  schema_id = said 1 bytes_in [] part;
  kind = said 2 int32_in (pos 0) part;
  bytes = said 3 bytes_in [] part;
}

-- the payloads, in order
abbrev pub payloads_in : List ℕ → List PayloadIn
payloads_in bytes = map payload_in (parts_of (only 2 (fields_of bytes)))

-- what the fields of a batch say: batch_id and arrow_payloads
abbrev pub batch_content : List ℕ → BatchContent
batch_content bytes = record { id = said 1 int64_in (pos 0) bytes; payloads = payloads_in bytes }

-- the bytes are a batch message, which says this; no value is in it, so it has no levels of members
abbrev pub ReadsBatch : List ℕ → BatchContent → Type 0
ReadsBatch bytes batch = IsFine BatchArrowRecords 0 bytes × (batch ≡ batch_content bytes)

-- the defect that a refusal names
abbrev pub defect_of : BatchRefusal → Defect
defect_of BadMessage = defects.BadMessage
defect_of Repeated = defects.Repeated
defect_of BadUtf8 = defects.BadUtf8

-- a defect is in the bytes, read as a batch message
abbrev pub RefusesBatch : List ℕ → BatchRefusal → Type 0
RefusesBatch bytes refusal = Stands BatchArrowRecords 0 bytes (defect_of refusal)

-- the canonical spellings of a payload and of a batch
abbrev pub payload_rows : PayloadIn → List Filled
payload_rows p = row 1 (bytes_row p.schema_id) ∷ row 2 (signed_row p.kind) ∷ row 3 (bytes_row p.bytes) ∷ []

unfoldable pub canon_payload : PayloadIn → List ℕ
canon_payload p = canon (payload_rows p)

abbrev pub batch_rows : BatchContent → List Filled
batch_rows b = row 1 (signed_row b.id) ∷ row 2 (many_row (map canon_payload b.payloads)) ∷ []

unfoldable pub canon_batch : BatchContent → List ℕ
canon_batch b = canon (batch_rows b)

-- what a program holds: numbers fit their types, and a schema id is UTF-8
pub record IsRealPayload (p : PayloadIn) : Type 0 where
  pub schema_id : IsUtf8 p.schema_id
  pub kind : FitsSigned w32 p.kind

pub record IsRealBatch (b : BatchContent) : Type 0 where
  pub id : FitsSigned w64 b.id
  pub payloads : AllByRecursion IsRealPayload b.payloads
