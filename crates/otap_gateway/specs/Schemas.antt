-- The texts of `schema`: for each payload of a batch, the schema that its record begins with.
use Rattle.std.specs.Prelude.{◌≡◌, ◌⊎◌, ℕ, ℤ, List, [], ◌++◌, codes, Option, None, Some}
use Rattle.std.specs.List.{flat_map, AllByRecursion}
use Rattle.lists.specs.Payloads.{PayloadIn}
use Rattle.arrow_ipc.specs.declared.fault.IpcFault.{IpcFault}
use Rattle.arrow_ipc.specs.Faults.{Stands}
use Rattle.arrow_schema.specs.declared.spec.SchemaSpec.{SchemaSpec}
use Rattle.otlp_model.specs.declared.request.Signal.{Signal}
use Rattle.otap_capture.specs.Batch.{BatchContent, ReadsBatch}
use Rattle.otap_capture.specs.Capture.{Frame, Message, Packed, Reset}
use Rattle.otap_consume.specs.declared.payload_types.TypesRefusal.{TypesRefusal}
use Rattle.otap_consume.specs.declared.payload_types.TypesRefusal.TheVariants.{PayloadType, PayloadTwice}
use Rattle.otap_gateway.specs.Fields.{fields_text}
use Rattle.otap_gateway.specs.Lines.{reset_line, line_feed, head_line, payload_head, printed}
use Rattle.otap_gateway.specs.Openings.{BeginsWell, opening_of, fault_name}
use Rattle.otap_consume.specs.PayloadTypes.{HasPayload, HasFineTypes, IsDefectOfTypes}
use Rattle.otap_gateway.specs.Refused.{RefusesUnread, refused_unread, refused_batch}
use Rattle.otap_gateway.specs.Reply.{ReplyText}

-- the lines of a payload whose record begins with this schema, or with none
abbrev pub opening_text : PayloadIn → Option SchemaSpec → List ℕ
opening_text payload None = payload_head payload ++ codes " goes on" ++ line_feed
opening_text payload (Some fields) = payload_head payload ++ line_feed ++ fields_text [] fields

abbrev pub payload_lines : PayloadIn → List ℕ
payload_lines payload = opening_text payload (opening_of payload.bytes)

abbrev pub batch_lines : ℕ → BatchContent → List ℕ
batch_lines number batch = head_line number batch.id ++ flat_map payload_lines batch.payloads

-- there is a fault at the start of the record of a payload of this type
pub record HasRecordFault (payloads : List PayloadIn) (kind : ℤ) (fault : IpcFault) : Type 0 where
  pub payload : PayloadIn
  pub has : HasPayload payloads payload
  pub same : payload.kind ≡ kind
  pub stands : Stands payload.bytes fault

-- no record begins with a fault
abbrev pub BeginWell : List PayloadIn → Type 0
BeginWell payloads = AllByRecursion (λ payload. BeginsWell payload.bytes) payloads

-- ---- the replies to a batch, by its number: the stages in their order, each over all payloads

abbrev pub types_name : TypesRefusal → List ℕ
types_name (PayloadType kind) = codes "PayloadType"
types_name (PayloadTwice kind) = codes "PayloadTwice"

abbrev pub payload_type_in : TypesRefusal → ℤ
payload_type_in (PayloadType kind) = kind
payload_type_in (PayloadTwice kind) = kind

abbrev pub refused_types : ℕ → ℤ → TypesRefusal → ReplyText
refused_types number id refusal = refused_batch number id 2 (types_name refusal) (Some (payload_type_in refusal))

-- a payload type is refused
pub record RefusesTypes (signal : Signal) (number : ℕ) (batch : BatchContent) (reply : ReplyText) : Type 0 where
  pub refusal : TypesRefusal
  pub stands : IsDefectOfTypes signal batch.payloads refusal
  pub line : reply ≡ refused_types number batch.id refusal

-- a record begins with a fault
pub record RefusesFault (number : ℕ) (batch : BatchContent) (reply : ReplyText) : Type 0 where
  pub kind : ℤ
  pub fault : IpcFault
  pub stands : HasRecordFault batch.payloads kind fault
  pub line : reply ≡ refused_batch number batch.id 3 (fault_name fault) (Some kind)

-- no record begins with a fault, and the schemas are printed
pub record PrintsSchemas (number : ℕ) (batch : BatchContent) (reply : ReplyText) : Type 0 where
  pub well : BeginWell batch.payloads
  pub text : reply ≡ printed (batch_lines number batch)

abbrev pub SchemasRecords : ℕ → BatchContent → ReplyText → Type 0
SchemasRecords number batch reply = RefusesFault number batch reply ⊎ PrintsSchemas number batch reply

-- the records are looked at where all payload types are fine
abbrev pub SchemasBatch : Signal → ℕ → BatchContent → ReplyText → Type 0
SchemasBatch signal number batch reply = RefusesTypes signal number batch reply ⊎ (HasFineTypes signal batch.payloads × SchemasRecords number batch reply)

-- the reply to a message that is a batch
pub record SchemasMessage (signal : Signal) (number : ℕ) (bytes : List ℕ) (reply : ReplyText) : Type 0 where
  pub batch : BatchContent
  pub reads : ReadsBatch bytes batch
  pub replies : SchemasBatch signal number batch reply

-- what `schema` replies to a frame
abbrev pub SchemasFrame : Signal → ℕ → Frame → ReplyText → Type 0
SchemasFrame signal number (Message bytes) reply = SchemasMessage signal number bytes reply ⊎ RefusesUnread number bytes reply
SchemasFrame signal number Packed reply = reply ≡ refused_unread number (codes "Compressed")
SchemasFrame signal number Reset reply = reply ≡ printed (reset_line number)
