-- What is at the start of records: used in private contracts.
use Rattle.std.specs.Prelude.{◌≡◌, ℕ, ℤ, List, Some}
use Rattle.lists.specs.Payloads.{PayloadIn}
use Rattle.arrow_ipc.specs.Faults.{Stands}
use Rattle.otap_gateway.specs.declared.jobs.schema.RecordRefusal.{RecordRefusal}
use Rattle.otap_gateway.specs.declared.jobs.schema.RecordRefusal.TheVariants.{Ipc, Memory}
use Rattle.otap_gateway.specs.Openings.{fault_name}
use Rattle.otap_gateway.specs.Refused.{refused_batch}
use Rattle.otap_gateway.specs.Reply.{ReplyText}
use Rattle.otap_gateway.specs.Schemas.{HasRecordFault}

-- the refusal of one payload, and of one among several; memory may run out at any time
abbrev pub RefusesPayload : PayloadIn → RecordRefusal → Type 0
RefusesPayload payload (Ipc kind fault) = (payload.kind ≡ kind) × Stands payload.bytes fault
RefusesPayload payload (Memory e) = Unit {0}

abbrev pub RefusesRecords : List PayloadIn → RecordRefusal → Type 0
RefusesRecords payloads (Ipc kind fault) = HasRecordFault payloads kind fault
RefusesRecords payloads (Memory e) = Unit {0}

-- the reply to a refusal
abbrev pub RepliesTo : RecordRefusal → ℕ → ℤ → ReplyText → Type 0
RepliesTo (Ipc kind fault) number id reply = reply ≡ refused_batch number id 3 (fault_name fault) (Some kind)
RepliesTo (Memory e) number id reply = ⊥
