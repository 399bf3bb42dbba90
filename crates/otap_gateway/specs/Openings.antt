-- What the record of a payload begins with.
use Rattle.std.specs.Prelude.{ℕ, List, [], ◌∷◌, codes, Option, None, Some}
use Rattle.flat_tables.specs.declared.fault.FlatFault.{FlatFault}
use Rattle.flat_tables.specs.declared.fault.FlatFault.TheVariants.{OutOfRange, BadVtable}
use Rattle.arrow_schema.specs.declared.refusal.SchemaRefusal.{SchemaRefusal}
use Rattle.arrow_schema.specs.declared.refusal.SchemaRefusal.TheVariants as refusal
use Rattle.arrow_schema.specs.declared.spec.SchemaSpec.{SchemaSpec}
use Rattle.arrow_ipc.specs.declared.fault.IpcFault.{IpcFault}
use Rattle.arrow_ipc.specs.declared.fault.IpcFault.TheVariants as fault
use Rattle.arrow_ipc.specs.declared.messages.IpcMessage.{IpcMessage}
use Rattle.arrow_ipc.specs.declared.messages.IpcMessage.TheVariants.{Schema, Dictionary, Rows}
use Rattle.arrow_ipc.specs.Faults.{Stands}
use Rattle.arrow_ipc.specs.Fronts.{front_of}

-- the schema of a message, where it is a Schema message
abbrev pub schema_if : IpcMessage → Option SchemaSpec
schema_if (Schema fields) = Some fields
schema_if (Dictionary id delta batch) = None
schema_if (Rows batch) = None

-- the schema of the first message, where that is a Schema message
abbrev pub first_schema : List IpcMessage → Option SchemaSpec
first_schema [] = None
first_schema (message ∷ messages) = schema_if message

-- the schema that a record begins with
abbrev pub opening_of : List ℕ → Option SchemaSpec
opening_of bytes = first_schema (front_of bytes)

-- there is no fault at the start of a record: it is empty, or begins with a message
abbrev pub BeginsWell : List ℕ → Type 0
BeginsWell bytes = (fault : IpcFault) → Stands bytes fault → ⊥

-- the printed names of faults. Out of memory is never printed
abbrev pub flat_name : FlatFault → List ℕ
flat_name OutOfRange = codes "Ipc.Flat.OutOfRange"
flat_name BadVtable = codes "Ipc.Flat.BadVtable"

abbrev pub refusal_name : SchemaRefusal → List ℕ
refusal_name (refusal.Flat OutOfRange) = codes "Ipc.Schema.Flat.OutOfRange"
refusal_name (refusal.Flat BadVtable) = codes "Ipc.Schema.Flat.BadVtable"
refusal_name refusal.Unsupported = codes "Ipc.Schema.Unsupported"
refusal_name refusal.TooManyFields = codes "Ipc.Schema.TooManyFields"
refusal_name refusal.TooDeep = codes "Ipc.Schema.TooDeep"
refusal_name refusal.BadName = codes "Ipc.Schema.BadName"
refusal_name refusal.DictionaryTypes = codes "Ipc.Schema.DictionaryTypes"
refusal_name (refusal.Memory e) = []

abbrev pub fault_name : IpcFault → List ℕ
fault_name fault.Cut = codes "Ipc.Cut"
fault_name (fault.Flat e) = flat_name e
fault_name fault.BadVersion = codes "Ipc.BadVersion"
fault_name fault.Compressed = codes "Ipc.Compressed"
fault_name fault.BadBody = codes "Ipc.BadBody"
fault_name fault.Unsupported = codes "Ipc.Unsupported"
fault_name (fault.Schema e) = refusal_name e
fault_name (fault.Memory e) = []
