-- The refusal that a fault of a message is.
use Rattle.arrow_ipc.specs.declared.fault.IpcFault.{IpcFault}
use Rattle.arrow_ipc.specs.declared.fault.IpcFault.TheVariants as ipc
use Rattle.otap_columns.specs.declared.refusal.ColumnRefusal.{ColumnRefusal}
use Rattle.otap_columns.specs.declared.refusal.ColumnRefusal.TheVariants.{Ipc, Memory}

-- out of memory is a refusal of its own
abbrev pub refusal_of : IpcFault → ColumnRefusal
refusal_of (ipc.Memory e) = Memory e
refusal_of fault = Ipc fault
