-- What a message that was read brings.
use Rattle.std.proofs.Common.{ℕ, List, drop}
use Rattle.arrow_schema.proofs.Found.{schema_found}
use Rattle.arrow_ipc.specs.declared.messages.IpcMessage.{IpcMessage}
use Rattle.arrow_ipc.specs.declared.messages.IpcMessage.TheVariants.{Schema, Dictionary, Rows}
use Rattle.arrow_ipc.specs.Messages.{IsMessage}
use Rattle.arrow_ipc.specs.Fronts.{MessagesIn, Advances}
use Rattle.arrow_ipc.proofs.Fronting.{rows_in-message}
use Rattle.otap_columns.specs.Reading.{FindsRows, HasReadableSchema}

-- a record batch is found again
pub finds_rows : (old new : MessagesIn) (m : IpcMessage) → Advances old new m → FindsRows old m
finds_rows old new (Schema fields) a = tt
finds_rows old new (Dictionary id delta batch) a = tt
finds_rows old new (Rows batch) a = rows_in-message (drop old.place old.bytes) batch (a.size, a.is)

-- a schema can be read
readable : (bytes : List ℕ) (m : IpcMessage) (size : ℕ) → IsMessage bytes m size → HasReadableSchema m
readable bytes (Schema fields) size h = (schema_found h.header fields h.content).1
readable bytes (Dictionary id delta batch) size h = tt
readable bytes (Rows batch) size h = tt

pub has_readable : (old new : MessagesIn) (m : IpcMessage) → Advances old new m → HasReadableSchema m
has_readable old new m a = readable (drop old.place old.bytes) m a.size a.is
