-- The buffers of messages are bytes where the messages are in bytes.
use Rattle.std.proofs.Common.{◌≡◌, ◌+◌, ℕ, List, [], ◌∷◌, take, drop, length, Ok, IfOk, sym, subst}
use Rattle.std.specs.Prelude.{nat_lt, Result}
use Rattle.std.specs.List.{AllByRecursion}
use Rattle.lists.proofs.Every.{every_made}
use Rattle.lists.proofs.AllBytes.{IsBytes, IsBytes-drop, IsBytes-take}
use Rattle.flat_tables.specs.declared.fault.FlatFault.{FlatFault}
use Rattle.flat_tables.specs.declared.fault.FlatFault.TheVariants.{OutOfRange}
use Rattle.flat_tables.specs.Bytes.{part_at}
use Rattle.flat_tables.specs.Tables.{TableIn}
use Rattle.arrow_ipc.specs.declared.messages.IpcMessage.{IpcMessage}
use Rattle.arrow_ipc.specs.declared.messages.IpcMessage.TheVariants.{Schema, Dictionary, Rows}
use Rattle.arrow_ipc.specs.Batches.{BatchIn, IsBatch, buffer_of}
use Rattle.arrow_ipc.specs.Fronts.{Front, front_of, left_of}
use Rattle.arrow_ipc.specs.Messages.{IsContent}
use Rattle.arrow_ipc.proofs.Fronting.{front_of-is}
use Rattle.otap_consume.proofs.ByteLists.{ok_or}

abbrev pub BatchBytes : BatchIn → Type 0
BatchBytes batch = AllByRecursion IsBytes batch.buffers

abbrev pub MessageBytes : IpcMessage → Type 0
MessageBytes (Schema fields) = Unit {0}
MessageBytes (Dictionary id delta batch) = BatchBytes batch
MessageBytes (Rows batch) = BatchBytes batch

part_bytes : (bytes : List ℕ) (place n : ℕ) → IsBytes bytes → IfOk (part_at bytes place n) IsBytes
unfolding part_at
part_bytes bytes place n fits = ok_or IsBytes (nat_lt (length bytes) (place + n)) OutOfRange (Ok (take n (drop place bytes))) (IsBytes-take n (drop place bytes) (IsBytes-drop place bytes fits))

body_bytes : (bytes : List ℕ) (place n : ℕ) (body : List ℕ) → part_at bytes place n ≡ Ok body → IsBytes bytes → IsBytes body
body_bytes bytes place n body is fits = subst (λ (r : Result (List ℕ) FlatFault). IfOk r IsBytes) is (part_bytes bytes place n fits)

batch_bytes : (table : TableIn) (body : List ℕ) (batch : BatchIn) → IsBatch table body batch → IsBytes body → BatchBytes batch
batch_bytes table body batch is fits =
    subst (AllByRecursion IsBytes) (sym is.buffers) (every_made IsBytes (buffer_of body) is.places (λ place. IsBytes-take _ _ (IsBytes-drop _ body fits)))

content_bytes : (m : IpcMessage) (header : TableIn) (body : List ℕ) → IsContent header body m → IsBytes body → MessageBytes m
content_bytes (Schema fields) header body is fits = tt
content_bytes (Dictionary id delta batch) header body is fits = batch_bytes is.table body batch is.is_batch fits
content_bytes (Rows batch) header body is fits = batch_bytes header body batch is fits

all_messages : (bytes : List ℕ) (messages : List IpcMessage) (left : List ℕ) → Front bytes messages left → IsBytes bytes → AllByRecursion MessageBytes messages
all_messages bytes [] left front fits = tt
all_messages bytes (m ∷ messages) left (size, is, rest) fits =
    (content_bytes m is.header is.body is.content (body_bytes bytes _ _ is.body is.has_body fits), all_messages (drop size bytes) messages left rest (IsBytes-drop size bytes fits))

pub front_bytes : (bytes : List ℕ) → IsBytes bytes → AllByRecursion MessageBytes (front_of bytes)
front_bytes bytes fits = all_messages bytes (front_of bytes) (left_of bytes) (front_of-is bytes) fits
