-- What a reading of messages that begins says of its bytes.
use Rattle.std.proofs.Common.{◌≡◌, ℕ, List, [], false, IfOk, Result, Ok, subst}
use Rattle.arrow_ipc.specs.declared.fault.IpcFault.{IpcFault}
use Rattle.arrow_ipc.specs.declared.messages.IpcMessage.{IpcMessage}
use Rattle.arrow_ipc.specs.Fronts.{MessagesIn, Advances, rest_of}
use Rattle.arrow_ipc.proofs.Unique.{alone, stands_some}
use Rattle.otap_gateway.specs.Openings.{BeginsWell}

abbrev begun : List ℕ → MessagesIn
begun bytes = record { bytes = bytes; place = 0; ended = false }

pub empty_well : (bytes : List ℕ) (first : MessagesIn) → first ≡ begun bytes → rest_of first ≡ [] → BeginsWell bytes
empty_well bytes first new empty fault stands = stands_some bytes fault stands (subst (λ (m : MessagesIn). rest_of m ≡ []) new empty)

read_well : (bytes : List ℕ) (after : MessagesIn) (message : IpcMessage) → Advances (begun bytes) after message → BeginsWell bytes
read_well bytes after message read fault stands = alone bytes message read.size fault read.is stands

pub message_well : (bytes : List ℕ) (first after : MessagesIn) (r : Result IpcMessage IpcFault) (message : IpcMessage) → first ≡ begun bytes → r ≡ Ok message
    → IfOk r (Advances first after) → BeginsWell bytes
message_well bytes first after r message new is read =
    read_well bytes after message (subst (λ (m : MessagesIn). Advances m after message) new (subst (λ (a : Result IpcMessage IpcFault). IfOk a (Advances first after)) is read))
