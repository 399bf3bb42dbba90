-- The messages that follow one another in bytes.
use Rattle.std.specs.Prelude.{◌≡◌, ℕ, zero, suc, ◌+◌, Bool, true, false, List, [], ◌∷◌, length, drop, if◌then◌else◌, Result, Ok, Err, Option, Some, None, MatchResult, MatchOption}
use Rattle.arrow_ipc.specs.declared.fault.IpcFault.{IpcFault}
use Rattle.arrow_ipc.specs.declared.fault.IpcFault.TheVariants.{Memory}
use Rattle.arrow_ipc.specs.declared.messages.IpcMessage.{IpcMessage}
use Rattle.arrow_ipc.specs.declared.messages.IpcMessage.TheVariants as content
use Rattle.arrow_ipc.specs.declared.header.Header.{Header}
use Rattle.arrow_ipc.specs.declared.header.Header.TheVariants as header
use Rattle.arrow_ipc.specs.declared.header.FoundHeader.{FoundHeader}
use Rattle.arrow_ipc.specs.Batches.{BatchIn}
use Rattle.arrow_ipc.specs.Messages.{IsMessage}
use Rattle.arrow_ipc.specs.Order as order

-- the bytes begin with no message
abbrev pub HasNoMessage : List ℕ → Type 0
HasNoMessage bytes = (message : IpcMessage) (size : ℕ) → IsMessage bytes message size → ⊥

-- The front of the bytes: all the messages that follow one another from their start on, and the bytes that are left.
abbrev pub Front : List ℕ → List IpcMessage → List ℕ → Type 0
Front bytes [] left = (left ≡ bytes) × HasNoMessage bytes
Front bytes (message ∷ messages) left = (size : ℕ) × IsMessage bytes message size × Front (drop size bytes) messages left

-- what is read of the bytes: the first message and those after it, or none
abbrev pub FrontRead : Type 0
FrontRead = List IpcMessage × List ℕ

abbrev pub with_first : IpcMessage → FrontRead → FrontRead
with_first message front = (message ∷ front.0, front.1)

abbrev pub read_further : (List ℕ → FrontRead) → List ℕ → Result (IpcMessage × ℕ) IpcFault → FrontRead
read_further further bytes (Ok (message, size)) = with_first message (further (drop size bytes))
read_further further bytes (Err fault) = ([], bytes)

-- the first messages of the bytes, at most `most` of them, and the bytes that are left after them
unfoldable pub read_front : ℕ → List ℕ → FrontRead
read_front zero bytes = ([], bytes)
read_front (suc most) bytes = read_further (read_front most) bytes (order.message bytes)

-- The messages in front of the bytes, and the bytes that are left after them. Each message takes at least one byte.
unfoldable pub front_of : List ℕ → List IpcMessage
front_of bytes = (read_front (length bytes) bytes).0

unfoldable pub left_of : List ℕ → List ℕ
left_of bytes = (read_front (length bytes) bytes).1

-- ---- reading them one by one

-- where a reading of messages is in the bytes, and whether it ended at a fault
pub record MessagesIn : Type 0 where
  pub bytes : List ℕ
  pub place : ℕ
  pub ended : Bool

-- the bytes that it still reads
abbrev pub rest_of : MessagesIn → List ℕ
rest_of m = if m.ended then [] else drop m.place m.bytes

-- it returned the message at its offset, and moved past it
pub record Advances (old new : MessagesIn) (message : IpcMessage) : Type 0 where
  pub goes_on : old.ended ≡ false
  pub size : ℕ
  pub is : IsMessage (drop old.place old.bytes) message size
  pub moved : new ≡ record { bytes = old.bytes; place = old.place + size; ended = false }

-- it stays where it was, and reads no further
abbrev pub ReadsNoFurther : MessagesIn → MessagesIn → Type 0
ReadsNoFurther old new = new ≡ record { bytes = old.bytes; place = old.place; ended = true }

-- the bytes begin with no message, unless memory ran out
abbrev pub EndsFront : List ℕ → IpcFault → Type 0
EndsFront bytes (Memory e) = Unit {0}
EndsFront bytes fault = (front_of bytes ≡ []) × (left_of bytes ≡ bytes)

-- one call takes the first message off the front, or comes to what ends it
abbrev pub TakesFirst : MessagesIn → Option (Result IpcMessage IpcFault) → MessagesIn → Type 0
TakesFirst old result new = MatchOption result
    ((front_of (rest_of old) ≡ []) × (left_of (rest_of old) ≡ []))
    (λ r. MatchResult r
    (λ message. (front_of (rest_of old) ≡ message ∷ front_of (rest_of new)) × (left_of (rest_of old) ≡ left_of (rest_of new)))
    (EndsFront (rest_of old)))

-- ---- finding a record batch again

abbrev pub rows_held : Header → Option BatchIn
rows_held (header.Rows batch) = Some batch
rows_held _ = None

abbrev pub rows_found : Result FoundHeader IpcFault → Option BatchIn
rows_found (Ok found) = rows_held found.header
rows_found (Err fault) = None

-- the batch of the record batch message that the bytes begin with
unfoldable pub record_batch_in : List ℕ → Option BatchIn
record_batch_in bytes = rows_found (order.find bytes)

-- the bytes begin with a record batch message
abbrev pub HasRows : List ℕ → BatchIn → Type 0
HasRows bytes batch = (size : ℕ) × IsMessage bytes (content.Rows batch) size
