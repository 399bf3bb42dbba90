-- What private calls find in a file.
use Rattle.std.specs.Prelude.{◌≡◌, ℕ, ◌+◌, List, length, Result, Ok, Option, None, Some, ℤ}
use Rattle.lists.specs.Results.{◌>>=◌}
use Rattle.flat_tables.specs.declared.fault.FlatFault.{FlatFault}
use Rattle.flat_tables.specs.Tables.{VectorIn, root_at, vector_slot}
use Rattle.arrow_ipc.specs.declared.fault.IpcFault.{IpcFault}
use Rattle.arrow_ipc.specs.declared.fault.IpcFault.TheVariants.{Memory}
use Rattle.arrow_ipc.specs.declared.messages.IpcMessage.{IpcMessage}
use Rattle.arrow_ipc.specs.Messages.{IsMessage, kind_number}
use Rattle.arrow_file.specs.declared.framing.Vectors.{Vectors}
use Rattle.arrow_file.specs.declared.message.Found.{Found}
use Rattle.arrow_file.specs.Files.{IsMessageFrom}

-- the two vectors of a footer
unfoldable pub vectors_of : List ℕ → Result Vectors FlatFault
vectors_of footer =
    root_at footer >>= λ table.
    vector_slot 24 table 2 >>= λ dictionaries.
    vector_slot 24 table 3 >>= λ batches.
    Ok (record { dictionaries = dictionaries; batches = batches })

abbrev pub HasBlocks : Option VectorIn → Type 0
HasBlocks None = Unit {0}
HasBlocks (Some v) = v.width ≡ 24

-- a message of the kind begins the bytes, and takes this number of them
pub record BeginsWith (bytes : List ℕ) (kind size : ℕ) : Type 0 where
  pub reads : IpcMessage
  pub is : IsMessage bytes reads size
  pub kind_is : kind_number reads ≡ kind

-- a fault that the bytes have: any but that memory ran out
abbrev pub IsOfBytes : IpcFault → Type 0
IsOfBytes (Memory e) = ⊥
IsOfBytes fault = Unit {0}

-- the message that a block names, and where it ends
pub record Finds (bytes : List ℕ) (kind from : ℕ) (named : ℤ) (found : Found) : Type 0 where
  pub is : IsMessageFrom bytes kind from named found.message.now
  pub end_is : found.end ≡ is.offset + length found.message.now
