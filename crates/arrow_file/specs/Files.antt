-- Arrow files (Arrow columnar format, "IPC File Format"; File.fbs): what is looked at of one.
use Rattle.std.specs.Prelude.{◌≡◌, ℕ, ◌+◌, ◌≤◌, ◌<◌, ◌^◌, ⊤, List, [], ◌∷◌, ◌++◌, length, take, drop, codes, Ok, ℤ, pos}
use Rattle.byteorder.specs.Endian.{little_bytes}
use Rattle.flat_tables.specs.Tables.{TableIn, root_at}
use Rattle.arrow_ipc.specs.declared.messages.IpcMessage.{IpcMessage}
use Rattle.arrow_ipc.specs.Messages.{IsMessage, kind_number}
use Rattle.arrow_file.specs.declared.block.Block.{Block}
use Rattle.arrow_file.specs.Blocks.{blocks_slot}

abbrev pub magic : List ℕ
magic = codes "ARROW1"

-- what a file begins with: the magic and two zero bytes
abbrev pub head : List ℕ
head = magic ++ (0 ∷ 0 ∷ [])

-- The bytes are framed as a file: what it begins with, what it holds, the footer, the footer's size as an i32, and the magic.
pub record IsFramedFile (bytes footer : List ℕ) : Type 0 where
  pub content : List ℕ
  pub whole : bytes ≡ head ++ (content ++ (footer ++ (little_bytes 4 (length footer) ++ magic)))
  pub small : length footer < 2 ^ 31

-- table Footer: the blocks of the dictionary batches (slot 2) and of the record batches (slot 3)
pub record HasFooter (bytes : List ℕ) (dictionaries batches : List Block) : Type 0 where
  pub footer : List ℕ
  pub framed : IsFramedFile bytes footer
  pub table : TableIn
  pub root : root_at footer ≡ Ok table
  pub dictionary_blocks : blocks_slot table 2 ≡ Ok dictionaries
  pub batch_blocks : blocks_slot table 3 ≡ Ok batches

-- A message of this kind (1 Schema, 2 DictionaryBatch, 3 RecordBatch) is at an offset, and these are its bytes. It is read in all the
-- bytes from the offset on.
pub record IsMessageAt (bytes : List ℕ) (kind offset : ℕ) (message : List ℕ) : Type 0 where
  pub reads : IpcMessage
  pub size : ℕ
  pub is : IsMessage (drop offset bytes) reads size
  pub kind_is : kind_number reads ≡ kind
  pub same : message ≡ take size (drop offset bytes)

-- the same at an offset that a block names, which isn't before `from`
pub record IsMessageFrom (bytes : List ℕ) (kind from : ℕ) (named : ℤ) (message : List ℕ) : Type 0 where
  pub offset : ℕ
  pub named_is : named ≡ pos offset
  pub after : from ≤ offset
  pub is : IsMessageAt bytes kind offset message

-- the messages of blocks, each of this kind; the first begins at `from` or after it, each later one at the end of the one before it or
-- after it
abbrev pub AreMessagesOf : List ℕ → ℕ → ℕ → List Block → List (List ℕ) → Type 0
AreMessagesOf bytes kind from [] [] = ⊤
AreMessagesOf bytes kind from [] (message ∷ messages) = ⊥
AreMessagesOf bytes kind from (block ∷ blocks) [] = ⊥
AreMessagesOf bytes kind from (block ∷ blocks) (message ∷ messages) =
    (first : IsMessageFrom bytes kind from block.offset message) × AreMessagesOf bytes kind (first.offset + length message) blocks messages

-- THE FILE: its footer, the Schema message after what it begins with, and the messages of the footer's blocks, none of which begins
-- before the end of the Schema message
pub record File (bytes schema : List ℕ) (dictionaries batches : List (List ℕ)) : Type 0 where
  pub dictionary_blocks : List Block
  pub batch_blocks : List Block
  pub footer : HasFooter bytes dictionary_blocks batch_blocks
  pub schema_at : IsMessageAt bytes 1 8 schema
  pub dictionaries_at : AreMessagesOf bytes 2 (8 + length schema) dictionary_blocks dictionaries
  pub batches_at : AreMessagesOf bytes 3 (8 + length schema) batch_blocks batches
