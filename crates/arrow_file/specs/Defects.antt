-- Why bytes aren't taken as a file, in the order of the refusals: each holds only where none before it does.
use Rattle.std.specs.Prelude.{◌≡◌, ◌⊎◌, ℕ, ◌+◌, ◌-◌, ◌<◌, ◌≤◌, List, length, take, drop, Ok, Err, ℤ, pos}
use Rattle.std.specs.Int.{w32, cast_signed}
use Rattle.byteorder.specs.Endian.{little_number}
use Rattle.flat_tables.specs.declared.fault.FlatFault.{FlatFault}
use Rattle.flat_tables.specs.declared.fault.FlatFault.TheVariants.{OutOfRange}
use Rattle.flat_tables.specs.Tables.{TableIn, root_at}
use Rattle.arrow_file.specs.declared.block.Block.{Block}
use Rattle.arrow_file.specs.declared.refusal.FileRefusal.{FileRefusal}
use Rattle.arrow_file.specs.declared.refusal.FileRefusal.TheVariants.{TooLong, BadMagic, BadFooter, BadSchema, BadBlock, Memory}
use Rattle.arrow_file.specs.Limits.{max_file}
use Rattle.arrow_file.specs.Blocks.{blocks_slot}
use Rattle.arrow_file.specs.Files.{magic, head, IsFramedFile, HasFooter, IsMessageAt, AreMessagesOf}

-- the bytes begin and end as a file, and have room for the footer's size
pub record HasMagics (bytes : List ℕ) : Type 0 where
  pub long : 18 ≤ length bytes
  pub first : take 8 bytes ≡ head
  pub last : drop (length bytes - 6) bytes ≡ magic

-- the footer's size, an i32 before the last magic
abbrev pub footer_size : List ℕ → ℤ
footer_size bytes = cast_signed w32 (little_number 4 (drop (length bytes - 10) bytes))

-- no message of the kind is at the offset; or blocks have no such messages one after the other
abbrev pub HasNoMessageAt : List ℕ → ℕ → ℕ → Type 0
HasNoMessageAt bytes kind offset = (message : List ℕ) → IsMessageAt bytes kind offset message → ⊥

abbrev pub HaveNoMessages : List ℕ → ℕ → ℕ → List Block → Type 0
HaveNoMessages bytes kind from blocks = (messages : List (List ℕ)) → AreMessagesOf bytes kind from blocks messages → ⊥

-- the bytes are short enough, and framed as a file with this footer
pub record IsShortFile (bytes footer : List ℕ) : Type 0 where
  pub short : length bytes ≤ max_file
  pub framed : IsFramedFile bytes footer

-- What is wrong with the bytes of a file
pub data HasFileDefect (bytes : List ℕ) : FileRefusal → Type 0 where
  too_long : max_file < length bytes → HasFileDefect bytes TooLong
  -- they are too few, or don't begin and end as a file
  bad_magic : length bytes ≤ max_file → (HasMagics bytes → ⊥) → HasFileDefect bytes BadMagic
  -- the footer's size is below zero, or larger than what is left
  bad_size : length bytes ≤ max_file → HasMagics bytes → ((n : ℕ) → footer_size bytes ≡ pos n → length bytes < 18 + n) → HasFileDefect bytes (BadFooter OutOfRange)
  -- the footer's root table can't be read, or one of its two vectors
  bad_root : (footer : List ℕ) (e : FlatFault) → IsShortFile bytes footer → root_at footer ≡ Err e → HasFileDefect bytes (BadFooter e)
  bad_blocks : (footer : List ℕ) (table : TableIn) (e : FlatFault) → IsShortFile bytes footer → root_at footer ≡ Ok table
      → (blocks_slot table 2 ≡ Err e) ⊎ (blocks_slot table 3 ≡ Err e) → HasFileDefect bytes (BadFooter e)
  -- no Schema message is at offset 8
  bad_schema : (dictionaries batches : List Block) → length bytes ≤ max_file → HasFooter bytes dictionaries batches
      → HasNoMessageAt bytes 1 8 → HasFileDefect bytes BadSchema
  -- one of the two vectors has a block with no message of its kind, or with one that begins too early
  bad_block : (schema : List ℕ) (dictionaries batches : List Block) → length bytes ≤ max_file → HasFooter bytes dictionaries batches
      → IsMessageAt bytes 1 8 schema
      → HaveNoMessages bytes 2 (8 + length schema) dictionaries ⊎ HaveNoMessages bytes 3 (8 + length schema) batches
      → HasFileDefect bytes BadBlock

-- what a call returns instead of a file: a defect of it, or that memory ran out
abbrev pub Refuses : List ℕ → FileRefusal → Type 0
Refuses bytes (Memory e) = Unit {0}
Refuses bytes refusal = HasFileDefect bytes refusal
