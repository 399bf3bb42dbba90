-- How blocks are made and laid out, and what is appended with one: used in private contracts.
use Rattle.std.specs.Prelude.{◌≡◌, ℕ, ◌+◌, ◌-◌, ◌%◌, ◌<◌, List, ◌++◌, length, drop, slice_index_or, ℤ, pos, FitsSigned}
use Rattle.std.specs.Int.{w32, w64, cast_unsigned}
use Rattle.std.specs.List.{flat_map}
use Rattle.byteorder.specs.Endian.{little_bytes, little_number}
use Rattle.arrow_ipc.specs.Batches.{BatchIn}
use Rattle.arrow_file.specs.declared.block.Block.{Block}
use Rattle.arrow_file.specs.Written.{IsWrittenAt}

-- the block of a message at an offset, whose metadata have the size in bytes 4 to 8
pub record IsBlock (offset : ℕ) (message : List ℕ) (block : Block) : Type 0 where
  pub offset_is : block.offset ≡ pos offset
  pub metadata_is : block.metadata_size ≡ pos (8 + little_number 4 (drop 4 message))
  pub body_is : block.body_size ≡ pos (length message - (8 + little_number 4 (drop 4 message)))

-- the numbers of a block are numbers of their widths
pub record Fits (block : Block) : Type 0 where
  pub offset : FitsSigned w64 block.offset
  pub metadata : FitsSigned w32 block.metadata_size
  pub body : FitsSigned w64 block.body_size

abbrev pub no_block : Block
no_block = record { offset = pos 0; metadata_size = pos 0; body_size = pos 0 }

abbrev pub AllFit : List Block → Type 0
AllFit blocks = (k : ℕ) → k < length blocks → Fits (slice_index_or blocks k no_block)

-- struct Block as bytes
unfoldable pub number_32 : ℤ → List ℕ
number_32 z = little_bytes 4 (cast_unsigned w32 z)

unfoldable pub number_64 : ℤ → List ℕ
number_64 z = little_bytes 8 (cast_unsigned w64 z)

abbrev pub block_bytes : Block → List ℕ
block_bytes block = number_64 block.offset ++ (number_32 block.metadata_size ++ (number_32 (pos 0) ++ number_64 block.body_size))

abbrev pub blocks_bytes : List Block → List ℕ
blocks_bytes blocks = flat_map block_bytes blocks

-- a record batch message was appended, and this is its block
pub record AppendsRows (batch : BatchIn) (old new : List ℕ) (block : Block) : Type 0 where
  pub message : List ℕ
  pub whole : new ≡ old ++ message
  pub even : length message % 8 ≡ 0
  pub is : length old % 8 ≡ 0 → IsWrittenAt (length old) (record { batch = batch; message = message; block = block })
