-- The blocks of a footer: where the messages of a file are (Arrow columnar format, "IPC File Format"; File.fbs, `Block`).
use Rattle.std.specs.Prelude.{ℕ, List, [], drop, map, Result, Ok, Option, Some, None, unwrap_or}
use Rattle.std.specs.List.{range_with_len}
use Rattle.std.specs.Int.{w32, w64, cast_signed}
use Rattle.byteorder.specs.Endian.{little_number}
use Rattle.lists.specs.Results.{◌>>=◌}
use Rattle.flat_tables.specs.declared.fault.FlatFault.{FlatFault}
use Rattle.flat_tables.specs.Tables.{TableIn, VectorIn, vector_slot, element_part}
use Rattle.arrow_file.specs.declared.block.Block.{Block}

-- struct Block: the offset of the message (i64), the size of its metadata with the continuation marker and the size before them (i32), four
-- bytes that align what follows, and the size of its body (i64)
abbrev pub block_in : List ℕ → Block
block_in part = record {
  offset = cast_signed w64 (little_number 8 part);
  metadata_size = cast_signed w32 (little_number 4 (drop 8 part));
  body_size = cast_signed w64 (little_number 8 (drop 16 part));
}

-- the block at an index of a vector
abbrev pub block_at : VectorIn → ℕ → Block
block_at v i = block_in (unwrap_or (element_part v i) [])

-- the blocks of a vector
abbrev pub blocks_in : VectorIn → List Block
blocks_in v = map (block_at v) (range_with_len 0 v.count)

-- a vector that is absent has none
abbrev pub blocks_of : Option VectorIn → List Block
blocks_of None = []
blocks_of (Some v) = blocks_in v

-- the blocks in a slot of the footer's table
abbrev pub blocks_slot : TableIn → ℕ → Result (List Block) FlatFault
blocks_slot table slot = vector_slot 24 table slot >>= λ v. Ok (blocks_of v)
