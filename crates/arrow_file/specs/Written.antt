-- What is written as a file, and what other readers look at in it (Arrow columnar format, "IPC File Format"; File.fbs).
use Rattle.std.specs.Prelude.{◌≡◌, ℕ, ◌+◌, ◌%◌, ◌<◌, ◌^◌, List, [], ◌∷◌, ◌++◌, length, map, Ok, Some, pos}
use Rattle.std.specs.Int.{w16}
use Rattle.std.specs.List.{flat_map}
use Rattle.byteorder.specs.Endian.{little_bytes}
use Rattle.lists.specs.EachAfter.{AllAfter}
use Rattle.flat_tables.specs.Tables.{TableIn, VectorIn, root_at, table_at, or_default, signed_slot, table_slot, vector_slot}
use Rattle.flat_tables.specs.Building.{IsPadded}
use Rattle.arrow_schema.specs.declared.spec.SchemaSpec.{SchemaSpec}
use Rattle.arrow_schema.specs.Says.{SaysSchema}
use Rattle.arrow_schema.specs.Readable.{IsReadable}
use Rattle.arrow_schema.specs.Writing.{WritesSchema}
use Rattle.arrow_ipc.specs.declared.messages.IpcMessage.TheVariants.{Schema, Rows}
use Rattle.arrow_ipc.specs.Batches.{BatchIn}
use Rattle.arrow_ipc.specs.Messages.{IsMessage}
use Rattle.arrow_ipc.specs.Written.{version_5, IsTableOf, RootAfterZeros, IsLaidOut, AppendsSchema}
use Rattle.arrow_file.specs.declared.block.Block.{Block}
use Rattle.arrow_file.specs.Blocks.{blocks_in}
use Rattle.arrow_file.specs.Files.{magic, head, File}

-- ---- record batches

-- a record batch in a file: what it holds, its message, and its block
pub record WrittenBatch : Type 0 where
  pub batch : BatchIn
  pub message : List ℕ
  pub block : Block

abbrev pub messages_of : List WrittenBatch → List (List ℕ)
messages_of written = map (λ b. b.message) written

abbrev pub written_blocks : List WrittenBatch → List Block
written_blocks written = map (λ b. b.block) written

-- the bytes of the messages, one after the other
abbrev pub message_bytes : List WrittenBatch → List ℕ
message_bytes written = flat_map (λ b. b.message) written

-- A record batch is written at an offset: its message is laid out as each one that is written, and its block has the offset, the size
-- of the metadata with the continuation marker and the size before them, and the size of the body. Each is a multiple of 8.
pub record IsWrittenAt (offset : ℕ) (b : WrittenBatch) : Type 0 where
  pub laid : IsLaidOut b.message (Rows b.batch) (length b.message)
  pub offset_is : b.block.offset ≡ pos offset
  pub metadata_is : b.block.metadata_size ≡ pos (8 + length laid.is.metadata)
  pub body_is : b.block.body_size ≡ pos (length laid.is.body)
  pub offset_even : offset % 8 ≡ 0
  pub metadata_even : (8 + length laid.is.metadata) % 8 ≡ 0
  pub body_even : length laid.is.body % 8 ≡ 0

-- record batches are written one after the other, from an offset on
abbrev pub AreWrittenFrom : ℕ → List WrittenBatch → Type 0
AreWrittenFrom start written = AllAfter (λ before b. IsWrittenAt (start + length (message_bytes before)) b) [] written

-- ---- the footer

-- the version of the metadata, in slot 0 of the table Footer
abbrev pub version_slot : ℕ
version_slot = 0

-- a slot of the table holds a vector of just these blocks; the first is at a multiple of 8
pub record HoldsBlocks (table : TableIn) (slot : ℕ) (blocks : List Block) : Type 0 where
  pub vector : VectorIn
  pub has : vector_slot 24 table slot ≡ Ok (Some vector)
  pub holds : blocks_in vector ≡ blocks
  pub aligned : vector.first % 8 ≡ 0

-- THE FOOTER that is written: version V5 (slot 0), the schema (1), no dictionary batches (2), these record batches (3), and no metadata of
-- the file. Both vectors are there. It is padded to a multiple of 8, and all of it is aligned.
pub record IsWrittenFooter (spec : SchemaSpec) (blocks : List Block) (footer : List ℕ) : Type 0 where
  pub table : TableIn
  pub root : root_at footer ≡ Ok table
  pub version : or_default (pos 0) (signed_slot w16 2 table version_slot) ≡ Ok version_5
  pub schema : TableIn
  pub has_schema : table_slot table 1 ≡ Ok (Some schema)
  pub place : ℕ
  pub here : table_at footer place ≡ Ok schema
  pub writes : WritesSchema spec footer place
  pub says : SaysSchema schema spec
  pub dictionaries : HoldsBlocks table 2 []
  pub batches : HoldsBlocks table 3 blocks
  pub padded : IsPadded footer
  pub zeros : RootAfterZeros footer table
  pub aligned : IsTableOf (2 ∷ 4 ∷ 4 ∷ 4 ∷ []) table

-- ---- the file

-- the end of the messages: the continuation marker, and the size 0 (Arrow columnar format, "IPC Streaming Format")
abbrev pub end_mark : List ℕ
end_mark = 0xFF ∷ 0xFF ∷ 0xFF ∷ 0xFF ∷ 0 ∷ 0 ∷ 0 ∷ 0 ∷ []

-- THE FILE that is written: what a file begins with, the Schema message, the messages of the record batches and the end mark, each at
-- the end of the one before it; then the footer, its size, and the magic. A schema that can be read makes it a file of these messages.
pub record IsWrittenFile (spec : SchemaSpec) (batches : List BatchIn) (bytes : List ℕ) : Type 0 where
  pub start : List ℕ
  pub schema : AppendsSchema spec head start
  pub written : List WrittenBatch
  pub batches_are : map (λ b. b.batch) written ≡ batches
  pub each : AreWrittenFrom (length start) written
  pub footer : List ℕ
  pub footer_is : IsWrittenFooter spec (written_blocks written) footer
  pub whole : bytes ≡ start ++ (message_bytes written ++ (end_mark ++ (footer ++ (little_bytes 4 (length footer) ++ magic))))
  pub small : length footer < 2 ^ 31
  pub says : IsReadable spec → IsMessage schema.written (Schema spec) (length schema.written)
  pub file : IsReadable spec → File bytes schema.written [] (messages_of written)
