-- What a writer of a file keeps, and of which schema and record batches.
use Rattle.std.specs.Prelude.{◌≡◌, ℕ, ◌+◌, ◌%◌, List, [], ◌∷◌, ◌++◌, length, map}
use Rattle.flat_tables.specs.Building.{StaysAt}
use Rattle.arrow_schema.specs.declared.spec.SchemaSpec.{SchemaSpec}
use Rattle.arrow_schema.specs.Writing.{IsSchemaTable}
use Rattle.arrow_ipc.specs.Batches.{BatchIn}
use Rattle.arrow_ipc.specs.Written.{AppendsSchema}
use Rattle.arrow_file.specs.declared.block.Block.{Block}
use Rattle.arrow_file.specs.Files.{head}
use Rattle.arrow_file.specs.Written.{WrittenBatch, written_blocks, message_bytes, AreWrittenFrom, IsWrittenFile}

-- the file so far, the blocks of its record batches, what was built of the footer, and the offset of the schema in it
pub record WriterIn : Type 0 where
  pub bytes : List ℕ
  pub blocks : List Block
  pub footer : List ℕ
  pub schema : ℕ

-- The writer has written a schema and these record batches: their messages are the file so far, each has its block, and the schema is in the
-- footer.
pub record StandsFor (spec : SchemaSpec) (batches : List BatchIn) (w : WriterIn) : Type 0 where
  pub start : List ℕ
  pub schema : AppendsSchema spec head start
  pub written : List WrittenBatch
  pub batches_are : map (λ b. b.batch) written ≡ batches
  pub each : AreWrittenFrom (length start) written
  pub bytes_are : w.bytes ≡ start ++ message_bytes written
  pub even : length w.bytes % 8 ≡ 0
  pub blocks_are : w.blocks ≡ written_blocks written
  pub footer_has : StaysAt (IsSchemaTable spec) w.footer w.schema

-- one more record batch was added, whatever the writer had written
pub record AddsRows (batch : BatchIn) (old new : WriterIn) : Type 0 where
  pub count : length new.blocks ≡ length old.blocks + 1
  pub stands : (spec : SchemaSpec) (batches : List BatchIn) → StandsFor spec batches old → StandsFor spec (batches ++ batch ∷ []) new

-- the finished bytes are the file of whatever the writer had written
abbrev pub Finishes : WriterIn → List ℕ → Type 0
Finishes w bytes = (spec : SchemaSpec) (batches : List BatchIn) → StandsFor spec batches w → IsWrittenFile spec batches bytes
