-- What a batch message that is being written holds.
use Rattle.std.specs.Prelude.{◌≡◌, [], ◌∷◌, ◌++◌}
use Rattle.lists.specs.Payloads.{PayloadIn}
use Rattle.otap_capture.specs.declared.batch_writer.BatchWriter.TheInside.{Inside}
use Rattle.otap_capture.specs.Batch.{BatchContent, batch_content, canon_batch, IsRealBatch}

-- the batch that is written so far
abbrev pub written_of : Inside → BatchContent
written_of w = batch_content w.bytes.items

-- its bytes are the canonical spelling of a batch that a program holds
pub record IsWrittenBatch (w : Inside) : Type 0 where
  pub real : IsRealBatch (written_of w)
  pub canonical : w.bytes.items ≡ canon_batch (written_of w)

-- one more payload
abbrev pub with_payload : BatchContent → PayloadIn → BatchContent
with_payload b p = record { id = b.id; payloads = b.payloads ++ p ∷ [] }
