use Rattle.otlp_messages.specs.declared.messages.Message.TheVariants.{BatchArrowRecords}
use Rattle.otlp_messages.specs.Table.{kind_of}
use Rattle.otlp_messages.proofs.EachFine.{fine_only, parts_fine}
use Rattle.otap_capture.proofs.batch.Batch.payloads.Goals as goal

pub invariant_of-result : goal.invariant_of-result
invariant_of-result c = rw c.new.ensures (parts_fine (kind_of BatchArrowRecords 2) 0 _ (fine_only BatchArrowRecords 0 2 _ c.self.invariant.fine))
