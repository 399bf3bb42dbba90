use Rattle.otap_capture.proofs.WrittenBatch.{batch_back}
use Rattle.otap_capture.proofs.batch_laws.written_batch_is_read.Goals as goal

pub returns : goal.returns
returns c = batch_back
