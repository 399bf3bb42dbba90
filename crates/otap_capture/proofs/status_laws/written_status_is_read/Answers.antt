use Rattle.otap_capture.proofs.WrittenStatus.{status_back}
use Rattle.otap_capture.proofs.status_laws.written_status_is_read.Goals as goal

pub returns : goal.returns
returns c = status_back
