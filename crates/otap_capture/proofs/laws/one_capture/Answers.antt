use Rattle.otap_capture.proofs.OneCapture.{one_capture}
use Rattle.otap_capture.proofs.laws.one_capture.Goals as goal

pub returns : goal.returns
returns c = one_capture
