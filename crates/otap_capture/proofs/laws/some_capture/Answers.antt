use Rattle.otap_capture.proofs.SomeCapture.{some_capture}
use Rattle.otap_capture.proofs.laws.some_capture.Goals as goal

pub returns : goal.returns
returns c = some_capture
