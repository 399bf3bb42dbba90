use Rattle.otap_capture.proofs.Decided.{reason_more}
use Rattle.otap_capture.proofs.laws.decided_stays.Goals as goal

pub returns : goal.returns
returns c = reason_more
