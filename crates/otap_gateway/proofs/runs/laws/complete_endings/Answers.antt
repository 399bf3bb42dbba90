use Rattle.otap_gateway.proofs.FaultlessEndings.{complete_endings}
use Rattle.otap_gateway.proofs.runs.laws.complete_endings.Goals as goal

pub returns : goal.returns
returns c = complete_endings
