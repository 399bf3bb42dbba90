use Rattle.otap_gateway.proofs.FileWords.{complete_unfiles}
use Rattle.otap_gateway.proofs.runs.laws.complete_unfiles.Goals as goal

pub returns : goal.returns
returns c = complete_unfiles
