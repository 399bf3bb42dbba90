use Rattle.otap_gateway.proofs.LoadWords.{complete_loads}
use Rattle.otap_gateway.proofs.runs.load_laws.complete_loads.Goals as goal

pub returns : goal.returns
returns g c = complete_loads
