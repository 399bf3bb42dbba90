use Rattle.otap_gateway.proofs.FaultlessRuns.{complete_runs}
use Rattle.otap_gateway.proofs.runs.laws.complete_runs.Goals as goal

pub returns : goal.returns
returns c = complete_runs
