use Rattle.otap_gateway.proofs.AllLoads.{rows_light}
use Rattle.otap_gateway.proofs.runs.selfrun.loads_are_light.Goals as goal

pub returns : goal.returns
returns c = rows_light
