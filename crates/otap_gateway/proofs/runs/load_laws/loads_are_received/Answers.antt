use Rattle.otap_gateway.specs.Loads.{requests_of}
use Rattle.otap_gateway.proofs.runs.load_laws.loads_are_received.Goals as goal

pub returns : goal.returns
returns c = λ load old new written. c.both_ends.ensures load.signal (requests_of load) written.messages written.exported written.policy
