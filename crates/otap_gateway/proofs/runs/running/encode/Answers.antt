use Rattle.otap_gateway.proofs.EncodedFrames.{encoding_none}
use Rattle.otap_gateway.proofs.Shows.{writes_nothing}
use Rattle.otap_gateway.proofs.runs.running.encode.Goals as goal

pub returns-in_default-clause-leaves : goal.returns-in_default-clause-leaves
returns-in_default-clause-leaves g c = writes_nothing _ _ _

pub drive-requires : goal.drive-requires
drive-requires g c = encoding_none c.args.signal c.in-Ok.job.exporter c.in-Ok.ensures
