use Rattle.otap_gateway.specs.Receptions.{text_of}
use Rattle.otap_gateway.proofs.Replying.{replied_none}
use Rattle.otap_gateway.proofs.Shows.{writes_nothing}
use Rattle.otap_gateway.proofs.runs.running.receive.Goals as goal

pub returns-in_default-clause-leaves : goal.returns-in_default-clause-leaves
returns-in_default-clause-leaves g c = writes_nothing _ _ _

pub drive-requires : goal.drive-requires
drive-requires g c = replied_none (text_of c.in-Ok.job.text) c.args.signal c.in-Ok.job.receiver c.in-Ok.ensures.receiver
