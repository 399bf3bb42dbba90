use Rattle.otap_gateway.proofs.FilteredFrames.{filtered_none}
use Rattle.otap_gateway.proofs.Shows.{writes_nothing}
use Rattle.otap_gateway.proofs.runs.running.filter.Goals as goal

pub returns-in_default-clause-leaves : goal.returns-in_default-clause-leaves
returns-in_default-clause-leaves g c = writes_nothing _ _ _

pub drive-requires : goal.drive-requires
drive-requires g c = filtered_none c.in-Ok.job.owner _ _ c.in-Ok.job.filter c.in-Ok.ensures.filter
