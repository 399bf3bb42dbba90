use Rattle.otap_gateway.proofs.Shows.{writes_nothing, shows_none}
use Rattle.otap_gateway.proofs.runs.running.show.Goals as goal

pub returns-in_default-clause-leaves : goal.returns-in_default-clause-leaves
returns-in_default-clause-leaves c c' = writes_nothing _ _ _

pub drive-requires : goal.drive-requires
drive-requires c c' = shows_none c'.args.signal c'.in-Ok.job.segment c'.in-Ok.ensures
