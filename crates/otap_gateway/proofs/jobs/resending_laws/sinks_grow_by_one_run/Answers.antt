use Rattle.otap_gateway.proofs.OneRuns.{grows_by_all, grows_by_completed}
use Rattle.otap_gateway.proofs.jobs.resending_laws.sinks_grow_by_one_run.Goals as goal

pub returns-clause-ended : goal.returns-clause-ended
returns-clause-ended c = grows_by_all

pub returns-clause-completed : goal.returns-clause-completed
returns-clause-completed c = grows_by_completed
