use Rattle.otap_gateway.proofs.OneRuns.{one_run}
use Rattle.otap_gateway.proofs.jobs.resending_laws.all_texts_are_of_one_run.Goals as goal

pub returns : goal.returns
returns c = one_run
