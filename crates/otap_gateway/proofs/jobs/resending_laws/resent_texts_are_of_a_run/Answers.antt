use Rattle.otap_gateway.proofs.ResentRuns.{texts_of_a_run}
use Rattle.otap_gateway.proofs.jobs.resending_laws.resent_texts_are_of_a_run.Goals as goal

pub returns : goal.returns
returns c = texts_of_a_run
