use Rattle.otap_gateway.proofs.OneJob.{runs_named}
use Rattle.otap_gateway.proofs.runs.running.run.Goals as goal

pub returns-in-Some-clause-understood : goal.returns-in-Some-clause-understood
returns-in-Some-clause-understood g c =
    runs_named c.args.words.now c.in-Some.job _ _ c.status.result c.run_job.result c.in-Some.ensures c.status.ensures c.run_job.ensures.leaves c.run_job.ensures.stops c.run_job.ensures.faults
