use Rattle.std.proofs.lemmas.Result.{err_from_is_err_and}
use Rattle.otap_gateway.specs.Runs.{sinks}
use Rattle.otap_gateway.proofs.WholeRuns.{whole_all, whole_end, whole_front}
use Rattle.otap_gateway.proofs.runs.drive.drive.Goals as goal

pub returns-in_err-ended-clause-leaves : goal.returns-in_err-ended-clause-leaves
returns-in_err-ended-clause-leaves g c =
    let p = err_from_is_err_and c.from_residual.result c.from_residual.ensures.1 in
    rw p.1 (whole_front (g.J.Job.command c.args.job.now) (g.S.Source.left c.args.source.now) (sinks g.O.Sink c.args.out.now g.E.Sink c.args.err.now) c.in_err-ended.ensures.drives)

pub returns-in_err-damaged-clause-leaves : goal.returns-in_err-damaged-clause-leaves
returns-in_err-damaged-clause-leaves g c =
    let p = err_from_is_err_and c.from_residual-in_err-damaged.result c.from_residual-in_err-damaged.ensures.1 in
    rw p.1 (whole_end (g.J.Job.command c.args.job.now) (g.S.Source.left c.args.source.now) (sinks g.O.Sink c.args.out.now g.E.Sink c.args.err.now) c.in_ok-ended.ensures.drives c.in_err-damaged.ensures.ends)

pub returns-clause-leaves : goal.returns-clause-leaves
returns-clause-leaves g c =
    whole_all (g.J.Job.command c.args.job.now) (g.S.Source.left c.args.source.now) (sinks g.O.Sink c.args.out.now g.E.Sink c.args.err.now) c.in_ok-ended.ensures.drives c.in_ok-damaged.ensures.ends
