use Rattle.std.proofs.Common.{◌∙◌, sym}
use Rattle.std.proofs.lemmas.Result.{err_from_is_err_and}
use Rattle.otap_gateway.specs.Runs.{sinks}
use Rattle.otap_gateway.proofs.AddedRuns.{closes_for, ends_same, ending_all, ending_part}
use Rattle.otap_gateway.proofs.runs.ending.drive_to_end.Goals as goal

pub returns-in_err-damaged-clause-leaves : goal.returns-in_err-damaged-clause-leaves
returns-in_err-damaged-clause-leaves g c =
    let p = err_from_is_err_and c.from_residual-in_err-damaged.result c.from_residual-in_err-damaged.ensures.1 in
    let named = g.met.J.Ender.named in
    let same = ends_same (g.J.Ender.ending c.drive_frames.new.handler) (g.J.Ender.ending c.args.job.now) (sym (named c.drive_frames.new.handler) ∙ c.in_ok-ended.ensures.same ∙ named c.args.job.now) in
    rw p.1 (ending_part (g.J.Ender.ending c.args.job.now) (g.S.Source.left c.args.source.now) (sinks g.O.Sink c.args.out.now g.E.Sink c.args.err.now) _
    (rw (named c.args.job.now) at c.in_ok-ended.ensures.drives) (closes_for _ _ _ _ same c.in-Ok.ensures) c.in_err-damaged.ensures.adds)

pub returns-clause-leaves : goal.returns-clause-leaves
returns-clause-leaves g c =
    let named = g.met.J.Ender.named in
    let same = ends_same (g.J.Ender.ending c.drive_frames.new.handler) (g.J.Ender.ending c.args.job.now) (sym (named c.drive_frames.new.handler) ∙ c.in_ok-ended.ensures.same ∙ named c.args.job.now) in
    rw c.is_refused.ensures (ending_all (g.J.Ender.ending c.args.job.now) (g.S.Source.left c.args.source.now) (sinks g.O.Sink c.args.out.now g.E.Sink c.args.err.now) c.in-Ok.added
    (rw (named c.args.job.now) at c.in_ok-ended.ensures.drives) (closes_for _ _ _ _ same c.in-Ok.ensures) c.in_ok-damaged.ensures.adds)
