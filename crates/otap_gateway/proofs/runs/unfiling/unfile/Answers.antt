use Rattle.std.proofs.lemmas.Result.{err_from_is_err_and}
use Rattle.otap_gateway.specs.Runs.{sinks, world}
use Rattle.otap_gateway.proofs.UnfiledRuns.{leaves_unflushed}
use Rattle.otap_gateway.proofs.runs.unfiling.unfile.Goals as goal

pub returns-in_err-flush_both-clause-leaves : goal.returns-in_err-flush_both-clause-leaves
returns-in_err-flush_both-clause-leaves g c =
    let p = err_from_is_err_and c.from_residual-in_err-flush_both.result c.from_residual-in_err-flush_both.ensures.1 in
    let old = world g.S.Source c.args.source.now (sinks g.O.Sink c.args.out.now g.E.Sink c.args.err.now) in
    let mid = sinks g.O.Sink c.write_reply.new.out g.E.Sink c.write_reply.new.err in
    let new = world g.S.Source c.read_file.new.source (sinks g.O.Sink c.flush_both.new.out g.E.Sink c.flush_both.new.err) in
    rw (p.1, p.2) (leaves_unflushed c.args.kind old new c.in_ok-bytes.bytes.items mid c.in_ok-refused.refused (rw c.deref.ensures.value at c.in_ok-refused.ensures.replies) c.flush_both.ensures.out c.flush_both.ensures.err _
    c.in_ok-bytes.ensures.takes c.in_err-flush_both.ensures.faults)
