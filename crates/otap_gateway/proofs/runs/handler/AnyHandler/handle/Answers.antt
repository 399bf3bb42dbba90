use Rattle.std.proofs.Common.{inr}
use Rattle.std.proofs.lemmas.Result.{err_from_is_err_and}
use Rattle.otap_gateway.proofs.WholeRuns.{begins_by}
use Rattle.otap_gateway.proofs.runs.handler.AnyHandler.handle.Goals as goal

pub returns-in_err-handled-clause-handles : goal.returns-in_err-handled-clause-handles
returns-in_err-handled-clause-handles g c =
    let p = err_from_is_err_and c.from_residual.result c.from_residual.ensures.1 in
    rw p.1 (inr (record {
      reply = c.in-Ok.reply;
      begins = begins_by _ _ _ _ _ _ c.in-Ok.ensures.next;
      out = c.in_err-handled.ensures.writes.out;
      err = c.in_err-handled.ensures.writes.err;
    }))
