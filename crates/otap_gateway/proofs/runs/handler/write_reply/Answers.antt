use Rattle.std.proofs.lemmas.Result.{err_from_is_err_and}
use Rattle.lists.proofs.Known.{Keeps-refl}
use Rattle.otap_capture.proofs.Known.{front_of_none}
use Rattle.otap_gateway.proofs.runs.handler.write_reply.Goals as goal

pub returns-in_err-write_whole-clause-writes : goal.returns-in_err-write_whole-clause-writes
returns-in_err-write_whole-clause-writes g c =
    let p = err_from_is_err_and c.from_residual.result c.from_residual.ensures.1 in
    rw p.1 (record { out = rw c.out.ensures at c.in_err-write_whole.ensures.front; err = front_of_none _ _ _ (Keeps-refl _) })
