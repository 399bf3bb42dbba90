use Rattle.std.proofs.Common.{ap, length, arith}
use Rattle.otlp_codec.proofs.request.write_request.Goals as goal

pub returns-clause-bound : goal.returns-clause-bound
returns-clause-bound c = λ few. rw c.finish.ensures (omega (arith, c.in_ok-put_request.ensures.bound few, ap length c.new-to.ensures))
