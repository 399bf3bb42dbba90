use Rattle.std.proofs.Common.{length-append, arith}
use Rattle.otlp_codec.specs.Requests.{canon_request}
use Rattle.otlp_codec.proofs.RequestLaw.{short}
use Rattle.otlp_codec.proofs.request.put_request.Goals as goal

pub returns-clause-bound : goal.returns-clause-bound
returns-clause-bound c = λ few.
    rw c.in_ok-put_groups.ensures.ok (omega (arith, length-append (canon_request c.args.request.now) c.args.to.now, short c.args.request.now c.in_ok-put_groups.ensures.real few, few))
