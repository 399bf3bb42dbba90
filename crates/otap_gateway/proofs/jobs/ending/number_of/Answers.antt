use Rattle.otap_gateway.proofs.FileWords.{past_limit}
use Rattle.std.proofs.Common.{arith}
use Rattle.otap_gateway.proofs.jobs.ending.number_of.Goals as goal

pub returns-then-number-gt-MAX_NUMBER : goal.returns-then-number-gt-MAX_NUMBER
returns-then-number-gt-MAX_NUMBER c = past_limit c.args.word.now c.in_ok-number.number c.in_ok-number.ensures.0 (omega arith) c.in_ok-number.ensures.1
