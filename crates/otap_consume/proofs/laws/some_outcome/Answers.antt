use Rattle.otap_consume.proofs.Following.{is_read_or_refused, some_after}
use Rattle.otap_consume.proofs.laws.some_outcome.Goals as goal

pub returns : goal.returns
returns c = λ signal frames outcomes frame each. some_after signal frames outcomes frame each (is_read_or_refused frame)
