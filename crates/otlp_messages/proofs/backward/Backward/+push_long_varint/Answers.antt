use Rattle.otlp_messages.proofs.Keeping.{stopped}
use Rattle.otlp_messages.proofs.backward.Backward.+push_long_varint.Goals as goal

pub returns-clause-err : goal.returns-clause-err
returns-clause-err t c = stopped c.push-2.result _ _ _ _ c.in_ok-push_long_varint.ensures.ok c.push-2.ensures.err
