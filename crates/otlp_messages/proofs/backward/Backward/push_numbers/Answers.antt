use Rattle.otlp_messages.proofs.Keeping.{handed_on}
use Rattle.otlp_messages.proofs.backward.Backward.push_numbers.Goals as goal

pub returns-in_err-push_slice-clause-err : goal.returns-in_err-push_slice-clause-err
returns-in_err-push_slice-clause-err c = handed_on c.from_residual.result _ _ _ _ c.values.invariant c.in_err-push_slice.ensures.err
