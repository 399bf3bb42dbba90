use Rattle.arrow_buffers.proofs.Joining.{parts-join, spans-join}
use Rattle.arrow_buffers.proofs.laws.values_are_joined.Goals as goal

pub returns-clause-fixed : goal.returns-clause-fixed
returns-clause-fixed c = parts-join

pub returns-clause-spans : goal.returns-clause-spans
returns-clause-spans c = spans-join
