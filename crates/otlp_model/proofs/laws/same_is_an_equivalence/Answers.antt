use Rattle.otlp_model.proofs.Equivalence.{same}
use Rattle.otlp_model.proofs.laws.same_is_an_equivalence.Goals as goal

pub returns-clause-reflexive : goal.returns-clause-reflexive
returns-clause-reflexive c = same.itself

pub returns-clause-symmetric : goal.returns-clause-symmetric
returns-clause-symmetric c = same.turned

pub returns-clause-transitive : goal.returns-clause-transitive
returns-clause-transitive c = same.joined
