use Rattle.otlp_model.proofs.Often.{pair_same, pair_is_itself}
use Rattle.otlp_model.proofs.laws.pairs_are_told.Goals as goal

pub returns : goal.returns
returns c = λ p q. (pair_same p q, pair_is_itself p q)
