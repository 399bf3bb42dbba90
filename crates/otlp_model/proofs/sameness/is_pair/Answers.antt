use Rattle.otlp_model.proofs.Often.{pair_is_told}
use Rattle.otlp_model.proofs.sameness.is_pair.Goals as goal

pub returns : goal.returns
returns c = pair_is_told _ _ _ c.same_pair.ensures
