use Rattle.otlp_model.proofs.Often.{same_front}
use Rattle.otlp_model.proofs.sameness.same_pairs.Goals as goal

pub returns : goal.returns
returns c = same_front c.common_front-front.result _ _ _ c.common_front-front.ensures.same c.same_counts.ensures
