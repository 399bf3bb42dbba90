use Rattle.otlp_model.proofs.Often.{same_often_from, same_often_counts}
use Rattle.otlp_model.proofs.laws.order_does_not_count.Goals as goal

pub returns : goal.returns
returns c = λ xs ys. (same_often_counts xs ys, same_often_from xs ys)
