use Rattle.arrow_buffers.proofs.EachBelow.{all_below-at, all_below-each}
use Rattle.arrow_buffers.proofs.laws.below_is_at_each_place.Goals as goal

pub returns : goal.returns
returns c = λ test n. (λ holds i below. all_below-at test n i holds below, all_below-each test n)
