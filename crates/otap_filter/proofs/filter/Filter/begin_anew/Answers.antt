use Rattle.std.proofs.Common.{◌∙◌}
use Rattle.otap_filter.proofs.Fresh.{fresh}
use Rattle.otap_filter.proofs.filter.Filter.begin_anew.Goals as goal

pub invariant_of-self : goal.invariant_of-self
invariant_of-self c = fresh _ _ _ (c.reset.ensures.kinds ∙ c.self.invariant.kinds) c.reset.ensures.sent
