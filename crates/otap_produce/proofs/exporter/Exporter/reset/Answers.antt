use Rattle.std.proofs.Common.{◌∙◌}
use Rattle.otap_produce.proofs.Beginning.{is_exporter_begun}
use Rattle.otap_produce.proofs.exporter.Exporter.reset.Goals as goal

pub invariant_of-self : goal.invariant_of-self
invariant_of-self c = is_exporter_begun c.self.inside.signal _ _ _ (c.reset.ensures.kinds ∙ c.self.invariant.kinds) c.reset.ensures.sent
