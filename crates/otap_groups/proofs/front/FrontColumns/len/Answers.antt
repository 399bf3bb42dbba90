use Rattle.std.proofs.Common.{rules}
use Rattle.otap_groups.proofs.FrontRows.{seen_long}
use Rattle.otap_groups.proofs.front.FrontColumns.len.Goals as goal

pub returns : goal.returns
returns g c = rw (seen_long _ _ _ _ _ c.self.view_is) (search rules)
