use Rattle.otap_checks.proofs.KnownSteps.{one_link_more}
use Rattle.otap_checks.proofs.checking.check_links.Goals as goal

pub links-preserved : goal.links-preserved
links-preserved c = one_link_more c.args.known.now c.args.links.now c.links.place _ c.links-test.true c.links.invariant c.in_ok-check_link.ensures.ok
