use Rattle.otap_checks.proofs.RuleSteps.{one_more}
use Rattle.otap_checks.proofs.cells.check_rules.Goals as goal

pub rules-preserved : goal.rules-preserved
rules-preserved g c = one_more c.args.set.now c.args.rules.now c.rules.place _ c.rules-test.true c.rules.invariant c.in_ok-check_rule.ensures.ok
