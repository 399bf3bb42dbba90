use Rattle.otap_checks.proofs.RulesFit.{all_kept, rules_fit, rules_given}
use Rattle.otap_checks.proofs.cells.check_cells.Goals as goal

pub check_rules-requires-clause-fit : goal.check_rules-requires-clause-fit
check_rules-requires-clause-fit g c = rules_fit c.args.signal c.rules_of.result.now c.rules_of.ensures

pub check_rules-requires-clause-given : goal.check_rules-requires-clause-given
check_rules-requires-clause-given g c = rules_given c.args.signal c.args.set.now c.args.known.now.ids c.requires.ids
    c.requires.known c.rules_of.result.now c.rules_of.ensures

pub returns-in-Ok-clause-clean : goal.returns-in-Ok-clause-clean
returns-in-Ok-clause-clean g c = all_kept c.args.signal c.rules_of.result.now c.args.set.now c.rules_of.ensures c.requires.ids c.in-Ok.ensures.ok
