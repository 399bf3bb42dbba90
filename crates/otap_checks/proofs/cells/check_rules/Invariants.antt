use Rattle.std.proofs.Common.{ℕ, ◌<◌, get_or}
use Rattle.otap_checks.specs.declared.signals.CellRule.{CellRule}
use Rattle.otap_checks.specs.Ruled.{Keeps}
use Rattle.otap_checks.proofs.cells.check_rules.Given as goal

abbrev pub invariant-rules : goal.invariant-rules
invariant-rules g l = (k : ℕ) (d : CellRule) → k < l.place → Keeps l.set (get_or l.rules k d)
