use Rattle.otap_checks.proofs.RulesAlike.{defects_alike}
use Rattle.otap_checks.proofs.RulesDecided.{rows_clean_or_wrong}
use Rattle.otap_checks.proofs.laws.row_defects_are_decided.Goals as goal

pub returns-clause-decided : goal.returns-clause-decided
returns-clause-decided c = rows_clean_or_wrong

pub returns-clause-alike : goal.returns-clause-alike
returns-clause-alike c = defects_alike
