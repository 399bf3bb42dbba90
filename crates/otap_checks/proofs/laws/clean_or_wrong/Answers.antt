use Rattle.otap_checks.proofs.CleanOrWrong.{ids_clean_or_wrong, values_clean_or_wrong, disagrees_or_not}
use Rattle.otap_checks.proofs.laws.clean_or_wrong.Goals as goal

pub returns-clause-ids : goal.returns-clause-ids
returns-clause-ids c = ids_clean_or_wrong

pub returns-clause-values : goal.returns-clause-values
returns-clause-values c = values_clean_or_wrong

pub returns-clause-alike : goal.returns-clause-alike
returns-clause-alike c = disagrees_or_not
