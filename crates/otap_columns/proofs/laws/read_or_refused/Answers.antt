use Rattle.otap_columns.proofs.Deciding.{judged}
use Rattle.otap_columns.proofs.Excluding.{never_both}
use Rattle.otap_columns.proofs.laws.read_or_refused.Goals as goal

pub returns-clause-one : goal.returns-clause-one
returns-clause-one c = judged

pub returns-clause-never_both : goal.returns-clause-never_both
returns-clause-never_both c = λ kind past bytes refusal read stands. never_both kind past bytes read refusal stands
