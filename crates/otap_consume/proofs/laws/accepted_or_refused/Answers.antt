use Rattle.otap_consume.proofs.Excluding.{not_both}
use Rattle.otap_consume.proofs.Judged.{are_judged}
use Rattle.otap_consume.proofs.laws.accepted_or_refused.Goals as goal

pub returns-clause-one : goal.returns-clause-one
returns-clause-one c = are_judged

pub returns-clause-never_both : goal.returns-clause-never_both
returns-clause-never_both c = λ signal past payloads cause payload accepts refuses. not_both signal past payloads cause payload accepts refuses
