use Rattle.otap_filter.proofs.OneAnswer.{alike, not_both}
use Rattle.otap_filter.proofs.laws.one_kind_of_answer.Goals as goal

pub returns-clause-kind : goal.returns-clause-kind
returns-clause-kind c = not_both

pub returns-clause-alike : goal.returns-clause-alike
returns-clause-alike c = alike
