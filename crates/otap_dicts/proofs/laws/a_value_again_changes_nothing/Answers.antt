use Rattle.otap_dicts.proofs.Repeated.{twice, plain_stays}
use Rattle.otap_dicts.proofs.laws.a_value_again_changes_nothing.Goals as goal

pub returns-clause-twice : goal.returns-clause-twice
returns-clause-twice c = twice

pub returns-clause-plain : goal.returns-clause-plain
returns-clause-plain c = plain_stays
