use Rattle.otap_dicts.proofs.Once.{members-law, once-law, grows-law}
use Rattle.otap_dicts.proofs.laws.distinct_values.Goals as goal

pub returns-clause-members : goal.returns-clause-members
returns-clause-members c = members-law

pub returns-clause-once : goal.returns-clause-once
returns-clause-once c = once-law

pub returns-clause-grows : goal.returns-clause-grows
returns-clause-grows c = grows-law
