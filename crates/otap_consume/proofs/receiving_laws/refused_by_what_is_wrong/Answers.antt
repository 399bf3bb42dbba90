use Rattle.otap_signals.specs.BySignal.{meaning_by}
use Rattle.otap_consume.proofs.Formats.{named, defects_in_one, zero_where_broken}
use Rattle.otap_consume.proofs.receiving_laws.refused_by_what_is_wrong.Goals as goal

pub returns-clause-named : goal.returns-clause-named
returns-clause-named c = λ signal. named (meaning_by signal)

pub returns-clause-one_stage : goal.returns-clause-one_stage
returns-clause-one_stage c = λ signal. defects_in_one (meaning_by signal)

pub returns-clause-broken : goal.returns-clause-broken
returns-clause-broken c = λ signal. zero_where_broken (meaning_by signal)
