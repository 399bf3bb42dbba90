use Rattle.otap_signals.specs.BySignal.{meaning_by}
use Rattle.otap_consume.proofs.Formats.{in_format, accepted}
use Rattle.otap_consume.proofs.receiving_laws.accepted_where_in_the_format.Goals as goal

pub returns-clause-in_format : goal.returns-clause-in_format
returns-clause-in_format c = λ signal. in_format (meaning_by signal)

pub returns-clause-accepted : goal.returns-clause-accepted
returns-clause-accepted c = λ signal. accepted (meaning_by signal)
