use Rattle.otlp_codec.proofs.RequestLaw.{some, no_defect}
use Rattle.otlp_codec.proofs.laws.some_reading.Goals as goal

pub returns-clause-some : goal.returns-clause-some
returns-clause-some c = some

pub returns-clause-none : goal.returns-clause-none
returns-clause-none c = no_defect
