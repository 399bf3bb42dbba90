use Rattle.otlp_messages.proofs.Canonical.{rows_read}
use Rattle.otlp_messages.proofs.laws.rows_are_read.Goals as goal

pub returns : goal.returns
returns c = rows_read
