use Rattle.otlp_wire.proofs.Written.{is_field}
use Rattle.otlp_wire.proofs.laws.written_is_read.Goals as goal

pub returns : goal.returns
returns c = is_field
