use Rattle.otlp_codec.proofs.RequestLaw.{back}
use Rattle.otlp_codec.proofs.laws.written_is_read.Goals as goal

pub returns : goal.returns
returns c = back
