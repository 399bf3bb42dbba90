use Rattle.otlp_codec.proofs.RequestLaw.{one}
use Rattle.otlp_codec.proofs.laws.one_reading.Goals as goal

pub returns : goal.returns
returns c = one
