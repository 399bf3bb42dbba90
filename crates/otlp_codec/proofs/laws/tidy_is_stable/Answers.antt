use Rattle.otlp_codec.proofs.RequestLaw.{stable}
use Rattle.otlp_codec.proofs.laws.tidy_is_stable.Goals as goal

pub returns : goal.returns
returns c = stable
