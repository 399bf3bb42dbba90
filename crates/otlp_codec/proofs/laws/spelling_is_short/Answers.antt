use Rattle.otlp_codec.proofs.RequestLaw.{short}
use Rattle.otlp_codec.proofs.laws.spelling_is_short.Goals as goal

pub returns : goal.returns
returns c = short
