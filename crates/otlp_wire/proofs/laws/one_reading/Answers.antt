use Rattle.otlp_wire.proofs.Readings as lemmas
use Rattle.otlp_wire.proofs.laws.one_reading.Goals as goal

pub returns : goal.returns
returns c = lemmas.one_reading
