use Rattle.otlp_model.proofs.Signals.{same_of_two}
use Rattle.otlp_model.proofs.laws.signals_differ.Goals as goal

pub returns : goal.returns
returns c = same_of_two
