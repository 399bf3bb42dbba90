use Rattle.otlp_load.proofs.LoadCounted.{is_of_signal, is_counted}
use Rattle.otlp_load.proofs.laws.requests_have_their_items.Goals as goal

pub returns-clause-signal : goal.returns-clause-signal
returns-clause-signal c = is_of_signal

pub returns-clause-items : goal.returns-clause-items
returns-clause-items c = is_counted
