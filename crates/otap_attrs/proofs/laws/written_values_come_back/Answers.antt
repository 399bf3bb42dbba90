use Rattle.otap_attrs.proofs.ValueLaws.{value_again, value_fine}
use Rattle.otap_attrs.proofs.laws.written_values_come_back.Goals as goal

pub returns-clause-again : goal.returns-clause-again
returns-clause-again c = value_again

pub returns-clause-fine : goal.returns-clause-fine
returns-clause-fine c = value_fine
