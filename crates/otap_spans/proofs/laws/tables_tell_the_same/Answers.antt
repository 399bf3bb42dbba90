use Rattle.otap_spans.proofs.SpansAgain.{same_again}
use Rattle.otap_spans.proofs.laws.tables_tell_the_same.Goals as goal

pub returns : goal.returns
returns c = same_again
