use Rattle.otap_logs.proofs.BackAgain.{same_again}
use Rattle.otap_logs.proofs.laws.tables_tell_the_same.Goals as goal

pub returns : goal.returns
returns c = same_again
