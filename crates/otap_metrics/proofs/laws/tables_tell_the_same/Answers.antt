use Rattle.otap_metrics.proofs.MetricsAgain.{same_again}
use Rattle.otap_metrics.proofs.laws.tables_tell_the_same.Goals as goal

pub returns : goal.returns
returns c = same_again
