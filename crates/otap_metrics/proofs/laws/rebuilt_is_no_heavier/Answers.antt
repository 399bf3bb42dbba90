use Rattle.otap_metrics.proofs.MetricsAgain.{light_tables}
use Rattle.otap_metrics.proofs.laws.rebuilt_is_no_heavier.Goals as goal

pub returns : goal.returns
returns c = light_tables
