use Rattle.std.proofs.Common.{refl}
use Rattle.otap_metrics.proofs.MetricsRegrouped.{no_metrics}
use Rattle.otap_metrics.proofs.requests.check_rows.Goals as goal

pub returns-in_default-clause-weight : goal.returns-in_default-clause-weight
returns-in_default-clause-weight g c = rw (no_metrics c.args.set.now c.in_default.ensures.table) refl
