use Rattle.otap_metrics.proofs.TableKinds.{rows_for_metrics}
use Rattle.otap_metrics.proofs.laws.each_metric_has_a_row.Goals as goal

pub returns : goal.returns
returns c = rows_for_metrics
