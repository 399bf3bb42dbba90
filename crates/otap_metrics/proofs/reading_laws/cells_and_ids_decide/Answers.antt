use Rattle.otlp_model.specs.declared.request.Signal.TheVariants as signal
use Rattle.otap_checks.proofs.RulesAlike.{defects_alike}
use Rattle.otap_metrics.proofs.MetricsRegrouped.{same_request}
use Rattle.otap_metrics.proofs.reading_laws.cells_and_ids_decide.Goals as goal

pub returns-clause-wrong : goal.returns-clause-wrong
returns-clause-wrong c = defects_alike signal.Metrics

pub returns-clause-request : goal.returns-clause-request
returns-clause-request c = same_request
