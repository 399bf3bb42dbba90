use Rattle.otlp_model.specs.declared.request.Signal.TheVariants as signal
use Rattle.otap_checks.proofs.RulesDecided.{rows_clean_or_wrong}
use Rattle.otap_metrics.proofs.reading_laws.clean_or_wrong.Goals as goal

pub returns : goal.returns
returns c = rows_clean_or_wrong signal.Metrics
