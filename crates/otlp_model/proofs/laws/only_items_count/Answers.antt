use Rattle.otlp_model.proofs.WithItems.{telemetry_kept, same_kept}
use Rattle.otlp_model.proofs.laws.only_items_count.Goals as goal

pub returns-clause-telemetry : goal.returns-clause-telemetry
returns-clause-telemetry c = telemetry_kept

pub returns-clause-same : goal.returns-clause-same
returns-clause-same c = same_kept
