-- The tables of a load of any signal aren't too heavy.
use Rattle.std.proofs.Common.{ℕ, ◌<◌, ◌≤◌}
use Rattle.otlp_model.specs.declared.request.Signal.{Signal}
use Rattle.otlp_model.specs.declared.request.Signal.TheVariants as signals
use Rattle.otlp_load.specs.Load.{generated, requests_at_most}
use Rattle.otap_cells.specs.Weights.{row_weight_limit, weight_of_tables}
use Rattle.otap_signals.specs.BySignal.{tables_of_request}
use Rattle.otap_gateway.proofs.LogLoads.{log_rows}
use Rattle.otap_gateway.proofs.MetricLoads.{metric_tables_rows}
use Rattle.otap_gateway.proofs.SpanLoads.{span_tables_rows}

pub rows_light : (signal : Signal) (r : ℕ) → r < requests_at_most → weight_of_tables (tables_of_request (generated signal r)) ≤ row_weight_limit
rows_light signals.Traces = span_tables_rows
rows_light signals.Logs = log_rows
rows_light signals.Metrics = metric_tables_rows
