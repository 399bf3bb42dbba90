-- The signals.
use Rattle.otlp_model.specs.declared.logs.LogRecord.{LogRecord}
use Rattle.otlp_model.specs.declared.metrics.Metric.{Metric}
use Rattle.otlp_model.specs.declared.request.Request.TheVariants as requests
use Rattle.otlp_model.specs.declared.request.Signal.TheVariants as signals
use Rattle.otlp_model.specs.declared.spans.Span.{Span}
use Rattle.otap_logs.specs.Requests.{regrouped_logs}
use Rattle.otap_logs.specs.Tables.{tables_of_logs}
use Rattle.otap_metrics.specs.Requests.{regrouped_metrics}
use Rattle.otap_metrics.specs.Tables.{tables_of_metrics}
use Rattle.otap_spans.specs.Requests.{regrouped_spans}
use Rattle.otap_spans.specs.Tables.{tables_of_spans}
use Rattle.otap_signals.specs.Signals.{SignalIn}

abbrev pub spans : SignalIn Span
spans = record { signal = signals.Traces; request = λ groups. requests.Traces groups; tables = tables_of_spans; regrouped = regrouped_spans }

abbrev pub logs : SignalIn LogRecord
logs = record { signal = signals.Logs; request = λ groups. requests.Logs groups; tables = tables_of_logs; regrouped = regrouped_logs }

abbrev pub metrics : SignalIn Metric
metrics = record { signal = signals.Metrics; request = λ groups. requests.Metrics groups; tables = tables_of_metrics; regrouped = regrouped_metrics }
