-- What is true of each of the three signals, and of the requests of each, is true of any.
use Rattle.std.proofs.Common.{List}
use Rattle.otlp_model.specs.declared.groups.ResourceGroup.{ResourceGroup}
use Rattle.otlp_model.specs.declared.logs.LogRecord.{LogRecord}
use Rattle.otlp_model.specs.declared.metrics.Metric.{Metric}
use Rattle.otlp_model.specs.declared.request.Request.{Request}
use Rattle.otlp_model.specs.declared.request.Request.TheVariants as requests
use Rattle.otlp_model.specs.declared.request.Signal.{Signal}
use Rattle.otlp_model.specs.declared.request.Signal.TheVariants as signals
use Rattle.otlp_model.specs.declared.spans.Span.{Span}

pub each_signal : (P : Signal → Type 0) → P signals.Traces → P signals.Logs → P signals.Metrics → (signal : Signal) → P signal
each_signal P traces logs metrics signals.Traces = traces
each_signal P traces logs metrics signals.Logs = logs
each_signal P traces logs metrics signals.Metrics = metrics

pub each_request : (P : Request → Type 0) → ((groups : List (ResourceGroup Span)) → P (requests.Traces groups)) → ((groups : List (ResourceGroup LogRecord)) → P (requests.Logs groups))
    → ((groups : List (ResourceGroup Metric)) → P (requests.Metrics groups)) → (request : Request) → P request
each_request P traces logs metrics (requests.Traces groups) = traces groups
each_request P traces logs metrics (requests.Logs groups) = logs groups
each_request P traces logs metrics (requests.Metrics groups) = metrics groups
