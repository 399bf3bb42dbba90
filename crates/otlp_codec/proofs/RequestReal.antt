-- What is read is real: of requests.
use Rattle.std.proofs.Common.{ℕ, List}
use Rattle.otlp_messages.specs.declared.messages.ItemKind.TheVariants.{Spans, LogRecords, Metrics}
use Rattle.otlp_model.specs.declared.request.Signal.{Signal}
use Rattle.otlp_model.specs.declared.request.Signal.TheVariants as signals
use Rattle.otlp_model.specs.Real.{IsRealLogRecord, IsRealSpan, IsRealMetric, IsReal}
use Rattle.otlp_codec.specs.Limits.{level_limit}
use Rattle.otlp_codec.specs.Logs.{log_record_in}
use Rattle.otlp_codec.specs.Spans.{span_in}
use Rattle.otlp_codec.specs.Metrics.{metric_in}
use Rattle.otlp_codec.specs.Requests.{request_message, request_in}
use Rattle.otlp_codec.proofs.RealLaw.{Sound}
use Rattle.otlp_codec.proofs.RealMessages.{log_record_real, span_real, groups_real}
use Rattle.otlp_codec.proofs.MetricReal.{metric_real}

pub request_real : (signal : Signal) (bytes : List ℕ) → Sound (request_message signal) level_limit bytes → IsReal (request_in signal bytes)
request_real signals.Traces bytes h = groups_real IsRealSpan Spans span_in span_real bytes h
request_real signals.Logs bytes h = groups_real IsRealLogRecord LogRecords log_record_in log_record_real bytes h
request_real signals.Metrics bytes h = groups_real IsRealMetric Metrics metric_in metric_real bytes h
