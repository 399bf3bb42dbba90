-- Requests of a signal: which of them bytes say, and their canonical spelling.
use Rattle.std.specs.Prelude.{◌≡◌, ℕ, List}
use Rattle.otlp_messages.specs.declared.messages.ItemKind.TheVariants.{Spans, LogRecords, Metrics}
use Rattle.otlp_messages.specs.declared.messages.Message.{Message}
use Rattle.otlp_messages.specs.declared.messages.Message.TheVariants as messages
use Rattle.otlp_messages.specs.declared.messages.Defect.{Defect}
use Rattle.otlp_messages.specs.Defects as defects
use Rattle.otlp_messages.specs.Defects.{IsFine}
use Rattle.otlp_model.specs.declared.request.Request.{Request}
use Rattle.otlp_model.specs.declared.request.Request.TheVariants as requests
use Rattle.otlp_model.specs.declared.request.Signal.{Signal}
use Rattle.otlp_model.specs.declared.request.Signal.TheVariants as signals
use Rattle.otlp_codec.specs.Limits.{level_limit}
use Rattle.otlp_codec.specs.Groups.{groups_in}
use Rattle.otlp_codec.specs.Logs.{log_record_in}
use Rattle.otlp_codec.specs.Spans.{span_in}
use Rattle.otlp_codec.specs.Metrics.{metric_in}
use Rattle.otlp_codec.specs.SpanSpelling.{canon_span}
use Rattle.otlp_codec.specs.MetricSpelling.{canon_metric}
use Rattle.otlp_codec.specs.Canonical.{canon_groups, canon_log_record}

-- the message that a request of the signal is
abbrev pub request_message : Signal → Message
request_message signals.Traces = messages.Request Spans
request_message signals.Logs = messages.Request LogRecords
request_message signals.Metrics = messages.Request Metrics

-- what the bytes of a request say
abbrev pub request_in : Signal → List ℕ → Request
request_in signals.Traces bytes = requests.Traces (groups_in span_in bytes)
request_in signals.Logs bytes = requests.Logs (groups_in log_record_in bytes)
request_in signals.Metrics bytes = requests.Metrics (groups_in metric_in bytes)

-- the defect is in the bytes of a request
abbrev pub Stands : Signal → List ℕ → Defect → Type 0
Stands signal bytes defect = defects.Stands (request_message signal) level_limit bytes defect

-- the bytes say the request, and have no defect
abbrev pub Reads : Signal → List ℕ → Request → Type 0
Reads signal bytes request = IsFine (request_message signal) level_limit bytes × (request ≡ request_in signal bytes)

-- the canonical spelling
abbrev pub canon_request : Request → List ℕ
canon_request (requests.Traces groups) = canon_groups canon_span groups
canon_request (requests.Logs groups) = canon_groups canon_log_record groups
canon_request (requests.Metrics groups) = canon_groups canon_metric groups
