-- What is read is within the profile: of requests.
use Rattle.std.proofs.Common.{ℕ, List}
use Rattle.otlp_messages.specs.declared.messages.ItemKind.TheVariants.{Spans, LogRecords, Metrics}
use Rattle.otlp_messages.specs.Defects.{IsFine}
use Rattle.otlp_model.specs.declared.request.Signal.{Signal}
use Rattle.otlp_model.specs.declared.request.Signal.TheVariants as signals
use Rattle.otlp_model.specs.Profile.{IsProfileLogRecord, IsProfileSpan, IsProfileMetric, IsProfile}
use Rattle.otlp_codec.specs.Limits.{level_limit}
use Rattle.otlp_codec.specs.Logs.{log_record_in}
use Rattle.otlp_codec.specs.Spans.{span_in}
use Rattle.otlp_codec.specs.Metrics.{metric_in}
use Rattle.otlp_codec.specs.Requests.{request_message, request_in}
use Rattle.otlp_codec.proofs.ProfileLaw.{log_record_profile, span_profile, groups_profile}
use Rattle.otlp_codec.proofs.MetricProfile.{metric_profile}

pub request_profile : (signal : Signal) (bytes : List ℕ) → IsFine (request_message signal) level_limit bytes → IsProfile (request_in signal bytes)
request_profile signals.Traces bytes fine = groups_profile IsProfileSpan Spans span_in span_profile bytes fine
request_profile signals.Logs bytes fine = groups_profile IsProfileLogRecord LogRecords log_record_in log_record_profile bytes fine
request_profile signals.Metrics bytes fine = groups_profile IsProfileMetric Metrics metric_in metric_profile bytes fine
