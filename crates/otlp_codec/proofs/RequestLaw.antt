-- Requests of a signal: what is written reads back, and is short.
use Rattle.std.proofs.Common.{◌≡◌, ℕ, ◌*◌, ◌≤◌, List, length, refl, sym, ap, ◌∙◌, arith}
use Rattle.std.specs.List.{All}
use Rattle.otlp_messages.specs.declared.messages.Defect.{Defect}
use Rattle.otlp_messages.specs.declared.messages.Message.{Message}
use Rattle.otlp_messages.specs.declared.messages.Message.TheVariants as messages
use Rattle.otlp_messages.specs.Defects.{IsFine}
use Rattle.otlp_messages.specs.declared.messages.ItemKind.TheVariants.{Spans, LogRecords, Metrics}
use Rattle.otlp_model.specs.declared.request.Request.{Request}
use Rattle.otlp_model.specs.declared.request.Request.TheVariants as requests
use Rattle.otlp_model.specs.declared.request.Signal.{Signal}
use Rattle.otlp_model.specs.declared.groups.ResourceGroup.{ResourceGroup}
use Rattle.otlp_model.specs.declared.logs.LogRecord.{LogRecord}
use Rattle.otlp_model.specs.declared.spans.Span.{Span}
use Rattle.otlp_model.specs.declared.metrics.Metric.{Metric}
use Rattle.otlp_model.specs.Limits.{weight_limit}
use Rattle.otlp_model.specs.Weight.{total, weight_of, weight_of_resource_group, weight_of_span, weight_of_log_record, weight_of_metric}
use Rattle.otlp_model.specs.Real.{IsReal, IsRealResourceGroup, IsRealSpan, IsRealLogRecord, IsRealMetric}
use Rattle.otlp_model.specs.Profile.{IsProfile, IsProfileResourceGroup, IsProfileSpan, IsProfileLogRecord, IsProfileMetric}
use Rattle.otlp_model.specs.Telemetry.{signal_of}
use Rattle.otlp_codec.specs.Limits.{level_limit}
use Rattle.otlp_codec.specs.Groups.{groups_in}
use Rattle.otlp_codec.specs.Logs.{log_record_in}
use Rattle.otlp_codec.specs.Spans.{span_in}
use Rattle.otlp_codec.specs.Metrics.{metric_in}
use Rattle.otlp_codec.specs.Canonical.{canon_groups, canon_log_record}
use Rattle.otlp_codec.specs.SpanSpelling.{canon_span}
use Rattle.otlp_codec.specs.MetricSpelling.{canon_metric}
use Rattle.otlp_codec.specs.Requests.{Stands, Reads, request_in, canon_request}
use Rattle.otlp_codec.proofs.GroupLaw.{request_law}
use Rattle.otlp_codec.proofs.Chain.{Law}
use Rattle.otlp_codec.proofs.LogLaw.{log_record_law}
use Rattle.otlp_codec.proofs.SpanLaw.{span_law}
use Rattle.otlp_codec.proofs.MetricLaw.{metric_law}

pub one : (signal : Signal) (bytes : List ℕ) (q r : Request) → Reads signal bytes q → Reads signal bytes r → q ≡ r
one signal bytes q r a b = a.1 ∙ sym b.1

pub some : (signal : Signal) (bytes : List ℕ) → ((e : Defect) → Stands signal bytes e → ⊥) → (q : Request) × Reads signal bytes q
some signal bytes fine = (request_in signal bytes, (record { none = fine }, refl))

pub no_defect : (signal : Signal) (bytes : List ℕ) (q : Request) (e : Defect) → Reads signal bytes q → Stands signal bytes e → ⊥
no_defect signal bytes q e a stands = a.0.none e stands

traces_law : (groups : List (ResourceGroup Span)) → All (IsRealResourceGroup IsRealSpan) groups
    → Law (All (IsProfileResourceGroup IsProfileSpan) groups) (messages.Request Spans) level_limit (groups_in span_in) (canon_groups canon_span) groups (total 32 (weight_of_resource_group weight_of_span) groups) 0
traces_law = request_law IsRealSpan IsProfileSpan Spans span_in canon_span weight_of_span span_law

logs_law : (groups : List (ResourceGroup LogRecord)) → All (IsRealResourceGroup IsRealLogRecord) groups
    → Law (All (IsProfileResourceGroup IsProfileLogRecord) groups) (messages.Request LogRecords) level_limit (groups_in log_record_in) (canon_groups canon_log_record) groups
    (total 32 (weight_of_resource_group weight_of_log_record) groups) 0
logs_law = request_law IsRealLogRecord IsProfileLogRecord LogRecords log_record_in canon_log_record weight_of_log_record log_record_law

metrics_law : (groups : List (ResourceGroup Metric)) → All (IsRealResourceGroup IsRealMetric) groups
    → Law (All (IsProfileResourceGroup IsProfileMetric) groups) (messages.Request Metrics) level_limit (groups_in metric_in) (canon_groups canon_metric) groups
    (total 32 (weight_of_resource_group weight_of_metric) groups) 0
metrics_law = request_law IsRealMetric IsProfileMetric Metrics metric_in canon_metric weight_of_metric metric_law

-- what is written of the groups is read as the request that they are
of : {A P Q : Type 0} {m : Message} {read : List ℕ → A} {write : A → List ℕ} {x : A} {w : ℕ} (make : A → Request) → (Q → P) → Law P m level_limit read write x w 0 → Q → w ≤ weight_limit
    → IsFine m level_limit (write x) × (make x ≡ make (read (write x)))
of make profile law q few =
    let read = law.back (profile q) (omega (arith, law.bound few, few)) in
    (read.0, ap make (sym read.1))

pub short : (q : Request) → IsReal q → weight_of q ≤ weight_limit → length (canon_request q) ≤ 8 * weight_of q
short (requests.Traces groups) real few = omega (arith, (traces_law groups real.at).bound few)
short (requests.Logs groups) real few = omega (arith, (logs_law groups real.at).bound few)
short (requests.Metrics groups) real few = omega (arith, (metrics_law groups real.at).bound few)

pub back : (q : Request) → IsReal q → IsProfile q → weight_of q ≤ weight_limit → Reads (signal_of q) (canon_request q) q
back (requests.Traces groups) real profile few = of requests.Traces (λ p. p.at) (traces_law groups real.at) profile few
back (requests.Logs groups) real profile few = of requests.Logs (λ p. p.at) (logs_law groups real.at) profile few
back (requests.Metrics groups) real profile few = of requests.Metrics (λ p. p.at) (metrics_law groups real.at) profile few

pub stable : (q r : Request) → IsReal q → IsProfile q → weight_of q ≤ weight_limit → Reads (signal_of q) (canon_request q) r → canon_request r ≡ canon_request q
stable q r real profile few reads = ap canon_request (one (signal_of q) (canon_request q) r q reads (back q real profile few))
