-- What telemetry weighs: its texts and byte strings, and a number for each part, each bucket count and bound, and each quantile.
use Rattle.std.specs.Prelude.{ℕ, ◌+◌, ◌*◌, length, List, [], ◌∷◌}
use Rattle.otlp_model.specs.Limits.{part_weight, number_weight, quantile_weight}
use Rattle.otlp_model.specs.declared.value.Value.{Value, fold-Value}
use Rattle.otlp_model.specs.declared.value.Value.TheOpen.{Value-F, Pair-F}
use Rattle.otlp_model.specs.declared.value.Pair.{Pair}
use Rattle.otlp_model.specs.declared.groups.Resource.{Resource}
use Rattle.otlp_model.specs.declared.groups.Scope.{Scope}
use Rattle.otlp_model.specs.declared.groups.ScopeGroup.{ScopeGroup}
use Rattle.otlp_model.specs.declared.groups.ResourceGroup.{ResourceGroup}
use Rattle.otlp_model.specs.declared.spans.Span.{Span}
use Rattle.otlp_model.specs.declared.spans.Event.{Event}
use Rattle.otlp_model.specs.declared.spans.Link.{Link}
use Rattle.otlp_model.specs.declared.logs.LogRecord.{LogRecord}
use Rattle.otlp_model.specs.declared.metrics.Metric.{Metric}
use Rattle.otlp_model.specs.declared.metrics.Shape.{Shape}
use Rattle.otlp_model.specs.declared.metrics.Shape.TheVariants as shapes
use Rattle.otlp_model.specs.declared.metrics.Point.{Point}
use Rattle.otlp_model.specs.declared.histograms.HistPoint.{HistPoint}
use Rattle.otlp_model.specs.declared.histograms.SumPoint.{SumPoint}
use Rattle.otlp_model.specs.declared.histograms.Quantile.{Quantile}
use Rattle.otlp_model.specs.declared.metrics.Exemplar.{Exemplar}
use Rattle.otlp_model.specs.declared.request.Request.{Request}
use Rattle.otlp_model.specs.declared.request.Request.TheVariants.{Traces, Logs, Metrics}

-- for each part its own weight, and a number that each part adds
abbrev pub total : {A : Type 0} → ℕ → (A → ℕ) → List A → ℕ
total each weigh [] = 0
total each weigh (part ∷ parts) = each + weigh part + total each weigh parts

-- the weight of a value whose members have these weights
abbrev pub weight_step : Value-F ℕ ℕ → ℕ
weight_step (Value-F.Str text) = length text
weight_step (Value-F.Bytes bytes) = length bytes
weight_step (Value-F.Array members) = total part_weight (λ weight. weight) members
weight_step (Value-F.Map pairs) = total part_weight (λ weight. weight) pairs
weight_step _ = 0

abbrev pub pair_weight_step : Pair-F ℕ ℕ → ℕ
pair_weight_step pair = length pair.key + pair.value

abbrev pub weight_of_value : Value → ℕ
weight_of_value = fold-Value ℕ ℕ weight_step pair_weight_step

abbrev pub weight_of_pair : Pair → ℕ
weight_of_pair pair = length pair.key + weight_of_value pair.value

abbrev pub weight_of_event : Event → ℕ
weight_of_event event = length event.name + total part_weight weight_of_pair event.pairs

abbrev pub weight_of_link : Link → ℕ
weight_of_link link =
    length link.trace_id + length link.span_id + length link.trace_state + total part_weight weight_of_pair link.pairs

abbrev pub weight_of_span : Span → ℕ
weight_of_span span =
    length span.trace_id + length span.span_id + length span.parent_span_id + length span.trace_state
    + length span.name + length span.status_message
    + total part_weight weight_of_pair span.pairs + total part_weight weight_of_event span.events + total part_weight weight_of_link span.links

abbrev pub weight_of_log_record : LogRecord → ℕ
weight_of_log_record log =
    length log.severity_text + length log.trace_id + length log.span_id + length log.event_name
    + weight_of_value log.body + total part_weight weight_of_pair log.pairs

abbrev pub weight_of_exemplar : Exemplar → ℕ
weight_of_exemplar exemplar =
    length exemplar.span_id + length exemplar.trace_id + total part_weight weight_of_pair exemplar.pairs

abbrev pub weight_of_point : Point → ℕ
weight_of_point point = total part_weight weight_of_pair point.pairs + total part_weight weight_of_exemplar point.exemplars

abbrev pub weight_of_hist_point : HistPoint → ℕ
weight_of_hist_point point =
    number_weight * length point.buckets + number_weight * length point.bounds
    + total part_weight weight_of_pair point.pairs + total part_weight weight_of_exemplar point.exemplars

-- a quantile has no texts
abbrev pub weight_of_quantile : Quantile → ℕ
weight_of_quantile quantile = 0

abbrev pub weight_of_sum_point : SumPoint → ℕ
weight_of_sum_point point = total quantile_weight weight_of_quantile point.quantiles + total part_weight weight_of_pair point.pairs

abbrev pub weight_of_shape : Shape → ℕ
weight_of_shape shapes.Empty = 0
weight_of_shape (shapes.Gauge points) = total part_weight weight_of_point points
weight_of_shape (shapes.Sum points temporality monotonic) = total part_weight weight_of_point points
weight_of_shape (shapes.Histogram points temporality) = total part_weight weight_of_hist_point points
weight_of_shape (shapes.Summary points) = total part_weight weight_of_sum_point points

abbrev pub weight_of_metric : Metric → ℕ
weight_of_metric metric =
    length metric.name + length metric.description + length metric.unit + weight_of_shape metric.shape

abbrev pub weight_of_resource : Resource → ℕ
weight_of_resource resource = length resource.schema_url + total part_weight weight_of_pair resource.pairs

abbrev pub weight_of_scope : Scope → ℕ
weight_of_scope scope =
    length scope.schema_url + length scope.name + length scope.version + total part_weight weight_of_pair scope.pairs

abbrev pub weight_of_scope_group : {I : Type 0} → (I → ℕ) → ScopeGroup I → ℕ
weight_of_scope_group weigh group = weight_of_scope group.scope + total part_weight weigh group.items

abbrev pub weight_of_resource_group : {I : Type 0} → (I → ℕ) → ResourceGroup I → ℕ
weight_of_resource_group weigh group = weight_of_resource group.resource + total part_weight (weight_of_scope_group weigh) group.scopes

abbrev pub weight_of : Request → ℕ
weight_of (Traces groups) = total part_weight (weight_of_resource_group weight_of_span) groups
weight_of (Logs groups) = total part_weight (weight_of_resource_group weight_of_log_record) groups
weight_of (Metrics groups) = total part_weight (weight_of_resource_group weight_of_metric) groups
