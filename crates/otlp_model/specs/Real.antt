-- What a program can hold: texts are UTF-8, bytes and numbers fit their types.
use Rattle.std.specs.Prelude.{ℕ, ◌<◌, ◌^◌, ◌&&◌, Bool, true, length, List, nat_lt, IsTrue, FitsSigned, ℤ, pos, negsuc, Option, None, Some}
use Rattle.std.specs.List.{list_all}
use Rattle.std.specs.Int.{w32}
use Rattle.otlp_model.specs.Each.{Each}
use Rattle.lists.specs.Bytes.{is_real_text, is_real_octets}
use Rattle.otlp_model.specs.declared.value.Value.{Value, fold-Value}
use Rattle.otlp_model.specs.declared.value.Value.TheOpen.{Value-F, Pair-F}
use Rattle.otlp_model.specs.declared.value.Pair.{Pair}
use Rattle.otlp_model.specs.declared.groups.Resource.{Resource}
use Rattle.otlp_model.specs.declared.groups.Scope.{Scope}
use Rattle.otlp_model.specs.declared.groups.ScopeGroup.{ScopeGroup}
use Rattle.otlp_model.specs.declared.groups.ResourceGroup.{ResourceGroup}
use Rattle.otlp_model.specs.declared.spans.Span.{Span}
use Rattle.otlp_model.specs.declared.spans.Event.{Event}
use Rattle.otlp_model.specs.declared.spans.Link.{Link}
use Rattle.otlp_model.specs.declared.logs.LogRecord.{LogRecord}
use Rattle.otlp_model.specs.declared.metrics.Metric.{Metric}
use Rattle.otlp_model.specs.declared.metrics.Shape.{Shape}
use Rattle.otlp_model.specs.declared.metrics.Shape.TheVariants as shapes
use Rattle.otlp_model.specs.declared.metrics.Number.{Number}
use Rattle.otlp_model.specs.declared.metrics.Number.TheVariants as numbers
use Rattle.otlp_model.specs.declared.metrics.Point.{Point}
use Rattle.otlp_model.specs.declared.histograms.HistPoint.{HistPoint}
use Rattle.otlp_model.specs.declared.histograms.SumPoint.{SumPoint}
use Rattle.otlp_model.specs.declared.histograms.Quantile.{Quantile}
use Rattle.otlp_model.specs.declared.metrics.Exemplar.{Exemplar}
use Rattle.otlp_model.specs.declared.request.Request.{Request}
use Rattle.otlp_model.specs.declared.request.Request.TheVariants.{Traces, Logs, Metrics}

-- the number fits 64 bits in two's complement
abbrev pub fits_i64 : ℤ → Bool
fits_i64 (pos n) = nat_lt n (2 ^ 63)
fits_i64 (negsuc n) = nat_lt n (2 ^ 63)

-- whether a value is real, given whether its members are
abbrev pub real_step : Value-F Bool Bool → Bool
real_step Value-F.Empty = true
real_step (Value-F.Str text) = is_real_text text
real_step (Value-F.Bool b) = true
real_step (Value-F.Int z) = fits_i64 z
real_step (Value-F.Double bits) = nat_lt bits (2 ^ 64)
real_step (Value-F.Array members) = list_all (λ real. real) members && nat_lt (length members) (2 ^ 64)
real_step (Value-F.Map pairs) = list_all (λ real. real) pairs && nat_lt (length pairs) (2 ^ 64)
real_step (Value-F.Bytes bytes) = is_real_octets bytes

abbrev pub pair_real_step : Pair-F Bool Bool → Bool
pair_real_step pair = is_real_text pair.key && pair.value

abbrev pub is_real_value : Value → Bool
is_real_value = fold-Value Bool Bool real_step pair_real_step

abbrev pub is_real_pair : Pair → Bool
is_real_pair pair = is_real_text pair.key && is_real_value pair.value

abbrev pub are_real_pairs : List Pair → Bool
are_real_pairs pairs = list_all is_real_pair pairs

pub record IsRealEvent (event : Event) : Type 0 where
  pub time : event.time < 2 ^ 64
  pub name : IsTrue (is_real_text event.name)
  pub pairs : IsTrue (are_real_pairs event.pairs)
  pub dropped : event.dropped < 2 ^ 32

pub record IsRealLink (link : Link) : Type 0 where
  pub trace_id : IsTrue (is_real_octets link.trace_id)
  pub span_id : IsTrue (is_real_octets link.span_id)
  pub trace_state : IsTrue (is_real_text link.trace_state)
  pub flags : link.flags < 2 ^ 32
  pub pairs : IsTrue (are_real_pairs link.pairs)
  pub dropped : link.dropped < 2 ^ 32

pub record IsRealSpan (span : Span) : Type 0 where
  pub trace_id : IsTrue (is_real_octets span.trace_id)
  pub span_id : IsTrue (is_real_octets span.span_id)
  pub parent_span_id : IsTrue (is_real_octets span.parent_span_id)
  pub trace_state : IsTrue (is_real_text span.trace_state)
  pub name : IsTrue (is_real_text span.name)
  pub kind : FitsSigned w32 span.kind
  pub start : span.start < 2 ^ 64
  pub end : span.end < 2 ^ 64
  pub flags : span.flags < 2 ^ 32
  pub pairs : IsTrue (are_real_pairs span.pairs)
  pub dropped_pairs : span.dropped_pairs < 2 ^ 32
  pub events : Each IsRealEvent span.events
  pub dropped_events : span.dropped_events < 2 ^ 32
  pub links : Each IsRealLink span.links
  pub dropped_links : span.dropped_links < 2 ^ 32
  pub status_code : FitsSigned w32 span.status_code
  pub status_message : IsTrue (is_real_text span.status_message)

pub record IsRealLogRecord (log : LogRecord) : Type 0 where
  pub time : log.time < 2 ^ 64
  pub observed : log.observed < 2 ^ 64
  pub severity : FitsSigned w32 log.severity
  pub severity_text : IsTrue (is_real_text log.severity_text)
  pub body : IsTrue (is_real_value log.body)
  pub pairs : IsTrue (are_real_pairs log.pairs)
  pub dropped : log.dropped < 2 ^ 32
  pub flags : log.flags < 2 ^ 32
  pub trace_id : IsTrue (is_real_octets log.trace_id)
  pub span_id : IsTrue (is_real_octets log.span_id)
  pub event_name : IsTrue (is_real_text log.event_name)

abbrev pub is_real_number : Number → Bool
is_real_number numbers.Missing = true
is_real_number (numbers.Int z) = fits_i64 z
is_real_number (numbers.Double bits) = nat_lt bits (2 ^ 64)

pub record IsRealExemplar (exemplar : Exemplar) : Type 0 where
  pub time : exemplar.time < 2 ^ 64
  pub value : IsTrue (is_real_number exemplar.value)
  pub span_id : IsTrue (is_real_octets exemplar.span_id)
  pub trace_id : IsTrue (is_real_octets exemplar.trace_id)
  pub pairs : IsTrue (are_real_pairs exemplar.pairs)

pub record IsRealPoint (point : Point) : Type 0 where
  pub start : point.start < 2 ^ 64
  pub time : point.time < 2 ^ 64
  pub value : IsTrue (is_real_number point.value)
  pub flags : point.flags < 2 ^ 32
  pub pairs : IsTrue (are_real_pairs point.pairs)
  pub exemplars : Each IsRealExemplar point.exemplars

-- a double that is there fits 64 bits
abbrev pub is_real_optional : Option ℕ → Bool
is_real_optional None = true
is_real_optional (Some bits) = nat_lt bits (2 ^ 64)

pub record IsRealHistPoint (point : HistPoint) : Type 0 where
  pub start : point.start < 2 ^ 64
  pub time : point.time < 2 ^ 64
  pub count : point.count < 2 ^ 64
  pub sum : IsTrue (is_real_optional point.sum)
  pub buckets : Each (λ count. count < 2 ^ 64) point.buckets
  pub bounds : Each (λ bound. bound < 2 ^ 64) point.bounds
  pub min : IsTrue (is_real_optional point.min)
  pub max : IsTrue (is_real_optional point.max)
  pub flags : point.flags < 2 ^ 32
  pub pairs : IsTrue (are_real_pairs point.pairs)
  pub exemplars : Each IsRealExemplar point.exemplars

pub record IsRealQuantile (pair : Quantile) : Type 0 where
  pub quantile : pair.quantile < 2 ^ 64
  pub value : pair.value < 2 ^ 64

pub record IsRealSumPoint (point : SumPoint) : Type 0 where
  pub start : point.start < 2 ^ 64
  pub time : point.time < 2 ^ 64
  pub count : point.count < 2 ^ 64
  pub sum : point.sum < 2 ^ 64
  pub quantiles : Each IsRealQuantile point.quantiles
  pub flags : point.flags < 2 ^ 32
  pub pairs : IsTrue (are_real_pairs point.pairs)

abbrev pub IsRealShape : Shape → Type 0
IsRealShape shapes.Empty = Unit {0}
IsRealShape (shapes.Gauge points) = Each IsRealPoint points
IsRealShape (shapes.Sum points temporality monotonic) = Each IsRealPoint points × FitsSigned w32 temporality
IsRealShape (shapes.Histogram points temporality) = Each IsRealHistPoint points × FitsSigned w32 temporality
IsRealShape (shapes.Summary points) = Each IsRealSumPoint points

pub record IsRealMetric (metric : Metric) : Type 0 where
  pub name : IsTrue (is_real_text metric.name)
  pub description : IsTrue (is_real_text metric.description)
  pub unit : IsTrue (is_real_text metric.unit)
  pub shape : IsRealShape metric.shape

pub record IsRealResource (resource : Resource) : Type 0 where
  pub schema_url : IsTrue (is_real_text resource.schema_url)
  pub dropped : resource.dropped < 2 ^ 32
  pub pairs : IsTrue (are_real_pairs resource.pairs)

pub record IsRealScope (scope : Scope) : Type 0 where
  pub schema_url : IsTrue (is_real_text scope.schema_url)
  pub name : IsTrue (is_real_text scope.name)
  pub version : IsTrue (is_real_text scope.version)
  pub dropped : scope.dropped < 2 ^ 32
  pub pairs : IsTrue (are_real_pairs scope.pairs)

pub record IsRealScopeGroup {I : Type 0} (IsRealItem : I → Type 0) (group : ScopeGroup I) : Type 0 where
  pub scope : IsRealScope group.scope
  pub items : Each IsRealItem group.items

pub record IsRealResourceGroup {I : Type 0} (IsRealItem : I → Type 0) (group : ResourceGroup I) : Type 0 where
  pub resource : IsRealResource group.resource
  pub scopes : Each (IsRealScopeGroup IsRealItem) group.scopes

abbrev pub IsReal : Request → Type 0
IsReal (Traces groups) = Each (IsRealResourceGroup IsRealSpan) groups
IsReal (Logs groups) = Each (IsRealResourceGroup IsRealLogRecord) groups
IsReal (Metrics groups) = Each (IsRealResourceGroup IsRealMetric) groups
