-- The requests of the profile: ids have their lengths and values are at most 32 deep.
use Rattle.std.specs.Prelude.{ℕ, ◌≤◌, ◌==◌, ◌||◌, Bool, length, List, IsTrue}
use Rattle.otlp_model.specs.Each.{Each}
use Rattle.otlp_model.specs.Depth.{depth_of}
use Rattle.otlp_model.specs.Limits.{depth_limit}
use Rattle.otlp_model.specs.declared.value.Value.{Value}
use Rattle.otlp_model.specs.declared.value.Pair.{Pair}
use Rattle.otlp_model.specs.declared.groups.Resource.{Resource}
use Rattle.otlp_model.specs.declared.groups.Scope.{Scope}
use Rattle.otlp_model.specs.declared.groups.ScopeGroup.{ScopeGroup}
use Rattle.otlp_model.specs.declared.groups.ResourceGroup.{ResourceGroup}
use Rattle.otlp_model.specs.declared.spans.Span.{Span}
use Rattle.otlp_model.specs.declared.spans.Event.{Event}
use Rattle.otlp_model.specs.declared.spans.Link.{Link}
use Rattle.otlp_model.specs.declared.logs.LogRecord.{LogRecord}
use Rattle.otlp_model.specs.declared.metrics.Metric.{Metric}
use Rattle.otlp_model.specs.declared.metrics.Shape.{Shape}
use Rattle.otlp_model.specs.declared.metrics.Shape.TheVariants as shapes
use Rattle.otlp_model.specs.declared.metrics.Point.{Point}
use Rattle.otlp_model.specs.declared.histograms.HistPoint.{HistPoint}
use Rattle.otlp_model.specs.declared.histograms.SumPoint.{SumPoint}
use Rattle.otlp_model.specs.declared.metrics.Exemplar.{Exemplar}
use Rattle.otlp_model.specs.declared.request.Request.{Request}
use Rattle.otlp_model.specs.declared.request.Request.TheVariants.{Traces, Logs, Metrics}

-- an id is absent or has its size: 16 bytes for a trace, 8 for a span (W3C Trace Context)
abbrev pub is_id_of : ℕ → List ℕ → Bool
is_id_of size id = (length id == 0) || (length id == size)

abbrev pub IsTraceId : List ℕ → Type 0
IsTraceId id = IsTrue (is_id_of 16 id)

abbrev pub IsSpanId : List ℕ → Type 0
IsSpanId id = IsTrue (is_id_of 8 id)

abbrev pub IsProfileValue : Value → Type 0
IsProfileValue value = depth_of value ≤ depth_limit

abbrev pub IsProfilePair : Pair → Type 0
IsProfilePair pair = IsProfileValue pair.value

pub record IsProfileEvent (event : Event) : Type 0 where
  pub pairs : Each IsProfilePair event.pairs

pub record IsProfileLink (link : Link) : Type 0 where
  pub trace_id : IsTraceId link.trace_id
  pub span_id : IsSpanId link.span_id
  pub pairs : Each IsProfilePair link.pairs

pub record IsProfileSpan (span : Span) : Type 0 where
  pub trace_id : IsTraceId span.trace_id
  pub span_id : IsSpanId span.span_id
  pub parent_span_id : IsSpanId span.parent_span_id
  pub pairs : Each IsProfilePair span.pairs
  pub events : Each IsProfileEvent span.events
  pub links : Each IsProfileLink span.links

pub record IsProfileLogRecord (log : LogRecord) : Type 0 where
  pub trace_id : IsTraceId log.trace_id
  pub span_id : IsSpanId log.span_id
  pub body : IsProfileValue log.body
  pub pairs : Each IsProfilePair log.pairs

pub record IsProfileExemplar (exemplar : Exemplar) : Type 0 where
  pub trace_id : IsTraceId exemplar.trace_id
  pub span_id : IsSpanId exemplar.span_id
  pub pairs : Each IsProfilePair exemplar.pairs

pub record IsProfilePoint (point : Point) : Type 0 where
  pub pairs : Each IsProfilePair point.pairs
  pub exemplars : Each IsProfileExemplar point.exemplars

pub record IsProfileHistPoint (point : HistPoint) : Type 0 where
  pub pairs : Each IsProfilePair point.pairs
  pub exemplars : Each IsProfileExemplar point.exemplars

pub record IsProfileSumPoint (point : SumPoint) : Type 0 where
  pub pairs : Each IsProfilePair point.pairs

abbrev pub IsProfileShape : Shape → Type 0
IsProfileShape shapes.Empty = Unit {0}
IsProfileShape (shapes.Gauge points) = Each IsProfilePoint points
IsProfileShape (shapes.Sum points temporality monotonic) = Each IsProfilePoint points
IsProfileShape (shapes.Histogram points temporality) = Each IsProfileHistPoint points
IsProfileShape (shapes.Summary points) = Each IsProfileSumPoint points

pub record IsProfileMetric (metric : Metric) : Type 0 where
  pub shape : IsProfileShape metric.shape

pub record IsProfileResource (resource : Resource) : Type 0 where
  pub pairs : Each IsProfilePair resource.pairs

pub record IsProfileScope (scope : Scope) : Type 0 where
  pub pairs : Each IsProfilePair scope.pairs

pub record IsProfileScopeGroup {I : Type 0} (IsProfileItem : I → Type 0) (group : ScopeGroup I) : Type 0 where
  pub scope : IsProfileScope group.scope
  pub items : Each IsProfileItem group.items

pub record IsProfileResourceGroup {I : Type 0} (IsProfileItem : I → Type 0) (group : ResourceGroup I) : Type 0 where
  pub resource : IsProfileResource group.resource
  pub scopes : Each (IsProfileScopeGroup IsProfileItem) group.scopes

abbrev pub IsProfile : Request → Type 0
IsProfile (Traces groups) = Each (IsProfileResourceGroup IsProfileSpan) groups
IsProfile (Logs groups) = Each (IsProfileResourceGroup IsProfileLogRecord) groups
IsProfile (Metrics groups) = Each (IsProfileResourceGroup IsProfileMetric) groups
