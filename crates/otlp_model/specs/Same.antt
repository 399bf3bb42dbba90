-- Which requests denote the same telemetry.
use Rattle.std.specs.Prelude.{◌≡◌, List, IsPermutation}
use Rattle.std.specs.List.{AllZip}
use Rattle.otlp_model.specs.Telemetry.{ItemEntry, Item, span, log_record, metric, telemetry}
use Rattle.otlp_model.specs.declared.value.Pair.{Pair}
use Rattle.otlp_model.specs.declared.groups.Resource.{Resource}
use Rattle.otlp_model.specs.declared.groups.Scope.{Scope}
use Rattle.otlp_model.specs.declared.spans.Span.{Span}
use Rattle.otlp_model.specs.declared.spans.Event.{Event}
use Rattle.otlp_model.specs.declared.spans.Link.{Link}
use Rattle.otlp_model.specs.declared.logs.LogRecord.{LogRecord}
use Rattle.otlp_model.specs.declared.metrics.Metric.{Metric}
use Rattle.otlp_model.specs.declared.metrics.Shape.{Shape}
use Rattle.otlp_model.specs.declared.metrics.Shape.TheVariants as shapes
use Rattle.otlp_model.specs.declared.metrics.Point.{Point}
use Rattle.otlp_model.specs.declared.histograms.HistPoint.{HistPoint}
use Rattle.otlp_model.specs.declared.histograms.SumPoint.{SumPoint}
use Rattle.otlp_model.specs.declared.metrics.Exemplar.{Exemplar}
use Rattle.otlp_model.specs.declared.request.Request.{Request}

-- each pair occurs equally often: the one list is the other in some order
unfoldable pub SameOften : List Pair → List Pair → Type 0
SameOften xs ys = IsPermutation xs ys

-- equal but for the order of their pairs
pub record SameEvent (a b : Event) : Type 0 where
  pub scalars : a ≡ record b { pairs = a.pairs }
  pub pairs : SameOften a.pairs b.pairs

pub record SameLink (a b : Link) : Type 0 where
  pub scalars : a ≡ record b { pairs = a.pairs }
  pub pairs : SameOften a.pairs b.pairs

-- equal but for the order of pairs, here and in its events and links
pub record SameSpan (a b : Span) : Type 0 where
  pub scalars : a ≡ record b { pairs = a.pairs; events = a.events; links = a.links }
  pub pairs : SameOften a.pairs b.pairs
  pub events : AllZip SameEvent a.events b.events
  pub links : AllZip SameLink a.links b.links

pub record SameLogRecord (a b : LogRecord) : Type 0 where
  pub scalars : a ≡ record b { pairs = a.pairs }
  pub pairs : SameOften a.pairs b.pairs

pub record SameExemplar (a b : Exemplar) : Type 0 where
  pub scalars : a ≡ record b { pairs = a.pairs }
  pub pairs : SameOften a.pairs b.pairs

pub record SamePoint (a b : Point) : Type 0 where
  pub scalars : a ≡ record b { pairs = a.pairs; exemplars = a.exemplars }
  pub pairs : SameOften a.pairs b.pairs
  pub exemplars : AllZip SameExemplar a.exemplars b.exemplars

pub record SameHistPoint (a b : HistPoint) : Type 0 where
  pub scalars : a ≡ record b { pairs = a.pairs; exemplars = a.exemplars }
  pub pairs : SameOften a.pairs b.pairs
  pub exemplars : AllZip SameExemplar a.exemplars b.exemplars

pub record SameSumPoint (a b : SumPoint) : Type 0 where
  pub scalars : a ≡ record b { pairs = a.pairs }
  pub pairs : SameOften a.pairs b.pairs

abbrev pub SameShape : Shape → Shape → Type 0
SameShape shapes.Empty shapes.Empty = Unit {0}
SameShape (shapes.Gauge xs) (shapes.Gauge ys) = AllZip SamePoint xs ys
SameShape (shapes.Sum xs t m) (shapes.Sum ys u n) = AllZip SamePoint xs ys × (t ≡ u) × (m ≡ n)
SameShape (shapes.Histogram xs t) (shapes.Histogram ys u) = AllZip SameHistPoint xs ys × (t ≡ u)
SameShape (shapes.Summary xs) (shapes.Summary ys) = AllZip SameSumPoint xs ys
SameShape _ _ = ⊥

pub record SameMetric (a b : Metric) : Type 0 where
  pub scalars : a ≡ record b { shape = a.shape }
  pub shape : SameShape a.shape b.shape

pub record SameResource (a b : Resource) : Type 0 where
  pub scalars : a ≡ record b { pairs = a.pairs }
  pub pairs : SameOften a.pairs b.pairs

pub record SameScope (a b : Scope) : Type 0 where
  pub scalars : a ≡ record b { pairs = a.pairs }
  pub pairs : SameOften a.pairs b.pairs

abbrev pub SameItem : Item → Item → Type 0
SameItem (span a) (span b) = SameSpan a b
SameItem (log_record a) (log_record b) = SameLogRecord a b
SameItem (metric a) (metric b) = SameMetric a b
SameItem _ _ = ⊥

pub record SameEntry {I : Type 0} (SameOne : I → I → Type 0) (a b : ItemEntry I) : Type 0 where
  pub resource : SameResource a.resource b.resource
  pub scope : SameScope a.scope b.scope
  pub item : SameOne a.item b.item

-- entry by entry
abbrev pub SameTelemetry : List (ItemEntry Item) → List (ItemEntry Item) → Type 0
SameTelemetry xs ys = AllZip (SameEntry SameItem) xs ys

-- both requests denote the same telemetry
abbrev pub Same : Request → Request → Type 0
Same a b = SameTelemetry (telemetry a) (telemetry b)
