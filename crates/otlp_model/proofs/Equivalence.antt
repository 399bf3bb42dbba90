-- Denoting the same telemetry is an equivalence.
use Rattle.std.proofs.Common.{List, [], ◌∷◌, refl, sym, ◌∙◌, ap}
use Rattle.std.specs.List.{AllZip}
use Rattle.std.proofs.lemmas.List.Sorted.{IsPermutation-refl, IsPermutation-sym, IsPermutation-trans}
use Rattle.otlp_model.specs.Telemetry.{Item, span, log_record, metric, telemetry}
use Rattle.otlp_model.specs.Same.{SameOften, SameEvent, SameLink, SameSpan, SameLogRecord, SameExemplar, SamePoint, SameHistPoint, SameSumPoint, SameShape, SameMetric, SameResource, SameScope, SameItem, SameEntry, Same}
use Rattle.otlp_model.specs.declared.groups.Resource.{Resource}
use Rattle.otlp_model.specs.declared.groups.Scope.{Scope}
use Rattle.otlp_model.specs.declared.spans.Span.{Span}
use Rattle.otlp_model.specs.declared.spans.Event.{Event}
use Rattle.otlp_model.specs.declared.spans.Link.{Link}
use Rattle.otlp_model.specs.declared.logs.LogRecord.{LogRecord}
use Rattle.otlp_model.specs.declared.metrics.Metric.{Metric}
use Rattle.otlp_model.specs.declared.metrics.Shape.{Shape}
use Rattle.otlp_model.specs.declared.metrics.Shape.TheVariants as shapes
use Rattle.otlp_model.specs.declared.metrics.Point.{Point}
use Rattle.otlp_model.specs.declared.metrics.Exemplar.{Exemplar}
use Rattle.otlp_model.specs.declared.histograms.HistPoint.{HistPoint}
use Rattle.otlp_model.specs.declared.histograms.SumPoint.{SumPoint}

-- a relation that is reflexive, symmetric and transitive
pub record IsEquivalence {A : Type 0} (R : A → A → Type 0) : Type 0 where
  pub itself : (x : A) → R x x
  pub turned : (x y : A) → R x y → R y x
  pub joined : (x y z : A) → R x y → R y z → R x z

module _ {A : Type 0} (R : A → A → Type 0) (e : IsEquivalence R) where
  zipped_itself : (xs : List A) → AllZip R xs xs
  zipped_itself [] = tt
  zipped_itself (x ∷ xs) = (e.itself x, zipped_itself xs)

  zipped_turned : (xs ys : List A) → AllZip R xs ys → AllZip R ys xs
  zipped_turned [] [] h = tt
  zipped_turned [] (y ∷ ys) h = absurd h
  zipped_turned (x ∷ xs) [] h = absurd h
  zipped_turned (x ∷ xs) (y ∷ ys) h = (e.turned x y h.0, zipped_turned xs ys h.1)

  zipped_joined : (xs ys zs : List A) → AllZip R xs ys → AllZip R ys zs → AllZip R xs zs
  zipped_joined [] [] [] h k = tt
  zipped_joined [] [] (z ∷ zs) h k = absurd k
  zipped_joined [] (y ∷ ys) zs h k = absurd h
  zipped_joined (x ∷ xs) [] zs h k = absurd h
  zipped_joined (x ∷ xs) (y ∷ ys) [] h k = absurd k
  zipped_joined (x ∷ xs) (y ∷ ys) (z ∷ zs) h k = (e.joined x y z h.0 k.0, zipped_joined xs ys zs h.1 k.1)

  zipped : IsEquivalence (AllZip R)
  zipped = record { itself = zipped_itself; turned = zipped_turned; joined = zipped_joined }

often : IsEquivalence SameOften
unfolding SameOften
often = record {
  itself = IsPermutation-refl;
  turned = IsPermutation-sym;
  joined = IsPermutation-trans;
}

event : IsEquivalence SameEvent
event = record {
  itself = λ a. record { scalars = refl; pairs = often.itself a.pairs };
  turned = λ a b h. record {
    scalars = sym (ap {A = Event} (λ x. record x { pairs = b.pairs }) h.scalars);
    pairs = often.turned a.pairs b.pairs h.pairs;
  };
  joined = λ a b c h k. record {
    scalars = h.scalars ∙ ap {A = Event} (λ x. record x { pairs = a.pairs }) k.scalars;
    pairs = often.joined a.pairs b.pairs c.pairs h.pairs k.pairs;
  };
}

link : IsEquivalence SameLink
link = record {
  itself = λ a. record { scalars = refl; pairs = often.itself a.pairs };
  turned = λ a b h. record {
    scalars = sym (ap {A = Link} (λ x. record x { pairs = b.pairs }) h.scalars);
    pairs = often.turned a.pairs b.pairs h.pairs;
  };
  joined = λ a b c h k. record {
    scalars = h.scalars ∙ ap {A = Link} (λ x. record x { pairs = a.pairs }) k.scalars;
    pairs = often.joined a.pairs b.pairs c.pairs h.pairs k.pairs;
  };
}

events : IsEquivalence (AllZip SameEvent)
events = zipped SameEvent event

links : IsEquivalence (AllZip SameLink)
links = zipped SameLink link

span_same : IsEquivalence SameSpan
span_same = record {
  itself = λ a. record { scalars = refl; pairs = often.itself a.pairs; events = events.itself a.events; links = links.itself a.links };
  turned = λ a b h. record {
    scalars = sym (ap {A = Span} (λ x. record x { pairs = b.pairs; events = b.events; links = b.links }) h.scalars);
    pairs = often.turned a.pairs b.pairs h.pairs;
    events = events.turned a.events b.events h.events;
    links = links.turned a.links b.links h.links;
  };
  joined = λ a b c h k. record {
    scalars = h.scalars ∙ ap {A = Span} (λ x. record x { pairs = a.pairs; events = a.events; links = a.links }) k.scalars;
    pairs = often.joined a.pairs b.pairs c.pairs h.pairs k.pairs;
    events = events.joined a.events b.events c.events h.events k.events;
    links = links.joined a.links b.links c.links h.links k.links;
  };
}

log_record_same : IsEquivalence SameLogRecord
log_record_same = record {
  itself = λ a. record { scalars = refl; pairs = often.itself a.pairs };
  turned = λ a b h. record {
    scalars = sym (ap {A = LogRecord} (λ x. record x { pairs = b.pairs }) h.scalars);
    pairs = often.turned a.pairs b.pairs h.pairs;
  };
  joined = λ a b c h k. record {
    scalars = h.scalars ∙ ap {A = LogRecord} (λ x. record x { pairs = a.pairs }) k.scalars;
    pairs = often.joined a.pairs b.pairs c.pairs h.pairs k.pairs;
  };
}

exemplar : IsEquivalence SameExemplar
exemplar = record {
  itself = λ a. record { scalars = refl; pairs = often.itself a.pairs };
  turned = λ a b h. record {
    scalars = sym (ap {A = Exemplar} (λ x. record x { pairs = b.pairs }) h.scalars);
    pairs = often.turned a.pairs b.pairs h.pairs;
  };
  joined = λ a b c h k. record {
    scalars = h.scalars ∙ ap {A = Exemplar} (λ x. record x { pairs = a.pairs }) k.scalars;
    pairs = often.joined a.pairs b.pairs c.pairs h.pairs k.pairs;
  };
}

exemplars : IsEquivalence (AllZip SameExemplar)
exemplars = zipped SameExemplar exemplar

point : IsEquivalence SamePoint
point = record {
  itself = λ a. record { scalars = refl; pairs = often.itself a.pairs; exemplars = exemplars.itself a.exemplars };
  turned = λ a b h. record {
    scalars = sym (ap {A = Point} (λ x. record x { pairs = b.pairs; exemplars = b.exemplars }) h.scalars);
    pairs = often.turned a.pairs b.pairs h.pairs;
    exemplars = exemplars.turned a.exemplars b.exemplars h.exemplars;
  };
  joined = λ a b c h k. record {
    scalars = h.scalars ∙ ap {A = Point} (λ x. record x { pairs = a.pairs; exemplars = a.exemplars }) k.scalars;
    pairs = often.joined a.pairs b.pairs c.pairs h.pairs k.pairs;
    exemplars = exemplars.joined a.exemplars b.exemplars c.exemplars h.exemplars k.exemplars;
  };
}

points : IsEquivalence (AllZip SamePoint)
points = zipped SamePoint point

hist_point : IsEquivalence SameHistPoint
hist_point = record {
  itself = λ a. record { scalars = refl; pairs = often.itself a.pairs; exemplars = exemplars.itself a.exemplars };
  turned = λ a b h. record {
    scalars = sym (ap {A = HistPoint} (λ x. record x { pairs = b.pairs; exemplars = b.exemplars }) h.scalars);
    pairs = often.turned a.pairs b.pairs h.pairs;
    exemplars = exemplars.turned a.exemplars b.exemplars h.exemplars;
  };
  joined = λ a b c h k. record {
    scalars = h.scalars ∙ ap {A = HistPoint} (λ x. record x { pairs = a.pairs; exemplars = a.exemplars }) k.scalars;
    pairs = often.joined a.pairs b.pairs c.pairs h.pairs k.pairs;
    exemplars = exemplars.joined a.exemplars b.exemplars c.exemplars h.exemplars k.exemplars;
  };
}

hist_points : IsEquivalence (AllZip SameHistPoint)
hist_points = zipped SameHistPoint hist_point

sum_point : IsEquivalence SameSumPoint
sum_point = record {
  itself = λ a. record { scalars = refl; pairs = often.itself a.pairs };
  turned = λ a b h. record {
    scalars = sym (ap {A = SumPoint} (λ x. record x { pairs = b.pairs }) h.scalars);
    pairs = often.turned a.pairs b.pairs h.pairs;
  };
  joined = λ a b c h k. record {
    scalars = h.scalars ∙ ap {A = SumPoint} (λ x. record x { pairs = a.pairs }) k.scalars;
    pairs = often.joined a.pairs b.pairs c.pairs h.pairs k.pairs;
  };
}

sum_points : IsEquivalence (AllZip SameSumPoint)
sum_points = zipped SameSumPoint sum_point

shape_itself : (a : Shape) → SameShape a a
shape_itself shapes.Empty = tt
shape_itself (shapes.Gauge xs) = points.itself xs
shape_itself (shapes.Sum xs t m) = (points.itself xs, refl, refl)
shape_itself (shapes.Histogram xs t) = (hist_points.itself xs, refl)
shape_itself (shapes.Summary xs) = sum_points.itself xs

shape_turned : (a b : Shape) → SameShape a b → SameShape b a
shape_turned shapes.Empty shapes.Empty h = tt
shape_turned (shapes.Gauge xs) (shapes.Gauge ys) h = points.turned xs ys h
shape_turned (shapes.Sum xs t m) (shapes.Sum ys u n) h = (points.turned xs ys h.0, sym h.1, sym h.2)
shape_turned (shapes.Histogram xs t) (shapes.Histogram ys u) h = (hist_points.turned xs ys h.0, sym h.1)
shape_turned (shapes.Summary xs) (shapes.Summary ys) h = sum_points.turned xs ys h
shape_turned shapes.Empty (shapes.Gauge ys) h = absurd h
shape_turned shapes.Empty (shapes.Sum ys u n) h = absurd h
shape_turned shapes.Empty (shapes.Histogram ys u) h = absurd h
shape_turned shapes.Empty (shapes.Summary ys) h = absurd h
shape_turned (shapes.Gauge xs) shapes.Empty h = absurd h
shape_turned (shapes.Gauge xs) (shapes.Sum ys u n) h = absurd h
shape_turned (shapes.Gauge xs) (shapes.Histogram ys u) h = absurd h
shape_turned (shapes.Gauge xs) (shapes.Summary ys) h = absurd h
shape_turned (shapes.Sum xs t m) shapes.Empty h = absurd h
shape_turned (shapes.Sum xs t m) (shapes.Gauge ys) h = absurd h
shape_turned (shapes.Sum xs t m) (shapes.Histogram ys u) h = absurd h
shape_turned (shapes.Sum xs t m) (shapes.Summary ys) h = absurd h
shape_turned (shapes.Histogram xs t) shapes.Empty h = absurd h
shape_turned (shapes.Histogram xs t) (shapes.Gauge ys) h = absurd h
shape_turned (shapes.Histogram xs t) (shapes.Sum ys u n) h = absurd h
shape_turned (shapes.Histogram xs t) (shapes.Summary ys) h = absurd h
shape_turned (shapes.Summary xs) shapes.Empty h = absurd h
shape_turned (shapes.Summary xs) (shapes.Gauge ys) h = absurd h
shape_turned (shapes.Summary xs) (shapes.Sum ys u n) h = absurd h
shape_turned (shapes.Summary xs) (shapes.Histogram ys u) h = absurd h

shape_joined : (a b c : Shape) → SameShape a b → SameShape b c → SameShape a c
shape_joined shapes.Empty shapes.Empty c h k = k
shape_joined (shapes.Gauge xs) (shapes.Gauge ys) (shapes.Gauge zs) h k = points.joined xs ys zs h k
shape_joined (shapes.Gauge xs) (shapes.Gauge ys) shapes.Empty h k = absurd k
shape_joined (shapes.Gauge xs) (shapes.Gauge ys) (shapes.Sum zs v o) h k = absurd k
shape_joined (shapes.Gauge xs) (shapes.Gauge ys) (shapes.Histogram zs v) h k = absurd k
shape_joined (shapes.Gauge xs) (shapes.Gauge ys) (shapes.Summary zs) h k = absurd k
shape_joined (shapes.Sum xs t m) (shapes.Sum ys u n) (shapes.Sum zs v o) h k = (points.joined xs ys zs h.0 k.0, h.1 ∙ k.1, h.2 ∙ k.2)
shape_joined (shapes.Sum xs t m) (shapes.Sum ys u n) shapes.Empty h k = absurd k
shape_joined (shapes.Sum xs t m) (shapes.Sum ys u n) (shapes.Gauge zs) h k = absurd k
shape_joined (shapes.Sum xs t m) (shapes.Sum ys u n) (shapes.Histogram zs v) h k = absurd k
shape_joined (shapes.Sum xs t m) (shapes.Sum ys u n) (shapes.Summary zs) h k = absurd k
shape_joined (shapes.Histogram xs t) (shapes.Histogram ys u) (shapes.Histogram zs v) h k = (hist_points.joined xs ys zs h.0 k.0, h.1 ∙ k.1)
shape_joined (shapes.Histogram xs t) (shapes.Histogram ys u) shapes.Empty h k = absurd k
shape_joined (shapes.Histogram xs t) (shapes.Histogram ys u) (shapes.Gauge zs) h k = absurd k
shape_joined (shapes.Histogram xs t) (shapes.Histogram ys u) (shapes.Sum zs v o) h k = absurd k
shape_joined (shapes.Histogram xs t) (shapes.Histogram ys u) (shapes.Summary zs) h k = absurd k
shape_joined (shapes.Summary xs) (shapes.Summary ys) (shapes.Summary zs) h k = sum_points.joined xs ys zs h k
shape_joined (shapes.Summary xs) (shapes.Summary ys) shapes.Empty h k = absurd k
shape_joined (shapes.Summary xs) (shapes.Summary ys) (shapes.Gauge zs) h k = absurd k
shape_joined (shapes.Summary xs) (shapes.Summary ys) (shapes.Sum zs v o) h k = absurd k
shape_joined (shapes.Summary xs) (shapes.Summary ys) (shapes.Histogram zs v) h k = absurd k
shape_joined shapes.Empty (shapes.Gauge ys) c h k = absurd h
shape_joined shapes.Empty (shapes.Sum ys u n) c h k = absurd h
shape_joined shapes.Empty (shapes.Histogram ys u) c h k = absurd h
shape_joined shapes.Empty (shapes.Summary ys) c h k = absurd h
shape_joined (shapes.Gauge xs) shapes.Empty c h k = absurd h
shape_joined (shapes.Gauge xs) (shapes.Sum ys u n) c h k = absurd h
shape_joined (shapes.Gauge xs) (shapes.Histogram ys u) c h k = absurd h
shape_joined (shapes.Gauge xs) (shapes.Summary ys) c h k = absurd h
shape_joined (shapes.Sum xs t m) shapes.Empty c h k = absurd h
shape_joined (shapes.Sum xs t m) (shapes.Gauge ys) c h k = absurd h
shape_joined (shapes.Sum xs t m) (shapes.Histogram ys u) c h k = absurd h
shape_joined (shapes.Sum xs t m) (shapes.Summary ys) c h k = absurd h
shape_joined (shapes.Histogram xs t) shapes.Empty c h k = absurd h
shape_joined (shapes.Histogram xs t) (shapes.Gauge ys) c h k = absurd h
shape_joined (shapes.Histogram xs t) (shapes.Sum ys u n) c h k = absurd h
shape_joined (shapes.Histogram xs t) (shapes.Summary ys) c h k = absurd h
shape_joined (shapes.Summary xs) shapes.Empty c h k = absurd h
shape_joined (shapes.Summary xs) (shapes.Gauge ys) c h k = absurd h
shape_joined (shapes.Summary xs) (shapes.Sum ys u n) c h k = absurd h
shape_joined (shapes.Summary xs) (shapes.Histogram ys u) c h k = absurd h

shape : IsEquivalence SameShape
shape = record { itself = shape_itself; turned = shape_turned; joined = shape_joined }

metric_same : IsEquivalence SameMetric
metric_same = record {
  itself = λ a. record { scalars = refl; shape = shape.itself a.shape };
  turned = λ a b h. record {
    scalars = sym (ap {A = Metric} (λ x. record x { shape = b.shape }) h.scalars);
    shape = shape.turned a.shape b.shape h.shape;
  };
  joined = λ a b c h k. record {
    scalars = h.scalars ∙ ap {A = Metric} (λ x. record x { shape = a.shape }) k.scalars;
    shape = shape.joined a.shape b.shape c.shape h.shape k.shape;
  };
}

resource : IsEquivalence SameResource
resource = record {
  itself = λ a. record { scalars = refl; pairs = often.itself a.pairs };
  turned = λ a b h. record {
    scalars = sym (ap {A = Resource} (λ x. record x { pairs = b.pairs }) h.scalars);
    pairs = often.turned a.pairs b.pairs h.pairs;
  };
  joined = λ a b c h k. record {
    scalars = h.scalars ∙ ap {A = Resource} (λ x. record x { pairs = a.pairs }) k.scalars;
    pairs = often.joined a.pairs b.pairs c.pairs h.pairs k.pairs;
  };
}

scope : IsEquivalence SameScope
scope = record {
  itself = λ a. record { scalars = refl; pairs = often.itself a.pairs };
  turned = λ a b h. record {
    scalars = sym (ap {A = Scope} (λ x. record x { pairs = b.pairs }) h.scalars);
    pairs = often.turned a.pairs b.pairs h.pairs;
  };
  joined = λ a b c h k. record {
    scalars = h.scalars ∙ ap {A = Scope} (λ x. record x { pairs = a.pairs }) k.scalars;
    pairs = often.joined a.pairs b.pairs c.pairs h.pairs k.pairs;
  };
}

item_itself : (a : Item) → SameItem a a
item_itself (span a) = span_same.itself a
item_itself (log_record a) = log_record_same.itself a
item_itself (metric a) = metric_same.itself a

item_turned : (a b : Item) → SameItem a b → SameItem b a
item_turned (span a) (span b) h = span_same.turned a b h
item_turned (log_record a) (log_record b) h = log_record_same.turned a b h
item_turned (metric a) (metric b) h = metric_same.turned a b h
item_turned (span a) (log_record b) h = absurd h
item_turned (span a) (metric b) h = absurd h
item_turned (log_record a) (span b) h = absurd h
item_turned (log_record a) (metric b) h = absurd h
item_turned (metric a) (span b) h = absurd h
item_turned (metric a) (log_record b) h = absurd h

item_joined : (a b c : Item) → SameItem a b → SameItem b c → SameItem a c
item_joined (span a) (span b) (span c) h k = span_same.joined a b c h k
item_joined (span a) (span b) (log_record c) h k = absurd k
item_joined (span a) (span b) (metric c) h k = absurd k
item_joined (log_record a) (log_record b) (log_record c) h k = log_record_same.joined a b c h k
item_joined (log_record a) (log_record b) (span c) h k = absurd k
item_joined (log_record a) (log_record b) (metric c) h k = absurd k
item_joined (metric a) (metric b) (metric c) h k = metric_same.joined a b c h k
item_joined (metric a) (metric b) (span c) h k = absurd k
item_joined (metric a) (metric b) (log_record c) h k = absurd k
item_joined (span a) (log_record b) c h k = absurd h
item_joined (span a) (metric b) c h k = absurd h
item_joined (log_record a) (span b) c h k = absurd h
item_joined (log_record a) (metric b) c h k = absurd h
item_joined (metric a) (span b) c h k = absurd h
item_joined (metric a) (log_record b) c h k = absurd h

item : IsEquivalence SameItem
item = record { itself = item_itself; turned = item_turned; joined = item_joined }

entry : IsEquivalence (SameEntry SameItem)
entry = record {
  itself = λ a. record {
    resource = resource.itself a.resource;
    scope = scope.itself a.scope;
    item = item.itself a.item;
  };
  turned = λ a b h. record {
    resource = resource.turned a.resource b.resource h.resource;
    scope = scope.turned a.scope b.scope h.scope;
    item = item.turned a.item b.item h.item;
  };
  joined = λ a b c h k. record {
    resource = resource.joined a.resource b.resource c.resource h.resource k.resource;
    scope = scope.joined a.scope b.scope c.scope h.scope k.scope;
    item = item.joined a.item b.item c.item h.item k.item;
  };
}

pub same : IsEquivalence Same
same = record {
  itself = λ p. (zipped (SameEntry SameItem) entry).itself (telemetry p);
  turned = λ p q h. (zipped (SameEntry SameItem) entry).turned (telemetry p) (telemetry q) h;
  joined = λ p q r h k. (zipped (SameEntry SameItem) entry).joined (telemetry p) (telemetry q) (telemetry r) h k;
}
