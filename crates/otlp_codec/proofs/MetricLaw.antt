-- Metrics: what is written reads back, and is short.
use Rattle.std.proofs.Common.{◌≡◌, ℕ, ◌≤◌, List, true, refl, arith, ap}
use Rattle.otlp_wire.specs.Wire.{Entry}
use Rattle.otlp_messages.specs.declared.messages.Message.{Message}
use Rattle.otlp_messages.specs.declared.messages.Message.TheVariants as messages
use Rattle.otlp_codec.specs.Limits.{level_limit}
use Rattle.otlp_messages.specs.Canon.{Filled, is_laid_out}
use Rattle.otlp_model.specs.declared.metrics.Metric.{Metric}
use Rattle.otlp_model.specs.declared.metrics.Shape.{Shape}
use Rattle.otlp_model.specs.declared.metrics.Shape.TheVariants as shapes
use Rattle.otlp_model.specs.Weight.{weight_of_shape, weight_of_metric}
use Rattle.otlp_model.specs.Real.{IsRealShape, IsRealMetric}
use Rattle.otlp_model.specs.Profile.{IsProfileShape, IsProfileMetric}
use Rattle.otlp_codec.specs.Metrics.{gauge_in, sum_in, histogram_in, summary_in, as_sum, as_histogram, gauge_shape_in, sum_shape_in, histogram_shape_in, summary_shape_in, metric_in}
use Rattle.otlp_codec.specs.MetricSteps.{metric_step}
use Rattle.otlp_codec.specs.MetricSpelling.{canon_gauge, canon_sum, canon_histogram, canon_summary, shape_rows, metric_rows, canon_metric}
use Rattle.otlp_codec.specs.lemmas.MetricsPassed.{metric_passes}
use Rattle.otlp_codec.proofs.Chain.{Rows, Law, also, last, law_of, under}
use Rattle.otlp_codec.proofs.FieldLaw.{text_held}
use Rattle.otlp_codec.proofs.NumberHeld.{none_held, member_held}
use Rattle.otlp_codec.proofs.ShapeLaw.{gauge_law, sum_law, histogram_law, summary_law}

-- rows that weigh more, or have more bytes beside
within : {R P : Type 0} {m : Message} {l : ℕ} {step : R → Entry → R} {old new : R} {rows : List Filled} {w e : ℕ} (weight extra : ℕ) → Rows P m l step old new rows w e → w ≤ weight → e ≤ extra
    → Rows P m l step old new rows weight extra
within weight extra rows lighter fewer = record { back = rows.back; bound = λ few. omega (arith, rows.bound (omega (arith, few, lighter)), lighter, fewer) }

-- the rows of the oneof, of which one is filled
shape_held : {P : Type 0} (old : Metric) (shape : Shape) → IsRealShape shape → (P → IsProfileShape shape)
    → Rows P messages.Metric level_limit metric_step (record old { shape = shapes.Empty }) (record old { shape = shape }) (shape_rows shape) (weight_of_shape shape) 36
shape_held old shapes.Empty real profile =
    within 0 36
    (also (λ a r. record r { shape = a }) (none_held {read = gauge_shape_in}) refl (λ a v. refl)
    (also (λ a r. record r { shape = a }) (none_held {read = sum_shape_in}) refl (λ a v. refl)
    (also (λ a r. record r { shape = a }) (none_held {read = histogram_shape_in}) refl (λ a v. refl)
    (also (λ a r. record r { shape = a }) (none_held {read = summary_shape_in}) refl (λ a v. refl) last))))
    (omega arith) (omega arith)
shape_held old (shapes.Gauge points) real profile =
    within (weight_of_shape (shapes.Gauge points)) 36
    (also (λ a r. record r { shape = a }) (member_held messages.Metric 5 messages.Gauge gauge_in canon_gauge points gauge_shape_in refl refl refl
    (under profile (gauge_law points real)) (λ back. ap (λ ps. shapes.Gauge ps) back)) refl (λ a v. refl)
    (also (λ a r. record r { shape = a }) (none_held {read = sum_shape_in}) refl (λ a v. refl)
    (also (λ a r. record r { shape = a }) (none_held {read = histogram_shape_in}) refl (λ a v. refl)
    (also (λ a r. record r { shape = a }) (none_held {read = summary_shape_in}) refl (λ a v. refl) last))))
    (omega arith) (omega arith)
shape_held old (shapes.Sum points temporality monotonic) real profile =
    within (weight_of_shape (shapes.Sum points temporality monotonic)) 36
    (also (λ a r. record r { shape = a }) (none_held {read = gauge_shape_in}) refl (λ a v. refl)
    (also (λ a r. record r { shape = a }) (member_held messages.Metric 7 messages.Sum sum_in canon_sum (record { points = points; temporality = temporality; monotonic = monotonic }) sum_shape_in refl refl refl
    (under profile (sum_law (record { points = points; temporality = temporality; monotonic = monotonic }) real.0 real.1)) (λ back. ap as_sum back)) refl (λ a v. refl)
    (also (λ a r. record r { shape = a }) (none_held {read = histogram_shape_in}) refl (λ a v. refl)
    (also (λ a r. record r { shape = a }) (none_held {read = summary_shape_in}) refl (λ a v. refl) last))))
    (omega arith) (omega arith)
shape_held old (shapes.Histogram points temporality) real profile =
    within (weight_of_shape (shapes.Histogram points temporality)) 36
    (also (λ a r. record r { shape = a }) (none_held {read = gauge_shape_in}) refl (λ a v. refl)
    (also (λ a r. record r { shape = a }) (none_held {read = sum_shape_in}) refl (λ a v. refl)
    (also (λ a r. record r { shape = a }) (member_held messages.Metric 9 messages.Histogram histogram_in canon_histogram (record { points = points; temporality = temporality }) histogram_shape_in refl refl refl
    (under profile (histogram_law (record { points = points; temporality = temporality }) real.0 real.1)) (λ back. ap as_histogram back)) refl (λ a v. refl)
    (also (λ a r. record r { shape = a }) (none_held {read = summary_shape_in}) refl (λ a v. refl) last))))
    (omega arith) (omega arith)
shape_held old (shapes.Summary points) real profile =
    within (weight_of_shape (shapes.Summary points)) 36
    (also (λ a r. record r { shape = a }) (none_held {read = gauge_shape_in}) refl (λ a v. refl)
    (also (λ a r. record r { shape = a }) (none_held {read = sum_shape_in}) refl (λ a v. refl)
    (also (λ a r. record r { shape = a }) (none_held {read = histogram_shape_in}) refl (λ a v. refl)
    (also (λ a r. record r { shape = a }) (member_held messages.Metric 11 messages.Summary summary_in canon_summary points summary_shape_in refl refl refl
    (under profile (summary_law points real)) (λ back. ap (λ ps. shapes.Summary ps) back)) refl (λ a v. refl) last))))
    (omega arith) (omega arith)

metric_laid : (x : Metric) → is_laid_out messages.Metric (metric_rows x) ≡ true
metric_laid x = elim x.shape as (λ s. is_laid_out messages.Metric (metric_rows (record x { shape = s })) ≡ true) [
  | shapes.Empty ↦ refl
  | shapes.Gauge points ↦ refl
  | shapes.Sum points temporality monotonic ↦ refl
  | shapes.Histogram points temporality ↦ refl
  | shapes.Summary points ↦ refl
]

pub metric_law : (x : Metric) → IsRealMetric x → Law (IsProfileMetric x) messages.Metric level_limit metric_in canon_metric x (weight_of_metric x) 236
unfolding canon_metric
metric_law x real =
    let m = messages.Metric in
    law_of metric_in canon_metric
    (also (λ a r. record r { name = a }) (text_held m 1 x.name refl refl real.name) refl (λ a v. refl)
    (also (λ a r. record r { description = a }) (text_held m 2 x.description refl refl real.description) refl (λ a v. refl)
    (also (λ a r. record r { unit = a }) (text_held m 3 x.unit refl refl real.unit) refl (λ a v. refl)
    (shape_held x x.shape real.shape (λ p. p.shape)))))
    metric_passes refl (metric_laid x) (omega arith) (omega arith)
