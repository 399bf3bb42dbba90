-- A metric, a point and an exemplar come back from their cells.
use Rattle.std.proofs.Common.{◌≡◌, refl}
use Rattle.std.specs.Prelude.{All}
use Rattle.std.proofs.lemmas.List.Elements.{All-nil}
use Rattle.otlp_model.specs.Profile.{IsProfileMetric, IsProfileShape}
use Rattle.otlp_model.specs.Real.{IsRealMetric, IsRealShape}
use Rattle.otlp_model.specs.declared.metrics.Metric.{Metric}
use Rattle.otlp_model.specs.declared.metrics.Shape.{Shape}
use Rattle.otlp_model.specs.declared.metrics.Shape.TheVariants as shapes
use Rattle.otap_cells.specs.Cells.{nat_in}
use Rattle.otap_cells.specs.Scalars.{flag_cell, flag_in, int_cell, int_in, number_cell}
use Rattle.otap_cells.proofs.ScalarLaws.{text_back, int_back, flag_back}
use Rattle.otap_points.proofs.PointsBack.{IsBackPoint, points_again}
use Rattle.otap_metrics.specs.Metrics.{Below, hist_points_of, is_monotonic, metric_cells, metric_of, points_of, shape_of, summary_points_of, temporality_of, shape_number}

abbrev pub below_of : Shape → Below
below_of shape = record { points = points_of shape; hist_points = hist_points_of shape; summary_points = summary_points_of shape }

pub record IsBackMetric (metric : Metric) : Type 0 where
  pub again : metric_of (metric_cells metric) (below_of metric.shape) ≡ metric
  pub points : All IsBackPoint (points_of metric.shape)

shape_back : (shape : Shape)
    → shape_of (nat_in (number_cell (shape_number shape))) (int_in (int_cell (temporality_of shape))) (flag_in (flag_cell (is_monotonic shape))) (below_of shape) ≡ shape
shape_back shapes.Empty = refl
shape_back (shapes.Gauge points) = refl
shape_back (shapes.Sum points temporality monotonic) = λ i. shapes.Sum points (int_back temporality i) (flag_back monotonic i)
shape_back (shapes.Histogram points temporality) = λ i. shapes.Histogram points (int_back temporality i)
shape_back (shapes.Summary points) = refl

metric_back : (metric : Metric) → metric_of (metric_cells metric) (below_of metric.shape) ≡ metric
unfolding metric_of
metric_back metric = λ i. record metric {
  name = text_back metric.name i;
  description = text_back metric.description i;
  unit = text_back metric.unit i;
  shape = shape_back metric.shape i;
}

shape_again : (shape : Shape) → IsRealShape shape → IsProfileShape shape → All IsBackPoint (points_of shape)
shape_again shapes.Empty real is = All-nil IsBackPoint
shape_again (shapes.Gauge points) real is = points_again points real.at is.at
shape_again (shapes.Sum points temporality monotonic) real is = points_again points real.0.at is.at
shape_again (shapes.Histogram points temporality) real is = All-nil IsBackPoint
shape_again (shapes.Summary points) real is = All-nil IsBackPoint

pub metric_again : (metric : Metric) → IsRealMetric metric → IsProfileMetric metric → IsBackMetric metric
metric_again metric real is = record { again = metric_back metric; points = shape_again metric.shape real.shape is.shape }
