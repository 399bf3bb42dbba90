-- Points of histograms and summaries come back from their cells.
use Rattle.std.specs.Prelude.{All}
use Rattle.std.proofs.lemmas.List.Elements.{All-nil}
use Rattle.lists.proofs.Every.{all_of_both}
use Rattle.otlp_model.specs.Profile.{IsProfileHistPoint, IsProfileMetric, IsProfileShape, IsProfileSumPoint}
use Rattle.otlp_model.specs.Real.{IsRealHistPoint, IsRealMetric, IsRealShape, IsRealSumPoint}
use Rattle.otlp_model.specs.declared.metrics.Metric.{Metric}
use Rattle.otlp_model.specs.declared.metrics.Shape.{Shape}
use Rattle.otlp_model.specs.declared.metrics.Shape.TheVariants as shapes
use Rattle.otap_metrics.specs.Metrics.{hist_points_of, summary_points_of}
use Rattle.otap_points.proofs.PointsBack.{IsBackHistPoint, IsBackSumPoint, hist_again, summary_again}

pub record AreBackPoints (metric : Metric) : Type 0 where
  pub hist_points : All IsBackHistPoint (hist_points_of metric.shape)
  pub summary_points : All IsBackSumPoint (summary_points_of metric.shape)

hists_again : (shape : Shape) → IsRealShape shape → IsProfileShape shape → All IsBackHistPoint (hist_points_of shape)
hists_again shapes.Empty real is = All-nil IsBackHistPoint
hists_again (shapes.Gauge points) real is = All-nil IsBackHistPoint
hists_again (shapes.Sum points temporality monotonic) real is = All-nil IsBackHistPoint
hists_again (shapes.Histogram points temporality) real is = all_of_both IsRealHistPoint IsProfileHistPoint IsBackHistPoint hist_again points real.0.at is.at
hists_again (shapes.Summary points) real is = All-nil IsBackHistPoint

summaries_again : (shape : Shape) → IsRealShape shape → IsProfileShape shape → All IsBackSumPoint (summary_points_of shape)
summaries_again shapes.Empty real is = All-nil IsBackSumPoint
summaries_again (shapes.Gauge points) real is = All-nil IsBackSumPoint
summaries_again (shapes.Sum points temporality monotonic) real is = All-nil IsBackSumPoint
summaries_again (shapes.Histogram points temporality) real is = All-nil IsBackSumPoint
summaries_again (shapes.Summary points) real is = all_of_both IsRealSumPoint IsProfileSumPoint IsBackSumPoint summary_again points real.at is.at

pub points_again : (metric : Metric) → IsRealMetric metric → IsProfileMetric metric → AreBackPoints metric
points_again metric real is = record {
  hist_points = hists_again metric.shape real.shape is.shape;
  summary_points = summaries_again metric.shape real.shape is.shape;
}
