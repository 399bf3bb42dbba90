-- Which metrics can be written: a condition of writing and of weighing their rows.
use Rattle.std.specs.Prelude.{All}
use Rattle.otlp_model.specs.declared.metrics.Metric.{Metric}
use Rattle.otap_points.specs.Writable.{CanWriteHistPoint, CanWritePoint, CanWriteSumPoint}
use Rattle.otap_metrics.specs.Metrics.{hist_points_of, points_of, summary_points_of}

-- each of its points can be written
pub record CanWriteMetric (metric : Metric) : Type 0 where
  pub points : All CanWritePoint (points_of metric.shape)
  pub hist_points : All CanWriteHistPoint (hist_points_of metric.shape)
  pub summary_points : All CanWriteSumPoint (summary_points_of metric.shape)
