-- What rows weigh: a metric's own cells, and the rows of all that is below it.
use Rattle.std.specs.Prelude.{ℕ, ◌+◌, sum_by}
use Rattle.otlp_model.specs.declared.metrics.Metric.{Metric}
use Rattle.otlp_model.specs.declared.metrics.Shape.{Shape}
use Rattle.otap_groups.specs.Weighing.{cells_weight}
use Rattle.otap_points.specs.Weighing.{hist_point_weight, point_weight, summary_point_weight}
use Rattle.otap_metrics.specs.Metrics.{hist_points_of, metric_cells, points_of, summary_points_of}

-- the rows of the points of a shape, each with its row unit
abbrev pub points_weight : Shape → ℕ
points_weight shape = sum_by point_weight (points_of shape) + sum_by hist_point_weight (hist_points_of shape) + sum_by summary_point_weight (summary_points_of shape)

-- a metric's own cells, without its row unit and the cells of its resource and scope, and those rows
abbrev pub metric_weight : Metric → ℕ
metric_weight metric = cells_weight (metric_cells metric) + points_weight metric.shape
