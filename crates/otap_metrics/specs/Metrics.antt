-- Metrics as rows: the cells of a metric's own columns, and the metric that such cells make.
use Rattle.std.specs.Prelude.{ℕ, ℤ, pos, Bool, false, List, [], ◌∷◌, if◌then◌else◌, ◌==◌, codes}
use Rattle.otlp_model.specs.declared.histograms.HistPoint.{HistPoint}
use Rattle.otlp_model.specs.declared.histograms.SumPoint.{SumPoint}
use Rattle.otlp_model.specs.declared.metrics.Metric.{Metric}
use Rattle.otlp_model.specs.declared.metrics.Point.{Point}
use Rattle.otlp_model.specs.declared.metrics.Shape.{Shape}
use Rattle.otlp_model.specs.declared.metrics.Shape.TheVariants as shapes
use Rattle.otap_cells.specs.ByName.{cell_of}
use Rattle.otap_cells.specs.Cells.{Cell, bytes_in, nat_in}
use Rattle.otap_cells.specs.Columns.{own_metrics}
use Rattle.otap_cells.specs.Scalars.{text_cell, number_cell, int_cell, flag_cell, int_in, flag_in}

-- ---- what a metric is written as

-- the number of its shape; 4 is an exponential histogram, which the profile doesn't have
abbrev pub shape_number : Shape → ℕ
shape_number shapes.Empty = 0
shape_number (shapes.Gauge points) = 1
shape_number (shapes.Sum points temporality monotonic) = 2
shape_number (shapes.Histogram points temporality) = 3
shape_number (shapes.Summary points) = 5

abbrev pub temporality_of : Shape → ℤ
temporality_of (shapes.Sum points temporality monotonic) = temporality
temporality_of (shapes.Histogram points temporality) = temporality
temporality_of _ = pos 0

abbrev pub is_monotonic : Shape → Bool
is_monotonic (shapes.Sum points temporality monotonic) = monotonic
is_monotonic _ = false

abbrev pub metric_cells : Metric → List Cell
metric_cells metric =
    number_cell (shape_number metric.shape) ∷ text_cell metric.name ∷ text_cell metric.description ∷ text_cell metric.unit
    ∷ int_cell (temporality_of metric.shape) ∷ flag_cell (is_monotonic metric.shape) ∷ []

-- the points of gauges and sums, of histograms, and of summaries; other shapes have none
abbrev pub points_of : Shape → List Point
points_of (shapes.Gauge points) = points
points_of (shapes.Sum points temporality monotonic) = points
points_of _ = []

abbrev pub hist_points_of : Shape → List HistPoint
hist_points_of (shapes.Histogram points temporality) = points
hist_points_of _ = []

abbrev pub summary_points_of : Shape → List SumPoint
summary_points_of (shapes.Summary points) = points
summary_points_of _ = []

-- ---- what it is read as

-- the points that are found below a metric
pub record Below : Type 0 where
  pub points : List Point
  pub hist_points : List HistPoint
  pub summary_points : List SumPoint

-- the shape of a number; sums and histograms have a temporality, sums alone are monotonic or not, and what a shape doesn't have is
-- passed over. Any other number reads as no shape; a table with one but 0 isn't clean
abbrev pub shape_of : ℕ → ℤ → Bool → Below → Shape
shape_of number temporality monotonic below =
    if number == 1 then shapes.Gauge below.points
    else if number == 2 then shapes.Sum below.points temporality monotonic
    else if number == 3 then shapes.Histogram below.hist_points temporality
    else if number == 5 then shapes.Summary below.summary_points
    else shapes.Empty

-- THE METRIC that cells and points make; null reads as the default
unfoldable pub metric_of : List Cell → Below → Metric
metric_of cells below = record {
  name = bytes_in (cell_of own_metrics (codes "name") cells);
  description = bytes_in (cell_of own_metrics (codes "description") cells);
  unit = bytes_in (cell_of own_metrics (codes "unit") cells);
  shape = shape_of
      (nat_in (cell_of own_metrics (codes "metric_type") cells))
      (int_in (cell_of own_metrics (codes "aggregation_temporality") cells))
      (flag_in (cell_of own_metrics (codes "is_monotonic") cells))
      below;
}
