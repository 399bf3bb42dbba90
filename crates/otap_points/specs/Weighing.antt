-- What the rows of points and exemplars weigh with all that is below them.
use Rattle.std.specs.Prelude.{ℕ, ◌+◌, sum_by}
use Rattle.otlp_model.specs.declared.histograms.HistPoint.{HistPoint}
use Rattle.otlp_model.specs.declared.histograms.SumPoint.{SumPoint}
use Rattle.otlp_model.specs.declared.metrics.Exemplar.{Exemplar}
use Rattle.otlp_model.specs.declared.metrics.Point.{Point}
use Rattle.otap_cells.specs.Limits.{row_unit}
use Rattle.otap_groups.specs.Weighing.{cells_weight, parts_weight}
use Rattle.otap_attrs.specs.Values.{pair_cells}
use Rattle.otap_points.specs.Points.{exemplar_cells, hist_point_cells, point_cells, sum_point_cells}

abbrev pub exemplar_weight : Exemplar → ℕ
exemplar_weight exemplar = row_unit + cells_weight (exemplar_cells exemplar) + parts_weight pair_cells exemplar.pairs

abbrev pub point_weight : Point → ℕ
point_weight point = row_unit + cells_weight (point_cells point) + (parts_weight pair_cells point.pairs + sum_by exemplar_weight point.exemplars)

abbrev pub hist_point_weight : HistPoint → ℕ
hist_point_weight point = row_unit + cells_weight (hist_point_cells point) + (parts_weight pair_cells point.pairs + sum_by exemplar_weight point.exemplars)

abbrev pub summary_point_weight : SumPoint → ℕ
summary_point_weight point = row_unit + cells_weight (sum_point_cells point) + parts_weight pair_cells point.pairs
