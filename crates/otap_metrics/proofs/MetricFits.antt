-- The cells of real metrics, points and exemplars of the profile fit their columns.
use Rattle.std.proofs.Common.{drop, arith}
use Rattle.otlp_model.specs.Real.{IsRealMetric, IsRealShape}
use Rattle.otlp_model.specs.declared.metrics.Metric.{Metric}
use Rattle.otlp_model.specs.declared.metrics.Shape.{Shape}
use Rattle.otlp_model.specs.declared.metrics.Shape.TheVariants as shapes
use Rattle.otap_cells.specs.declared.profile.Base.TheVariants as base
use Rattle.otap_cells.specs.Cells.{IsCellOf}
use Rattle.otap_cells.specs.Columns.{metrics}
use Rattle.otap_cells.specs.Scalars.{int_cell, number_cell}
use Rattle.otap_cells.specs.Tables.{IsRow}
use Rattle.otap_groups.proofs.ProfileRows.{text_fits}
use Rattle.otap_attrs.proofs.CellFits.{flag_fits, small_fits}
use Rattle.otap_metrics.specs.Metrics.{is_monotonic, metric_cells, temporality_of, shape_number}

-- ---- single cells

type_fits : (shape : Shape) → IsCellOf base.U8 (number_cell (shape_number shape))
type_fits shapes.Empty = tt
type_fits (shapes.Gauge points) = omega arith
type_fits (shapes.Sum points temporality monotonic) = omega arith
type_fits (shapes.Histogram points temporality) = omega arith
type_fits (shapes.Summary points) = omega arith

temporality_fits : (shape : Shape) → IsRealShape shape → IsCellOf base.I32 (int_cell (temporality_of shape))
temporality_fits shapes.Empty real = tt
temporality_fits (shapes.Gauge points) real = tt
temporality_fits (shapes.Sum points temporality monotonic) real = small_fits temporality real.1
temporality_fits (shapes.Histogram points temporality) real = small_fits temporality real.1
temporality_fits (shapes.Summary points) real = tt

-- ---- rows

pub metric_own : (metric : Metric) → IsRealMetric metric → IsRow (drop 9 metrics) (metric_cells metric)
unfolding metrics
metric_own metric real = (
  type_fits metric.shape,
  (
    text_fits metric.name real.name,
    (
      text_fits metric.description real.description,
      (text_fits metric.unit real.unit, (temporality_fits metric.shape real.shape, (flag_fits (is_monotonic metric.shape), tt))),
    ),
  ),
)

-- ---- the ids in front
