-- The rows of metrics, points and exemplars: their cells fit their columns, and what they weigh.
use Rattle.std.proofs.Common.{◌≡◌, ◌+◌, ◌<◌, List, [], ◌∷◌, ◌++◌, length, drop, arith}
use Rattle.otlp_model.specs.declared.metrics.Metric.{Metric}
use Rattle.otlp_model.specs.declared.metrics.Shape.{Shape}
use Rattle.otlp_model.specs.declared.metrics.Shape.TheVariants as shapes
use Rattle.otap_cells.specs.declared.payload.Kind.{Kind}
use Rattle.otap_cells.specs.declared.payload.Kind.TheVariants as table
use Rattle.otap_cells.specs.declared.profile.Base.TheVariants as base
use Rattle.otap_cells.specs.Cells.{Cell, IsCellOf}
use Rattle.otap_cells.specs.Columns.{columns_of, common, metrics}
use Rattle.otap_cells.specs.Tables.{IsRow}
use Rattle.otap_groups.specs.Weighing.{cells_weight}
use Rattle.otap_groups.proofs.ProfileRows.{rows_join}
use Rattle.otap_metrics.specs.Metrics.{is_monotonic, metric_cells, temporality_of, shape_number}
use Rattle.otap_cells.proofs.ScalarLaws.{text_weighs, number_weighs, int_weighs_nothing, flag_weighs}

pub small_type : (shape : Shape) → shape_number shape < 256
small_type shapes.Empty = omega arith
small_type (shapes.Gauge points) = omega arith
small_type (shapes.Sum points temporality monotonic) = omega arith
small_type (shapes.Histogram points temporality) = omega arith
small_type (shapes.Summary points) = omega arith

-- ---- what fits

pub metric_fits : (kind : Kind) (front : List Cell) (shape name description unit temporality monotonic : Cell) → kind ≡ table.Metrics → IsRow common front
    → IsCellOf base.U8 shape → IsCellOf base.Utf8 name → IsCellOf base.Utf8 description → IsCellOf base.Utf8 unit → IsCellOf base.I32 temporality → IsCellOf base.Bool monotonic
    → IsRow (columns_of kind) (front ++ (shape ∷ name ∷ description ∷ unit ∷ temporality ∷ monotonic ∷ []))
unfolding metrics
metric_fits kind front shape name description unit temporality monotonic is f f0 f1 f2 f3 f4 f5 =
    let own : IsRow (drop 9 metrics) (shape ∷ name ∷ description ∷ unit ∷ temporality ∷ monotonic ∷ []) = (f0, (f1, (f2, (f3, (f4, (f5, tt)))))) in
    rw is (rows_join common (drop 9 metrics) front _ f own)

-- ---- what they weigh

pub metric_weighs : (metric : Metric) → cells_weight (metric_cells metric) ≡ length metric.name + length metric.description + length metric.unit
metric_weighs metric =
    let a = number_weighs (shape_number metric.shape) in
    let b = text_weighs metric.name in
    let c = text_weighs metric.description in
    let d = text_weighs metric.unit in
    let e = int_weighs_nothing (temporality_of metric.shape) in
    let f = flag_weighs (is_monotonic metric.shape) in
    omega (arith, a, b, c, d, e, f)
