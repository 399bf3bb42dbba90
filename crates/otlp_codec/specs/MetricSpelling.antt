-- The canonical spelling of metrics: the rows of each message, by ascending field number.
use Rattle.std.specs.Prelude.{ℕ, List, [], ◌∷◌, map}
use Rattle.otlp_wire.specs.Wire as wire
use Rattle.otlp_wire.specs.Wire.{FieldValue}
use Rattle.otlp_messages.specs.Canon.{Filled, row, canon, varint_row, signed_row, bool_row, fixed64_row, optional_row, packed_row, bytes_row, many_row}
use Rattle.otlp_model.specs.declared.metrics.Exemplar.{Exemplar}
use Rattle.otlp_model.specs.declared.metrics.Point.{Point}
use Rattle.otlp_model.specs.declared.histograms.HistPoint.{HistPoint}
use Rattle.otlp_model.specs.declared.histograms.Quantile.{Quantile}
use Rattle.otlp_model.specs.declared.histograms.SumPoint.{SumPoint}
use Rattle.otlp_model.specs.declared.metrics.Metric.{Metric}
use Rattle.otlp_model.specs.declared.metrics.Shape.{Shape}
use Rattle.otlp_model.specs.declared.metrics.Shape.TheVariants as shapes
use Rattle.otlp_codec.specs.declared.shapes.Sum.{Sum}
use Rattle.otlp_codec.specs.declared.shapes.Histogram.{Histogram}
use Rattle.otlp_codec.specs.Canonical.{canon_pair}
use Rattle.otlp_codec.specs.Numbers.{double_row, int_row}

abbrev pub exemplar_rows : Exemplar → List Filled
exemplar_rows exemplar =
    row 2 (fixed64_row exemplar.time)
    ∷ row 3 (double_row exemplar.value)
    ∷ row 4 (bytes_row exemplar.span_id)
    ∷ row 5 (bytes_row exemplar.trace_id)
    ∷ row 6 (int_row exemplar.value)
    ∷ row 7 (many_row (map canon_pair exemplar.pairs))
    ∷ []

unfoldable pub canon_exemplar : Exemplar → List ℕ
canon_exemplar exemplar = canon (exemplar_rows exemplar)

abbrev pub point_rows : Point → List Filled
point_rows point =
    row 2 (fixed64_row point.start)
    ∷ row 3 (fixed64_row point.time)
    ∷ row 4 (double_row point.value)
    ∷ row 5 (many_row (map canon_exemplar point.exemplars))
    ∷ row 6 (int_row point.value)
    ∷ row 7 (many_row (map canon_pair point.pairs))
    ∷ row 8 (varint_row point.flags)
    ∷ []

unfoldable pub canon_point : Point → List ℕ
canon_point point = canon (point_rows point)

abbrev pub hist_point_rows : HistPoint → List Filled
hist_point_rows point =
    row 2 (fixed64_row point.start)
    ∷ row 3 (fixed64_row point.time)
    ∷ row 4 (fixed64_row point.count)
    ∷ row 5 (optional_row point.sum)
    ∷ row 6 (packed_row point.buckets)
    ∷ row 7 (packed_row point.bounds)
    ∷ row 8 (many_row (map canon_exemplar point.exemplars))
    ∷ row 9 (many_row (map canon_pair point.pairs))
    ∷ row 10 (varint_row point.flags)
    ∷ row 11 (optional_row point.min)
    ∷ row 12 (optional_row point.max)
    ∷ []

unfoldable pub canon_hist_point : HistPoint → List ℕ
canon_hist_point point = canon (hist_point_rows point)

abbrev pub quantile_rows : Quantile → List Filled
quantile_rows quantile =
    row 1 (fixed64_row quantile.quantile)
    ∷ row 2 (fixed64_row quantile.value)
    ∷ []

unfoldable pub canon_quantile : Quantile → List ℕ
canon_quantile quantile = canon (quantile_rows quantile)

abbrev pub sum_point_rows : SumPoint → List Filled
sum_point_rows point =
    row 2 (fixed64_row point.start)
    ∷ row 3 (fixed64_row point.time)
    ∷ row 4 (fixed64_row point.count)
    ∷ row 5 (fixed64_row point.sum)
    ∷ row 6 (many_row (map canon_quantile point.quantiles))
    ∷ row 7 (many_row (map canon_pair point.pairs))
    ∷ row 8 (varint_row point.flags)
    ∷ []

unfoldable pub canon_sum_point : SumPoint → List ℕ
canon_sum_point point = canon (sum_point_rows point)

abbrev pub gauge_rows : List Point → List Filled
gauge_rows points =
    row 1 (many_row (map canon_point points))
    ∷ []

unfoldable pub canon_gauge : List Point → List ℕ
canon_gauge points = canon (gauge_rows points)

abbrev pub sum_rows : Sum → List Filled
sum_rows sum =
    row 1 (many_row (map canon_point sum.points))
    ∷ row 2 (signed_row sum.temporality)
    ∷ row 3 (bool_row sum.monotonic)
    ∷ []

unfoldable pub canon_sum : Sum → List ℕ
canon_sum sum = canon (sum_rows sum)

abbrev pub histogram_rows : Histogram → List Filled
histogram_rows histogram =
    row 1 (many_row (map canon_hist_point histogram.points))
    ∷ row 2 (signed_row histogram.temporality)
    ∷ []

unfoldable pub canon_histogram : Histogram → List ℕ
canon_histogram histogram = canon (histogram_rows histogram)

abbrev pub summary_rows : List SumPoint → List Filled
summary_rows points =
    row 1 (many_row (map canon_sum_point points))
    ∷ []

unfoldable pub canon_summary : List SumPoint → List ℕ
canon_summary points = canon (summary_rows points)

-- the members of Metric's oneof: each is written also where it is empty
abbrev pub gauge_row : Shape → List FieldValue
gauge_row (shapes.Gauge points) = wire.Bytes (canon_gauge points) ∷ []
gauge_row shape = []

abbrev pub sum_row : Shape → List FieldValue
sum_row (shapes.Sum points temporality monotonic) = wire.Bytes (canon_sum (record { points = points; temporality = temporality; monotonic = monotonic })) ∷ []
sum_row shape = []

abbrev pub histogram_row : Shape → List FieldValue
histogram_row (shapes.Histogram points temporality) = wire.Bytes (canon_histogram (record { points = points; temporality = temporality })) ∷ []
histogram_row shape = []

abbrev pub summary_row : Shape → List FieldValue
summary_row (shapes.Summary points) = wire.Bytes (canon_summary points) ∷ []
summary_row shape = []

abbrev pub shape_rows : Shape → List Filled
shape_rows shape =
    row 5 (gauge_row shape)
    ∷ row 7 (sum_row shape)
    ∷ row 9 (histogram_row shape)
    ∷ row 11 (summary_row shape)
    ∷ []

abbrev pub metric_rows : Metric → List Filled
metric_rows metric =
    row 1 (bytes_row metric.name)
    ∷ row 2 (bytes_row metric.description)
    ∷ row 3 (bytes_row metric.unit)
    ∷ shape_rows metric.shape

unfoldable pub canon_metric : Metric → List ℕ
canon_metric metric = canon (metric_rows metric)
