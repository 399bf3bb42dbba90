-- What metrics say, and the messages of their oneof (OTLP, metrics.proto).
use Rattle.std.specs.Prelude.{ℕ, List, [], pos, false, fold}
use Rattle.otlp_wire.specs.Wire as wire
use Rattle.otlp_wire.specs.Wire.{FieldValue, Entry}
use Rattle.otlp_wire.specs.Fields.{fields_of}
use Rattle.otlp_messages.specs.Rows.{said, at, int32_in, bool_in, bytes_in, many_in}
use Rattle.otlp_model.specs.declared.metrics.Point.{Point}
use Rattle.otlp_model.specs.declared.histograms.SumPoint.{SumPoint}
use Rattle.otlp_model.specs.declared.metrics.Metric.{Metric}
use Rattle.otlp_model.specs.declared.metrics.Shape.{Shape}
use Rattle.otlp_model.specs.declared.metrics.Shape.TheVariants as shapes
use Rattle.otlp_codec.specs.declared.shapes.Sum.{Sum}
use Rattle.otlp_codec.specs.declared.shapes.Histogram.{Histogram}
use Rattle.otlp_codec.specs.Points.{point_in, hist_point_in, sum_point_in}

-- Gauge
unfoldable pub gauge_in : List ℕ → List Point
gauge_in bytes = said 1 (many_in point_in) [] bytes

-- Sum
unfoldable pub sum_in : List ℕ → Sum
sum_in bytes = record {
  points = said 1 (many_in point_in) [] bytes;
  temporality = said 2 int32_in (pos 0) bytes;
  monotonic = said 3 bool_in false bytes;
}

-- Histogram
unfoldable pub histogram_in : List ℕ → Histogram
histogram_in bytes = record {
  points = said 1 (many_in hist_point_in) [] bytes;
  temporality = said 2 int32_in (pos 0) bytes;
}

-- Summary
unfoldable pub summary_in : List ℕ → List SumPoint
summary_in bytes = said 1 (many_in sum_point_in) [] bytes

abbrev pub as_sum : Sum → Shape
as_sum sum = shapes.Sum sum.points sum.temporality sum.monotonic

abbrev pub as_histogram : Histogram → Shape
as_histogram histogram = shapes.Histogram histogram.points histogram.temporality

-- the members of Metric's oneof; a field of another wire type says nothing
abbrev pub gauge_shape_in : Shape → FieldValue → Shape
gauge_shape_in old (wire.Bytes part) = shapes.Gauge (gauge_in part)
gauge_shape_in old value = old

abbrev pub sum_shape_in : Shape → FieldValue → Shape
sum_shape_in old (wire.Bytes part) = as_sum (sum_in part)
sum_shape_in old value = old

abbrev pub histogram_shape_in : Shape → FieldValue → Shape
histogram_shape_in old (wire.Bytes part) = as_histogram (histogram_in part)
histogram_shape_in old value = old

abbrev pub summary_shape_in : Shape → FieldValue → Shape
summary_shape_in old (wire.Bytes part) = shapes.Summary (summary_in part)
summary_shape_in old value = old

-- the oneof, a line for each member: the member that is there
abbrev pub shape_step : Shape → Entry → Shape
shape_step old f =
    at 5 gauge_shape_in
    (at 7 sum_shape_in
    (at 9 histogram_shape_in
    (at 11 summary_shape_in old f) f) f) f

abbrev pub shape_said : List ℕ → Shape
shape_said bytes = fold shape_step shapes.Empty (fields_of bytes)

-- Metric
unfoldable pub metric_in : List ℕ → Metric
metric_in bytes = record {
  name = said 1 bytes_in [] bytes;
  description = said 2 bytes_in [] bytes;
  unit = said 3 bytes_in [] bytes;
  shape = shape_said bytes;
}
