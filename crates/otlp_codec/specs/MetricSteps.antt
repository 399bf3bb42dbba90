-- One field after another, in the words of private contracts: how the messages of metrics are read in one pass over their fields.
use Rattle.std.specs.Prelude.{List, [], None, pos, false}
use Rattle.otlp_wire.specs.Wire.{Entry}
use Rattle.otlp_messages.specs.Rows.{at, fixed64_in, uint32_in, int32_in, bool_in, optional_in, packed_in, bytes_in, many_in}
use Rattle.otlp_model.specs.declared.metrics.Number.TheVariants.{Missing}
use Rattle.otlp_model.specs.declared.metrics.Exemplar.{Exemplar}
use Rattle.otlp_model.specs.declared.metrics.Point.{Point}
use Rattle.otlp_model.specs.declared.histograms.HistPoint.{HistPoint}
use Rattle.otlp_model.specs.declared.histograms.Quantile.{Quantile}
use Rattle.otlp_model.specs.declared.histograms.SumPoint.{SumPoint}
use Rattle.otlp_model.specs.declared.metrics.Metric.{Metric}
use Rattle.otlp_model.specs.declared.metrics.Shape.TheVariants.{Empty}
use Rattle.otlp_codec.specs.declared.shapes.Sum.{Sum}
use Rattle.otlp_codec.specs.declared.shapes.Histogram.{Histogram}
use Rattle.otlp_codec.specs.Groups.{pair_in}
use Rattle.otlp_codec.specs.Numbers.{number_step}
use Rattle.otlp_codec.specs.Points.{exemplar_in, point_in, hist_point_in, quantile_in, sum_point_in}
use Rattle.otlp_codec.specs.Metrics.{shape_step}

abbrev pub no_exemplar : Exemplar
no_exemplar = record {
  time = 0;
  value = Missing;
  span_id = [];
  trace_id = [];
  pairs = [];
}

abbrev pub exemplar_step : Exemplar → Entry → Exemplar
exemplar_step old f = record {
  time = at 2 fixed64_in old.time f;
  value = number_step 3 6 old.value f;
  span_id = at 4 bytes_in old.span_id f;
  trace_id = at 5 bytes_in old.trace_id f;
  pairs = at 7 (many_in pair_in) old.pairs f;
}

abbrev pub no_point : Point
no_point = record {
  start = 0;
  time = 0;
  value = Missing;
  flags = 0;
  pairs = [];
  exemplars = [];
}

abbrev pub point_step : Point → Entry → Point
point_step old f = record {
  start = at 2 fixed64_in old.start f;
  time = at 3 fixed64_in old.time f;
  value = number_step 4 6 old.value f;
  flags = at 8 uint32_in old.flags f;
  pairs = at 7 (many_in pair_in) old.pairs f;
  exemplars = at 5 (many_in exemplar_in) old.exemplars f;
}

abbrev pub no_hist_point : HistPoint
no_hist_point = record {
  start = 0;
  time = 0;
  count = 0;
  sum = None;
  buckets = [];
  bounds = [];
  min = None;
  max = None;
  flags = 0;
  pairs = [];
  exemplars = [];
}

abbrev pub hist_point_step : HistPoint → Entry → HistPoint
hist_point_step old f = record {
  start = at 2 fixed64_in old.start f;
  time = at 3 fixed64_in old.time f;
  count = at 4 fixed64_in old.count f;
  sum = at 5 optional_in old.sum f;
  buckets = at 6 packed_in old.buckets f;
  bounds = at 7 packed_in old.bounds f;
  min = at 11 optional_in old.min f;
  max = at 12 optional_in old.max f;
  flags = at 10 uint32_in old.flags f;
  pairs = at 9 (many_in pair_in) old.pairs f;
  exemplars = at 8 (many_in exemplar_in) old.exemplars f;
}

abbrev pub no_quantile : Quantile
no_quantile = record {
  quantile = 0;
  value = 0;
}

abbrev pub quantile_step : Quantile → Entry → Quantile
quantile_step old f = record {
  quantile = at 1 fixed64_in old.quantile f;
  value = at 2 fixed64_in old.value f;
}

abbrev pub no_sum_point : SumPoint
no_sum_point = record {
  start = 0;
  time = 0;
  count = 0;
  sum = 0;
  quantiles = [];
  flags = 0;
  pairs = [];
}

abbrev pub sum_point_step : SumPoint → Entry → SumPoint
sum_point_step old f = record {
  start = at 2 fixed64_in old.start f;
  time = at 3 fixed64_in old.time f;
  count = at 4 fixed64_in old.count f;
  sum = at 5 fixed64_in old.sum f;
  quantiles = at 6 (many_in quantile_in) old.quantiles f;
  flags = at 8 uint32_in old.flags f;
  pairs = at 7 (many_in pair_in) old.pairs f;
}

abbrev pub gauge_step : List Point → Entry → List Point
gauge_step old f = at 1 (many_in point_in) old f

abbrev pub no_sum : Sum
no_sum = record {
  points = [];
  temporality = pos 0;
  monotonic = false;
}

abbrev pub sum_step : Sum → Entry → Sum
sum_step old f = record {
  points = at 1 (many_in point_in) old.points f;
  temporality = at 2 int32_in old.temporality f;
  monotonic = at 3 bool_in old.monotonic f;
}

abbrev pub no_histogram : Histogram
no_histogram = record {
  points = [];
  temporality = pos 0;
}

abbrev pub histogram_step : Histogram → Entry → Histogram
histogram_step old f = record {
  points = at 1 (many_in hist_point_in) old.points f;
  temporality = at 2 int32_in old.temporality f;
}

abbrev pub summary_step : List SumPoint → Entry → List SumPoint
summary_step old f = at 1 (many_in sum_point_in) old f

abbrev pub no_metric : Metric
no_metric = record {
  name = [];
  description = [];
  unit = [];
  shape = Empty;
}

abbrev pub metric_step : Metric → Entry → Metric
metric_step old f = record {
  name = at 1 bytes_in old.name f;
  description = at 2 bytes_in old.description f;
  unit = at 3 bytes_in old.unit f;
  shape = shape_step old.shape f;
}
