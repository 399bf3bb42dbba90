-- What points, their exemplars and their quantiles say (OTLP, metrics.proto). A double is its 64 bits.
use Rattle.std.specs.Prelude.{ℕ, List, [], None}
use Rattle.otlp_messages.specs.Rows.{said, fixed64_in, uint32_in, optional_in, packed_in, bytes_in, many_in}
use Rattle.otlp_model.specs.declared.metrics.Exemplar.{Exemplar}
use Rattle.otlp_model.specs.declared.metrics.Point.{Point}
use Rattle.otlp_model.specs.declared.histograms.HistPoint.{HistPoint}
use Rattle.otlp_model.specs.declared.histograms.Quantile.{Quantile}
use Rattle.otlp_model.specs.declared.histograms.SumPoint.{SumPoint}
use Rattle.otlp_codec.specs.Groups.{pair_in}
use Rattle.otlp_codec.specs.Numbers.{number_said}

-- Exemplar
unfoldable pub exemplar_in : List ℕ → Exemplar
exemplar_in bytes = record {
  time = said 2 fixed64_in 0 bytes;
  value = number_said 3 6 bytes;
  span_id = said 4 bytes_in [] bytes;
  trace_id = said 5 bytes_in [] bytes;
  pairs = said 7 (many_in pair_in) [] bytes;
}

-- NumberDataPoint
unfoldable pub point_in : List ℕ → Point
point_in bytes = record {
  start = said 2 fixed64_in 0 bytes;
  time = said 3 fixed64_in 0 bytes;
  value = number_said 4 6 bytes;
  flags = said 8 uint32_in 0 bytes;
  pairs = said 7 (many_in pair_in) [] bytes;
  exemplars = said 5 (many_in exemplar_in) [] bytes;
}

-- HistogramDataPoint
unfoldable pub hist_point_in : List ℕ → HistPoint
hist_point_in bytes = record {
  start = said 2 fixed64_in 0 bytes;
  time = said 3 fixed64_in 0 bytes;
  count = said 4 fixed64_in 0 bytes;
  sum = said 5 optional_in None bytes;
  buckets = said 6 packed_in [] bytes;
  bounds = said 7 packed_in [] bytes;
  min = said 11 optional_in None bytes;
  max = said 12 optional_in None bytes;
  flags = said 10 uint32_in 0 bytes;
  pairs = said 9 (many_in pair_in) [] bytes;
  exemplars = said 8 (many_in exemplar_in) [] bytes;
}

-- ValueAtQuantile
unfoldable pub quantile_in : List ℕ → Quantile
quantile_in bytes = record {
  quantile = said 1 fixed64_in 0 bytes;
  value = said 2 fixed64_in 0 bytes;
}

-- SummaryDataPoint
unfoldable pub sum_point_in : List ℕ → SumPoint
sum_point_in bytes = record {
  start = said 2 fixed64_in 0 bytes;
  time = said 3 fixed64_in 0 bytes;
  count = said 4 fixed64_in 0 bytes;
  sum = said 5 fixed64_in 0 bytes;
  quantiles = said 6 (many_in quantile_in) [] bytes;
  flags = said 8 uint32_in 0 bytes;
  pairs = said 7 (many_in pair_in) [] bytes;
}
