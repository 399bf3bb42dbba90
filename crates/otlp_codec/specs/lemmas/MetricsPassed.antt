-- What one pass over the fields of a message of metrics gives is what it says. Here, since an impl cites it, which can cite specs alone.
use Rattle.std.proofs.Common.{◌≡◌, ℕ, List, [], refl}
use Rattle.std.specs.Prelude.{fold}
use Rattle.otlp_wire.specs.Fields.{fields_of}
use Rattle.otlp_messages.specs.Rows.{fixed64_in, uint32_in, int32_in, bool_in, optional_in, packed_in, bytes_in, many_in}
use Rattle.otlp_messages.proofs.Parts.{part_of}
use Rattle.otlp_codec.specs.Groups.{pair_in}
use Rattle.otlp_codec.specs.Numbers.{number_step}
use Rattle.otlp_codec.specs.Points.{exemplar_in, point_in, hist_point_in, quantile_in, sum_point_in}
use Rattle.otlp_codec.specs.Metrics.{gauge_in, sum_in, histogram_in, summary_in, shape_step, metric_in}
use Rattle.otlp_codec.specs.MetricSteps.{no_exemplar, exemplar_step, no_point, point_step, no_hist_point, hist_point_step, no_quantile, quantile_step, no_sum_point}
use Rattle.otlp_codec.specs.MetricSteps.{sum_point_step, gauge_step, no_sum, sum_step, no_histogram, histogram_step, summary_step, no_metric, metric_step}
use Rattle.otlp_codec.specs.lemmas.Passed.{goes_by}

pub exemplar_passes : (bytes : List ℕ) → fold exemplar_step no_exemplar (fields_of bytes) ≡ exemplar_in bytes
unfolding exemplar_in
exemplar_passes bytes =
    let fs = fields_of bytes in
    λ i. record {
      time = part_of exemplar_step (λ r. r.time) 2 fixed64_in (λ r f. refl) no_exemplar fs i;
      value = goes_by exemplar_step (λ r. r.value) (number_step 3 6) (λ r f. refl) no_exemplar fs i;
      span_id = part_of exemplar_step (λ r. r.span_id) 4 bytes_in (λ r f. refl) no_exemplar fs i;
      trace_id = part_of exemplar_step (λ r. r.trace_id) 5 bytes_in (λ r f. refl) no_exemplar fs i;
      pairs = part_of exemplar_step (λ r. r.pairs) 7 (many_in pair_in) (λ r f. refl) no_exemplar fs i;
    }

pub point_passes : (bytes : List ℕ) → fold point_step no_point (fields_of bytes) ≡ point_in bytes
unfolding point_in
point_passes bytes =
    let fs = fields_of bytes in
    λ i. record {
      start = part_of point_step (λ r. r.start) 2 fixed64_in (λ r f. refl) no_point fs i;
      time = part_of point_step (λ r. r.time) 3 fixed64_in (λ r f. refl) no_point fs i;
      value = goes_by point_step (λ r. r.value) (number_step 4 6) (λ r f. refl) no_point fs i;
      flags = part_of point_step (λ r. r.flags) 8 uint32_in (λ r f. refl) no_point fs i;
      pairs = part_of point_step (λ r. r.pairs) 7 (many_in pair_in) (λ r f. refl) no_point fs i;
      exemplars = part_of point_step (λ r. r.exemplars) 5 (many_in exemplar_in) (λ r f. refl) no_point fs i;
    }

pub hist_point_passes : (bytes : List ℕ) → fold hist_point_step no_hist_point (fields_of bytes) ≡ hist_point_in bytes
unfolding hist_point_in
hist_point_passes bytes =
    let fs = fields_of bytes in
    λ i. record {
      start = part_of hist_point_step (λ r. r.start) 2 fixed64_in (λ r f. refl) no_hist_point fs i;
      time = part_of hist_point_step (λ r. r.time) 3 fixed64_in (λ r f. refl) no_hist_point fs i;
      count = part_of hist_point_step (λ r. r.count) 4 fixed64_in (λ r f. refl) no_hist_point fs i;
      sum = part_of hist_point_step (λ r. r.sum) 5 optional_in (λ r f. refl) no_hist_point fs i;
      buckets = part_of hist_point_step (λ r. r.buckets) 6 packed_in (λ r f. refl) no_hist_point fs i;
      bounds = part_of hist_point_step (λ r. r.bounds) 7 packed_in (λ r f. refl) no_hist_point fs i;
      min = part_of hist_point_step (λ r. r.min) 11 optional_in (λ r f. refl) no_hist_point fs i;
      max = part_of hist_point_step (λ r. r.max) 12 optional_in (λ r f. refl) no_hist_point fs i;
      flags = part_of hist_point_step (λ r. r.flags) 10 uint32_in (λ r f. refl) no_hist_point fs i;
      pairs = part_of hist_point_step (λ r. r.pairs) 9 (many_in pair_in) (λ r f. refl) no_hist_point fs i;
      exemplars = part_of hist_point_step (λ r. r.exemplars) 8 (many_in exemplar_in) (λ r f. refl) no_hist_point fs i;
    }

pub quantile_passes : (bytes : List ℕ) → fold quantile_step no_quantile (fields_of bytes) ≡ quantile_in bytes
unfolding quantile_in
quantile_passes bytes =
    let fs = fields_of bytes in
    λ i. record {
      quantile = part_of quantile_step (λ r. r.quantile) 1 fixed64_in (λ r f. refl) no_quantile fs i;
      value = part_of quantile_step (λ r. r.value) 2 fixed64_in (λ r f. refl) no_quantile fs i;
    }

pub sum_point_passes : (bytes : List ℕ) → fold sum_point_step no_sum_point (fields_of bytes) ≡ sum_point_in bytes
unfolding sum_point_in
sum_point_passes bytes =
    let fs = fields_of bytes in
    λ i. record {
      start = part_of sum_point_step (λ r. r.start) 2 fixed64_in (λ r f. refl) no_sum_point fs i;
      time = part_of sum_point_step (λ r. r.time) 3 fixed64_in (λ r f. refl) no_sum_point fs i;
      count = part_of sum_point_step (λ r. r.count) 4 fixed64_in (λ r f. refl) no_sum_point fs i;
      sum = part_of sum_point_step (λ r. r.sum) 5 fixed64_in (λ r f. refl) no_sum_point fs i;
      quantiles = part_of sum_point_step (λ r. r.quantiles) 6 (many_in quantile_in) (λ r f. refl) no_sum_point fs i;
      flags = part_of sum_point_step (λ r. r.flags) 8 uint32_in (λ r f. refl) no_sum_point fs i;
      pairs = part_of sum_point_step (λ r. r.pairs) 7 (many_in pair_in) (λ r f. refl) no_sum_point fs i;
    }

pub gauge_passes : (bytes : List ℕ) → fold gauge_step [] (fields_of bytes) ≡ gauge_in bytes
unfolding gauge_in
gauge_passes bytes = part_of gauge_step (λ r. r) 1 (many_in point_in) (λ r f. refl) [] (fields_of bytes)

pub sum_passes : (bytes : List ℕ) → fold sum_step no_sum (fields_of bytes) ≡ sum_in bytes
unfolding sum_in
sum_passes bytes =
    let fs = fields_of bytes in
    λ i. record {
      points = part_of sum_step (λ r. r.points) 1 (many_in point_in) (λ r f. refl) no_sum fs i;
      temporality = part_of sum_step (λ r. r.temporality) 2 int32_in (λ r f. refl) no_sum fs i;
      monotonic = part_of sum_step (λ r. r.monotonic) 3 bool_in (λ r f. refl) no_sum fs i;
    }

pub histogram_passes : (bytes : List ℕ) → fold histogram_step no_histogram (fields_of bytes) ≡ histogram_in bytes
unfolding histogram_in
histogram_passes bytes =
    let fs = fields_of bytes in
    λ i. record {
      points = part_of histogram_step (λ r. r.points) 1 (many_in hist_point_in) (λ r f. refl) no_histogram fs i;
      temporality = part_of histogram_step (λ r. r.temporality) 2 int32_in (λ r f. refl) no_histogram fs i;
    }

pub summary_passes : (bytes : List ℕ) → fold summary_step [] (fields_of bytes) ≡ summary_in bytes
unfolding summary_in
summary_passes bytes = part_of summary_step (λ r. r) 1 (many_in sum_point_in) (λ r f. refl) [] (fields_of bytes)

pub metric_passes : (bytes : List ℕ) → fold metric_step no_metric (fields_of bytes) ≡ metric_in bytes
unfolding metric_in
metric_passes bytes =
    let fs = fields_of bytes in
    λ i. record {
      name = part_of metric_step (λ r. r.name) 1 bytes_in (λ r f. refl) no_metric fs i;
      description = part_of metric_step (λ r. r.description) 2 bytes_in (λ r f. refl) no_metric fs i;
      unit = part_of metric_step (λ r. r.unit) 3 bytes_in (λ r f. refl) no_metric fs i;
      shape = goes_by metric_step (λ r. r.shape) shape_step (λ r f. refl) no_metric fs i;
    }
