-- The points of all shapes, and exemplars, as rows: the cells of their own columns, and what such cells make.
use Rattle.std.specs.Prelude.{ℕ, List, [], ◌∷◌, Option, None, Some, codes, map}
use Rattle.otlp_model.specs.declared.histograms.HistPoint.{HistPoint}
use Rattle.otlp_model.specs.declared.histograms.Quantile.{Quantile}
use Rattle.otlp_model.specs.declared.histograms.SumPoint.{SumPoint}
use Rattle.otlp_model.specs.declared.metrics.Exemplar.{Exemplar}
use Rattle.otlp_model.specs.declared.metrics.Point.{Point}
use Rattle.otlp_model.specs.declared.value.Pair.{Pair}
use Rattle.otap_cells.specs.ByName.{cell_of}
use Rattle.otap_cells.specs.Cells.{Cell, null, bits, bytes_in, nat_in}
use Rattle.otap_cells.specs.Columns.{own_exemplars, own_hist_points, own_number_points, own_summary_points}
use Rattle.otap_cells.specs.Scalars.{text_cell, number_cell, bits_cell, bits_in}
use Rattle.otap_points.specs.Lists.{list_cell, list_in}
use Rattle.otap_points.specs.Numbers.{double_value, int_value, measured_in}

-- ---- exemplars

abbrev pub exemplar_cells : Exemplar → List Cell
exemplar_cells exemplar =
    bits_cell exemplar.time ∷ int_value exemplar.value ∷ double_value exemplar.value ∷ text_cell exemplar.span_id ∷ text_cell exemplar.trace_id ∷ []

-- THE EXEMPLAR that cells and pairs make
unfoldable pub exemplar_of : List Cell → List Pair → Exemplar
exemplar_of cells pairs = record {
  time = bits_in (cell_of own_exemplars (codes "time_unix_nano") cells);
  value = measured_in
      (cell_of own_exemplars (codes "int_value") cells)
      (cell_of own_exemplars (codes "double_value") cells);
  span_id = bytes_in (cell_of own_exemplars (codes "span_id") cells);
  trace_id = bytes_in (cell_of own_exemplars (codes "trace_id") cells);
  pairs = pairs;
}

-- ---- points of gauges and sums

abbrev pub point_cells : Point → List Cell
point_cells point =
    bits_cell point.start ∷ bits_cell point.time ∷ int_value point.value ∷ double_value point.value ∷ number_cell point.flags ∷ []

-- THE POINT that cells, pairs and exemplars make; null reads as the default
unfoldable pub point_of : List Cell → List Pair → List Exemplar → Point
point_of cells pairs exemplars = record {
  start = bits_in (cell_of own_number_points (codes "start_time_unix_nano") cells);
  time = bits_in (cell_of own_number_points (codes "time_unix_nano") cells);
  value = measured_in
      (cell_of own_number_points (codes "int_value") cells)
      (cell_of own_number_points (codes "double_value") cells);
  flags = nat_in (cell_of own_number_points (codes "flags") cells);
  pairs = pairs;
  exemplars = exemplars;
}

-- ---- doubles that may be missing: a missing one is null, and 0 is stored as 0

abbrev pub optional_cell : Option ℕ → Cell
optional_cell None = null
optional_cell (Some n) = bits n

abbrev pub optional_in : Cell → Option ℕ
optional_in (bits n) = Some n
optional_in _ = None

-- ---- points of histograms

abbrev pub hist_point_cells : HistPoint → List Cell
hist_point_cells point =
    bits_cell point.start ∷ bits_cell point.time ∷ bits_cell point.count ∷ list_cell point.buckets ∷ list_cell point.bounds
    ∷ optional_cell point.sum ∷ number_cell point.flags ∷ optional_cell point.min ∷ optional_cell point.max ∷ []

-- THE POINT that cells, pairs and exemplars make; null reads as the default
unfoldable pub hist_point_of : List Cell → List Pair → List Exemplar → HistPoint
hist_point_of cells pairs exemplars = record {
  start = bits_in (cell_of own_hist_points (codes "start_time_unix_nano") cells);
  time = bits_in (cell_of own_hist_points (codes "time_unix_nano") cells);
  count = bits_in (cell_of own_hist_points (codes "count") cells);
  buckets = list_in (cell_of own_hist_points (codes "bucket_counts") cells);
  bounds = list_in (cell_of own_hist_points (codes "explicit_bounds") cells);
  sum = optional_in (cell_of own_hist_points (codes "sum") cells);
  flags = nat_in (cell_of own_hist_points (codes "flags") cells);
  min = optional_in (cell_of own_hist_points (codes "min") cells);
  max = optional_in (cell_of own_hist_points (codes "max") cells);
  pairs = pairs;
  exemplars = exemplars;
}

-- ---- points of summaries: their quantiles are two lists

abbrev pub quantile_cell : List Quantile → Cell
quantile_cell quantiles = list_cell (map (λ (q : Quantile). q.quantile) quantiles)

abbrev pub value_cell : List Quantile → Cell
value_cell quantiles = list_cell (map (λ (q : Quantile). q.value) quantiles)

abbrev pub sum_point_cells : SumPoint → List Cell
sum_point_cells point =
    bits_cell point.start ∷ bits_cell point.time ∷ bits_cell point.count ∷ bits_cell point.sum
    ∷ quantile_cell point.quantiles ∷ value_cell point.quantiles ∷ number_cell point.flags ∷ []

-- the quantiles that two lists make, as many as the shorter one has
abbrev pub quantiles_of : List ℕ → List ℕ → List Quantile
quantiles_of (q ∷ qs) (v ∷ vs) = record { quantile = q; value = v } ∷ quantiles_of qs vs
quantiles_of _ _ = []

-- THE POINT that cells and pairs make
unfoldable pub sum_point_of : List Cell → List Pair → SumPoint
sum_point_of cells pairs = record {
  start = bits_in (cell_of own_summary_points (codes "start_time_unix_nano") cells);
  time = bits_in (cell_of own_summary_points (codes "time_unix_nano") cells);
  count = bits_in (cell_of own_summary_points (codes "count") cells);
  sum = bits_in (cell_of own_summary_points (codes "sum") cells);
  quantiles = quantiles_of
      (list_in (cell_of own_summary_points (codes "quantiles") cells))
      (list_in (cell_of own_summary_points (codes "quantile_values") cells));
  flags = nat_in (cell_of own_summary_points (codes "flags") cells);
  pairs = pairs;
}
