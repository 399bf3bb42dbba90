-- Words of private contracts: the shapes of the rows of a table of metrics.
use Rattle.std.specs.Prelude.{ℕ, Option}
use Rattle.otlp_model.specs.declared.histograms.HistPoint.{HistPoint}
use Rattle.otlp_model.specs.declared.histograms.SumPoint.{SumPoint}
use Rattle.otlp_model.specs.declared.metrics.Point.{Point}
use Rattle.otlp_model.specs.declared.metrics.Shape.{Shape}
use Rattle.otap_cells.specs.declared.rows.Rows as tables
use Rattle.otap_cells.specs.Cells.{nat_in}
use Rattle.otap_cells.specs.Scalars.{flag_in, int_in}
use Rattle.otap_cells.specs.Tables.{cell_in}
use Rattle.otap_cells.specs.Places.{metric_monotonic, metric_temporality, metric_type}
use Rattle.otap_groups.specs.declared.reading.Lookup as lookups
use Rattle.otap_metrics.specs.declared.reading.Metrics.{Metrics}
use Rattle.otap_metrics.specs.Below.{below_by}
use Rattle.otap_metrics.specs.Metrics.{shape_of}

module _ {R N H S : Type 0} {of_rows : tables.Ghosts R} {numbers : lookups.Ghosts N Point}
    {hists : lookups.Ghosts H HistPoint} {summaries : lookups.Ghosts S SumPoint} (metrics : Metrics R N H S of_rows numbers hists summaries) where
  -- the shape of the row at a place, whose metric has this id, with its points
  abbrev pub shape_at : Option ℕ → ℕ → Shape
  shape_at id row = shape_of
      (nat_in (cell_in (of_rows.table metrics.rows.now).rows metric_type row))
      (int_in (cell_in (of_rows.table metrics.rows.now).rows metric_temporality row))
      (flag_in (cell_in (of_rows.table metrics.rows.now).rows metric_monotonic row))
      (below_by (numbers.finds metrics.points) (hists.finds metrics.hist_points) (summaries.finds metrics.summary_points) id)
