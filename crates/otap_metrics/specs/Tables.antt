-- The tables of a request of metrics.
use Rattle.std.specs.Prelude.{◌∷◌, [], List, map}
use Rattle.std.specs.List.{flat_map}
use Rattle.otlp_model.specs.declared.groups.ResourceGroup.{ResourceGroup}
use Rattle.otlp_model.specs.declared.histograms.HistPoint.{HistPoint}
use Rattle.otlp_model.specs.declared.histograms.SumPoint.{SumPoint}
use Rattle.otlp_model.specs.declared.metrics.Exemplar.{Exemplar}
use Rattle.otlp_model.specs.declared.metrics.Metric.{Metric}
use Rattle.otlp_model.specs.declared.metrics.Point.{Point}
use Rattle.otlp_model.specs.declared.value.Pair.{Pair}
use Rattle.otap_cells.specs.declared.payload.Kind.TheVariants as table
use Rattle.otap_cells.specs.Places.{part_id, resource_id, scope_id}
use Rattle.otap_cells.specs.Tables.{Table}
use Rattle.otap_groups.specs.Flat.{items_of, resource_pairs, scope_pairs}
use Rattle.otap_checks.specs.Written.{Written, pairs_below, parts_below, tables_written}
use Rattle.otap_points.specs.Points.{exemplar_cells, hist_point_cells, point_cells, sum_point_cells}
use Rattle.otap_metrics.specs.Metrics.{hist_points_of, metric_cells, points_of, summary_points_of}

-- the points of each metric that is a gauge or a sum, of each histogram, and of each summary; and all of them
abbrev pub point_lists : List (ResourceGroup Metric) → List (List Point)
point_lists groups = map (λ metric. points_of metric.shape) (items_of groups)

abbrev pub hist_lists : List (ResourceGroup Metric) → List (List HistPoint)
hist_lists groups = map (λ metric. hist_points_of metric.shape) (items_of groups)

abbrev pub summary_lists : List (ResourceGroup Metric) → List (List SumPoint)
summary_lists groups = map (λ metric. summary_points_of metric.shape) (items_of groups)

abbrev pub all_points : List (ResourceGroup Metric) → List Point
all_points groups = flat_map (λ points. points) (point_lists groups)

abbrev pub all_hist_points : List (ResourceGroup Metric) → List HistPoint
all_hist_points groups = flat_map (λ points. points) (hist_lists groups)

abbrev pub all_summary_points : List (ResourceGroup Metric) → List SumPoint
all_summary_points groups = flat_map (λ points. points) (summary_lists groups)

-- the exemplars of each point, and all of them; the same of the points of histograms
abbrev pub exemplar_lists : List (ResourceGroup Metric) → List (List Exemplar)
exemplar_lists groups = map (λ point. point.exemplars) (all_points groups)

abbrev pub all_exemplars : List (ResourceGroup Metric) → List Exemplar
all_exemplars groups = flat_map (λ exemplars. exemplars) (exemplar_lists groups)

abbrev pub hist_exemplar_lists : List (ResourceGroup Metric) → List (List Exemplar)
hist_exemplar_lists groups = map (λ point. point.exemplars) (all_hist_points groups)

abbrev pub all_hist_exemplars : List (ResourceGroup Metric) → List Exemplar
all_hist_exemplars groups = flat_map (λ exemplars. exemplars) (hist_exemplar_lists groups)

-- the attributes of each point and each exemplar
abbrev pub point_pairs : List (ResourceGroup Metric) → List (List Pair)
point_pairs groups = map (λ point. point.pairs) (all_points groups)

abbrev pub summary_pairs : List (ResourceGroup Metric) → List (List Pair)
summary_pairs groups = map (λ point. point.pairs) (all_summary_points groups)

abbrev pub hist_pairs : List (ResourceGroup Metric) → List (List Pair)
hist_pairs groups = map (λ point. point.pairs) (all_hist_points groups)

abbrev pub exemplar_pairs : List (ResourceGroup Metric) → List (List Pair)
exemplar_pairs groups = map (λ exemplar. exemplar.pairs) (all_exemplars groups)

abbrev pub hist_exemplar_pairs : List (ResourceGroup Metric) → List (List Pair)
hist_exemplar_pairs groups = map (λ exemplar. exemplar.pairs) (all_hist_exemplars groups)

-- below the metrics: the attributes of resources and scopes, the points and their attributes, the exemplars and theirs
abbrev pub below_metrics : List (ResourceGroup Metric) → List Written
below_metrics groups =
    pairs_below table.ResourceAttrs table.Metrics resource_id (resource_pairs groups)
    ∷ pairs_below table.ScopeAttrs table.Metrics scope_id (scope_pairs groups)
    ∷ parts_below table.NumberPoints table.Metrics point_cells (point_lists groups)
    ∷ parts_below table.SummaryPoints table.Metrics sum_point_cells (summary_lists groups)
    ∷ parts_below table.HistPoints table.Metrics hist_point_cells (hist_lists groups)
    ∷ pairs_below table.NumberPointAttrs table.NumberPoints part_id (point_pairs groups)
    ∷ pairs_below table.SummaryPointAttrs table.SummaryPoints part_id (summary_pairs groups)
    ∷ pairs_below table.HistPointAttrs table.HistPoints part_id (hist_pairs groups)
    ∷ parts_below table.NumberExemplars table.NumberPoints exemplar_cells (exemplar_lists groups)
    ∷ parts_below table.HistExemplars table.HistPoints exemplar_cells (hist_exemplar_lists groups)
    ∷ pairs_below table.NumberExemplarAttrs table.NumberExemplars part_id (exemplar_pairs groups)
    ∷ pairs_below table.HistExemplarAttrs table.HistExemplars part_id (hist_exemplar_pairs groups)
    ∷ []

-- THE TABLES of a request: its metrics, and of the tables below them those that have rows
unfoldable pub tables_of_metrics : List (ResourceGroup Metric) → List Table
tables_of_metrics groups = tables_written table.Metrics metric_cells (below_metrics groups) groups
