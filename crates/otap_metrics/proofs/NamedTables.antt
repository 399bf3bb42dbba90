-- The tables of a request of metrics, by their kinds: one that isn't there would have no rows.
use Rattle.std.proofs.Common.{◌≡◌, ◌∙◌, ℕ, ◌<◌, List, get_or, refl, arith}
use Rattle.otlp_model.specs.declared.groups.ResourceGroup.{ResourceGroup}
use Rattle.otlp_model.specs.declared.metrics.Metric.{Metric}
use Rattle.otap_cells.specs.declared.payload.Kind.TheVariants as table
use Rattle.otap_cells.specs.Named.{table_named}
use Rattle.otap_cells.specs.Tables.{Table}
use Rattle.otap_groups.specs.Flat.{resource_pairs, scope_pairs}
use Rattle.otap_groups.specs.Stored.{main_table, part_table}
use Rattle.otap_attrs.specs.Tables.{attribute_table}
use Rattle.otap_checks.specs.Written.{Written, pairs_below, parts_below, table_of}
use Rattle.otap_checks.proofs.NamedWritten.{main_named, written_named}
use Rattle.otap_checks.proofs.SeenParts.{table_seen}
use Rattle.otap_points.specs.Points.{exemplar_cells, hist_point_cells, point_cells, sum_point_cells}
use Rattle.otap_metrics.specs.Metrics.{metric_cells}
use Rattle.otap_metrics.specs.Tables.{below_metrics, exemplar_lists, exemplar_pairs, hist_exemplar_lists, hist_exemplar_pairs, hist_lists, hist_pairs, point_lists, point_pairs, summary_lists, summary_pairs, tables_of_metrics}

-- AMONG THESE TABLES are those of a request; one that has no rows may be missing
pub record HoldMetrics (groups : List (ResourceGroup Metric)) (tables : List Table) : Type 0 where
  pub main : table_named table.Metrics tables ≡ main_table table.Metrics metric_cells groups
  pub resources : table_named table.ResourceAttrs tables ≡ attribute_table table.ResourceAttrs (resource_pairs groups)
  pub scopes : table_named table.ScopeAttrs tables ≡ attribute_table table.ScopeAttrs (scope_pairs groups)
  pub points : table_named table.NumberPoints tables ≡ part_table table.NumberPoints point_cells (point_lists groups)
  pub summary_points : table_named table.SummaryPoints tables ≡ part_table table.SummaryPoints sum_point_cells (summary_lists groups)
  pub hist_points : table_named table.HistPoints tables ≡ part_table table.HistPoints hist_point_cells (hist_lists groups)
  pub of_points : table_named table.NumberPointAttrs tables ≡ attribute_table table.NumberPointAttrs (point_pairs groups)
  pub of_summary_points : table_named table.SummaryPointAttrs tables ≡ attribute_table table.SummaryPointAttrs (summary_pairs groups)
  pub of_hist_points : table_named table.HistPointAttrs tables ≡ attribute_table table.HistPointAttrs (hist_pairs groups)
  pub exemplars : table_named table.NumberExemplars tables ≡ part_table table.NumberExemplars exemplar_cells (exemplar_lists groups)
  pub hist_exemplars : table_named table.HistExemplars tables ≡ part_table table.HistExemplars exemplar_cells (hist_exemplar_lists groups)
  pub of_exemplars : table_named table.NumberExemplarAttrs tables ≡ attribute_table table.NumberExemplarAttrs (exemplar_pairs groups)
  pub of_hist_exemplars : table_named table.HistExemplarAttrs tables ≡ attribute_table table.HistExemplarAttrs (hist_exemplar_pairs groups)

module _ (groups : List (ResourceGroup Metric)) where
  named : (k : ℕ) (w : Written) → k < 12 → get_or (below_metrics groups) k w ≡ w → table_named w.kind (tables_of_metrics groups) ≡ table_of w
  unfolding tables_of_metrics
  named k w within at = written_named table.Metrics metric_cells (below_metrics groups) groups refl w (k, within, at)

  pub named_main : table_named table.Metrics (tables_of_metrics groups) ≡ main_table table.Metrics metric_cells groups
  unfolding tables_of_metrics
  named_main = main_named table.Metrics metric_cells (below_metrics groups) groups refl

  pub are_there : HoldMetrics groups (tables_of_metrics groups)
  are_there = record {
    main = named_main;
    resources = named 0 (pairs_below table.ResourceAttrs table.Metrics 1 (resource_pairs groups)) (omega arith) refl;
    scopes = named 1 (pairs_below table.ScopeAttrs table.Metrics 4 (scope_pairs groups)) (omega arith) refl;
    points = named 2 (parts_below table.NumberPoints table.Metrics point_cells (point_lists groups)) (omega arith) refl ∙ table_seen point_cells table.NumberPoints (point_lists groups);
    summary_points = named 3 (parts_below table.SummaryPoints table.Metrics sum_point_cells (summary_lists groups)) (omega arith) refl ∙ table_seen sum_point_cells table.SummaryPoints (summary_lists groups);
    hist_points = named 4 (parts_below table.HistPoints table.Metrics hist_point_cells (hist_lists groups)) (omega arith) refl ∙ table_seen hist_point_cells table.HistPoints (hist_lists groups);
    of_points = named 5 (pairs_below table.NumberPointAttrs table.NumberPoints 0 (point_pairs groups)) (omega arith) refl;
    of_summary_points = named 6 (pairs_below table.SummaryPointAttrs table.SummaryPoints 0 (summary_pairs groups)) (omega arith) refl;
    of_hist_points = named 7 (pairs_below table.HistPointAttrs table.HistPoints 0 (hist_pairs groups)) (omega arith) refl;
    exemplars = named 8 (parts_below table.NumberExemplars table.NumberPoints exemplar_cells (exemplar_lists groups)) (omega arith) refl ∙ table_seen exemplar_cells table.NumberExemplars (exemplar_lists groups);
    hist_exemplars = named 9 (parts_below table.HistExemplars table.HistPoints exemplar_cells (hist_exemplar_lists groups)) (omega arith) refl ∙ table_seen exemplar_cells table.HistExemplars (hist_exemplar_lists groups);
    of_exemplars = named 10 (pairs_below table.NumberExemplarAttrs table.NumberExemplars 0 (exemplar_pairs groups)) (omega arith) refl;
    of_hist_exemplars = named 11 (pairs_below table.HistExemplarAttrs table.HistExemplars 0 (hist_exemplar_pairs groups)) (omega arith) refl;
  }
