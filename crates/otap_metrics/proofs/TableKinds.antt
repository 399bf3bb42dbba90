-- The kinds of the tables of a request of metrics, and how many rows the main one has.
use Rattle.std.proofs.Common.{◌≡◌, List, [], ◌∷◌, length, map, filter, refl, sym, ◌∙◌, ap}
use Rattle.std.specs.Prelude.{nat_lt}
use Rattle.std.proofs.lemmas.List.{length-map}
use Rattle.otlp_model.specs.Telemetry.{item_entries, metric, telemetry, told_as}
use Rattle.otlp_model.specs.declared.groups.ResourceGroup.{ResourceGroup}
use Rattle.otlp_model.specs.declared.metrics.Metric.{Metric}
use Rattle.otlp_model.specs.declared.request.Request.TheVariants.{Metrics}
use Rattle.otap_cells.specs.declared.payload.Kind.TheVariants as table
use Rattle.otap_cells.specs.Named.{table_named}
use Rattle.otap_cells.specs.Tables.{Table}
use Rattle.otap_groups.proofs.Bounds.{size_of_flat}
use Rattle.otap_groups.proofs.FlatItems.{length_entries}
use Rattle.otap_groups.proofs.StoredRows.{size_of_main}
use Rattle.otap_checks.proofs.AllWritten.{kinds_written}
use Rattle.otap_metrics.specs.Metrics.{metric_cells}
use Rattle.otap_metrics.specs.Tables.{below_metrics, tables_of_metrics}
use Rattle.otap_metrics.proofs.NamedTables.{named_main}

module _ (groups : List (ResourceGroup Metric)) where
  pub by_type : map (λ (t : Table). t.kind) (tables_of_metrics groups)
      ≡ table.Metrics ∷ filter (λ kind. nat_lt 0 (length (table_named kind (tables_of_metrics groups)).rows)) (table.ResourceAttrs ∷ table.ScopeAttrs ∷ table.NumberPoints ∷ table.SummaryPoints ∷ table.HistPoints ∷ table.NumberPointAttrs ∷ table.SummaryPointAttrs ∷ table.HistPointAttrs ∷ table.NumberExemplars ∷ table.HistExemplars ∷ table.NumberExemplarAttrs ∷ table.HistExemplarAttrs ∷ [])
  unfolding tables_of_metrics
  by_type = kinds_written table.Metrics metric_cells (below_metrics groups) groups refl

  pub rows_for_metrics : length (table_named table.Metrics (tables_of_metrics groups)).rows ≡ length (telemetry (Metrics groups))
  rows_for_metrics =
      ap (λ (t : Table). length t.rows) (named_main groups) ∙ size_of_main table.Metrics metric_cells groups ∙ size_of_flat 0 groups ∙ sym (length_entries groups)
      ∙ sym (length-map (item_entries groups) (told_as metric))
