-- The kinds of the tables of a request of logs, and how many rows the main one has.
use Rattle.std.proofs.Common.{◌≡◌, List, [], ◌∷◌, length, map, filter, refl, sym, ◌∙◌, ap}
use Rattle.std.specs.Prelude.{nat_lt}
use Rattle.std.proofs.lemmas.List.{length-map}
use Rattle.otlp_model.specs.Telemetry.{item_entries, log_record, telemetry, told_as}
use Rattle.otlp_model.specs.declared.groups.ResourceGroup.{ResourceGroup}
use Rattle.otlp_model.specs.declared.logs.LogRecord.{LogRecord}
use Rattle.otlp_model.specs.declared.request.Request.TheVariants.{Logs}
use Rattle.otap_cells.specs.declared.payload.Kind.TheVariants as table
use Rattle.otap_cells.specs.Named.{table_named}
use Rattle.otap_cells.specs.Tables.{Table}
use Rattle.otap_groups.proofs.Bounds.{size_of_flat}
use Rattle.otap_groups.proofs.FlatItems.{length_entries}
use Rattle.otap_groups.proofs.StoredRows.{size_of_main}
use Rattle.otap_checks.proofs.AllWritten.{kinds_written}
use Rattle.otap_logs.specs.Records.{record_cells}
use Rattle.otap_logs.specs.Tables.{below_logs, tables_of_logs}
use Rattle.otap_logs.proofs.NamedTables.{named_main}

module _ (groups : List (ResourceGroup LogRecord)) where
  pub by_type : map (λ (t : Table). t.kind) (tables_of_logs groups)
      ≡ table.Logs ∷ filter (λ kind. nat_lt 0 (length (table_named kind (tables_of_logs groups)).rows)) (table.ResourceAttrs ∷ table.ScopeAttrs ∷ table.LogAttrs ∷ [])
  unfolding tables_of_logs
  by_type = kinds_written table.Logs record_cells (below_logs groups) groups refl

  pub rows_for_records : length (table_named table.Logs (tables_of_logs groups)).rows ≡ length (telemetry (Logs groups))
  rows_for_records =
      ap (λ (t : Table). length t.rows) (named_main groups) ∙ size_of_main table.Logs record_cells groups ∙ size_of_flat 0 groups ∙ sym (length_entries groups)
      ∙ sym (length-map (item_entries groups) (told_as log_record))
