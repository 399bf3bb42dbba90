-- The tables of a request of logs, by their kinds: one that isn't there would have no rows.
use Rattle.std.proofs.Common.{◌≡◌, ℕ, ◌<◌, List, get_or, refl, arith}
use Rattle.otlp_model.specs.declared.groups.ResourceGroup.{ResourceGroup}
use Rattle.otlp_model.specs.declared.logs.LogRecord.{LogRecord}
use Rattle.otap_cells.specs.declared.payload.Kind.TheVariants as table
use Rattle.otap_cells.specs.Named.{table_named}
use Rattle.otap_groups.specs.Flat.{resource_pairs, scope_pairs}
use Rattle.otap_groups.specs.Stored.{main_table}
use Rattle.otap_attrs.specs.Tables.{attribute_table}
use Rattle.otap_checks.specs.Written.{Written, pairs_below, table_of}
use Rattle.otap_checks.proofs.NamedWritten.{main_named, written_named}
use Rattle.otap_logs.specs.Records.{record_cells}
use Rattle.otap_logs.specs.Tables.{below_logs, record_pairs, tables_of_logs}

module _ (groups : List (ResourceGroup LogRecord)) where
  named : (k : ℕ) (w : Written) → k < 3 → get_or (below_logs groups) k w ≡ w → table_named w.kind (tables_of_logs groups) ≡ table_of w
  unfolding tables_of_logs
  named k w within at = written_named table.Logs record_cells (below_logs groups) groups refl w (k, within, at)

  pub named_main : table_named table.Logs (tables_of_logs groups) ≡ main_table table.Logs record_cells groups
  unfolding tables_of_logs
  named_main = main_named table.Logs record_cells (below_logs groups) groups refl

  pub named_resources : table_named table.ResourceAttrs (tables_of_logs groups) ≡ attribute_table table.ResourceAttrs (resource_pairs groups)
  named_resources = named 0 (pairs_below table.ResourceAttrs table.Logs 1 (resource_pairs groups)) (omega arith) refl

  pub named_scopes : table_named table.ScopeAttrs (tables_of_logs groups) ≡ attribute_table table.ScopeAttrs (scope_pairs groups)
  named_scopes = named 1 (pairs_below table.ScopeAttrs table.Logs 4 (scope_pairs groups)) (omega arith) refl

  pub named_records : table_named table.LogAttrs (tables_of_logs groups) ≡ attribute_table table.LogAttrs (record_pairs groups)
  named_records = named 2 (pairs_below table.LogAttrs table.Logs 0 (record_pairs groups)) (omega arith) refl
