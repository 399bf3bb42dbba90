-- The tables of a request of logs.
use Rattle.std.specs.Prelude.{◌∷◌, [], List, map}
use Rattle.otlp_model.specs.declared.groups.ResourceGroup.{ResourceGroup}
use Rattle.otlp_model.specs.declared.logs.LogRecord.{LogRecord}
use Rattle.otlp_model.specs.declared.value.Pair.{Pair}
use Rattle.otap_cells.specs.declared.payload.Kind.TheVariants as table
use Rattle.otap_cells.specs.Places.{main_id, resource_id, scope_id}
use Rattle.otap_cells.specs.Tables.{Table}
use Rattle.otap_groups.specs.Flat.{items_of, resource_pairs, scope_pairs}
use Rattle.otap_checks.specs.Written.{Written, pairs_below, tables_written}
use Rattle.otap_logs.specs.Records.{record_cells}

-- the attributes of each record
abbrev pub record_pairs : List (ResourceGroup LogRecord) → List (List Pair)
record_pairs groups = map (λ log. log.pairs) (items_of groups)

-- below the records: the attributes of resources, scopes and records
abbrev pub below_logs : List (ResourceGroup LogRecord) → List Written
below_logs groups =
    pairs_below table.ResourceAttrs table.Logs resource_id (resource_pairs groups)
    ∷ pairs_below table.ScopeAttrs table.Logs scope_id (scope_pairs groups)
    ∷ pairs_below table.LogAttrs table.Logs main_id (record_pairs groups)
    ∷ []

-- THE TABLES of a request: its records, and of the tables below them those that have rows
unfoldable pub tables_of_logs : List (ResourceGroup LogRecord) → List Table
tables_of_logs groups = tables_written table.Logs record_cells (below_logs groups) groups
