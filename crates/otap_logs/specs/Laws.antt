-- Words of the laws: the requests that they hold for, and what they say of their tables.
use Rattle.std.specs.Prelude.{◌≡◌, ◌≤◌, ◌||◌, List, filter, length, map, nat_lt}
use Rattle.otlp_model.specs.Limits.{weight_limit}
use Rattle.otlp_model.specs.Profile.{IsProfile}
use Rattle.otlp_model.specs.Real.{IsReal}
use Rattle.otlp_model.specs.Telemetry.{telemetry}
use Rattle.otlp_model.specs.Weight.{weight_of}
use Rattle.otlp_model.specs.declared.groups.ResourceGroup.{ResourceGroup}
use Rattle.otlp_model.specs.declared.logs.LogRecord.{LogRecord}
use Rattle.otlp_model.specs.declared.request.Request.TheVariants.{Logs}
use Rattle.otlp_model.specs.declared.request.Signal.TheVariants as signal
use Rattle.otap_cells.specs.declared.payload.Kind.TheVariants as table
use Rattle.otap_cells.specs.Named.{table_named}
use Rattle.otap_cells.specs.Payload.{is_kind, kinds_of, main_of}
use Rattle.otap_cells.specs.Tables.{Table}
use Rattle.otap_logs.specs.Requests.{regrouped_logs}
use Rattle.otap_logs.specs.Tables.{tables_of_logs}

-- the law holds for all logs that a program can hold, that the profile has, and that are within the weight limit
abbrev pub ForProfileLogs : (List (ResourceGroup LogRecord) → Type 0) → Type 0
ForProfileLogs Law = (groups : List (ResourceGroup LogRecord)) → IsReal (Logs groups) → IsProfile (Logs groups) → weight_of (Logs groups) ≤ weight_limit
    → Law groups

-- the logs that the tables of logs make: there and back
abbrev pub rebuilt_logs : List (ResourceGroup LogRecord) → List (ResourceGroup LogRecord)
rebuilt_logs groups = regrouped_logs (tables_of_logs groups)

-- the tables have the order of the signal's kinds: the main one is there, and of the others those that have rows
abbrev pub AreInKindOrder : List Table → Type 0
AreInKindOrder tables = map (λ (t : Table). t.kind) tables
    ≡ filter (λ kind. is_kind kind (main_of signal.Logs) || nat_lt 0 (length (table_named kind tables).rows)) (kinds_of signal.Logs)

-- the main table has as many rows as there are logs
abbrev pub HasRowPerLog : List Table → List (ResourceGroup LogRecord) → Type 0
HasRowPerLog tables groups = length (table_named table.Logs tables).rows ≡ length (telemetry (Logs groups))
