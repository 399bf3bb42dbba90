-- The request that tables of logs make, and what may be wrong with their rows.
use Rattle.std.specs.Prelude.{ℕ, List, Option}
use Rattle.otlp_model.specs.declared.groups.ResourceGroup.{ResourceGroup}
use Rattle.otlp_model.specs.declared.logs.LogRecord.{LogRecord}
use Rattle.otlp_model.specs.declared.request.Request.TheVariants.{Logs}
use Rattle.otlp_model.specs.declared.request.Signal.TheVariants as signal
use Rattle.otlp_model.specs.Weight.{weight_of}
use Rattle.otap_cells.specs.declared.payload.Kind.{Kind}
use Rattle.otap_cells.specs.declared.payload.Kind.TheVariants as table
use Rattle.otap_cells.specs.Cells.{Cell}
use Rattle.otap_cells.specs.Named.{table_named}
use Rattle.otap_cells.specs.Tables.{Table}
use Rattle.otap_attrs.specs.declared.refusal.RowRefusal.{RowRefusal}
use Rattle.otap_attrs.specs.Index.{pairs_in}
use Rattle.otap_checks.specs.Refusing.{IsClean}
use Rattle.otap_checks.specs.Regrouping.{regrouped_in}
use Rattle.otap_checks.specs.RowDefects.{RowDefect}
use Rattle.otap_logs.specs.Records.{record_of}

-- the record of an id and own cells, with the pairs that the tables have for the id
abbrev pub record_in : List Table → Option ℕ → List Cell → LogRecord
record_in tables id cells = record_of cells (pairs_in (table_named table.LogAttrs tables) id)

-- THE REQUEST that tables make
unfoldable pub regrouped_logs : List Table → List (ResourceGroup LogRecord)
regrouped_logs tables = regrouped_in table.Logs record_in tables

-- what that request weighs
abbrev pub regrouped_weight : List Table → ℕ
regrouped_weight tables = weight_of (Logs (regrouped_logs tables))

-- WHAT IS WRONG WITH THE ROWS of a kind's table among the tables of logs
abbrev pub WrongLogs : List Table → Kind → RowRefusal → Type 0
WrongLogs tables kind wrong = RowDefect signal.Logs tables kind wrong

-- nothing is wrong with the rows of any table of log records or below them; other tables aren't looked at
abbrev pub AreCleanLogs : List Table → Type 0
AreCleanLogs tables = IsClean (WrongLogs tables)
