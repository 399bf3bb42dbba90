-- The tables of each signal: the request that they make, and those that a request is written as.
use Rattle.std.specs.Prelude.{List}
use Rattle.otlp_model.specs.Telemetry.{signal_of}
use Rattle.otlp_model.specs.declared.request.Request.{Request}
use Rattle.otlp_model.specs.declared.request.Request.TheVariants as requests
use Rattle.otlp_model.specs.declared.request.Signal.{Signal}
use Rattle.otlp_model.specs.declared.request.Signal.TheVariants as signals
use Rattle.otap_cells.specs.Tables.{Table}
use Rattle.otap_checks.specs.RowDefects.{RowDefect}
use Rattle.otap_logs.specs.Requests.{regrouped_logs}
use Rattle.otap_logs.specs.Tables.{tables_of_logs}
use Rattle.otap_metrics.specs.Requests.{regrouped_metrics}
use Rattle.otap_metrics.specs.Tables.{tables_of_metrics}
use Rattle.otap_spans.specs.Requests.{regrouped_spans}
use Rattle.otap_spans.specs.Tables.{tables_of_spans}
use Rattle.otap_signals.specs.Meanings.{Meaning, SignalRows}
use Rattle.otap_signals.specs.Signals.{ComesBack}

-- THE REQUEST that tables of a signal make
abbrev pub request_in : Signal → List Table → Request
request_in signals.Traces tables = requests.Traces (regrouped_spans tables)
request_in signals.Logs tables = requests.Logs (regrouped_logs tables)
request_in signals.Metrics tables = requests.Metrics (regrouped_metrics tables)

-- THE TABLES that a request is written as
abbrev pub tables_of_request : Request → List Table
tables_of_request (requests.Traces groups) = tables_of_spans groups
tables_of_request (requests.Logs groups) = tables_of_logs groups
tables_of_request (requests.Metrics groups) = tables_of_metrics groups

-- what tables of a signal mean
abbrev pub meaning_by : Signal → Meaning
meaning_by signal = record { signal = signal; Stands = RowDefect signal; request = request_in signal }

-- the tables that its requests are written as
abbrev pub rows_by : Signal → SignalRows
rows_by signal = record { signal = signal; tables = tables_of_request }

-- the tables of a request, and the request that they make
abbrev pub RequestComesBack : Request → Type 0
RequestComesBack request = ComesBack (signal_of request) request (tables_of_request request) (request_in (signal_of request) (tables_of_request request))
