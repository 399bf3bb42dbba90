-- How the tables of requests agree with what such tables mean.
use Rattle.std.specs.Prelude.{◌≡◌, ◌≤◌, List, length}
use Rattle.otlp_model.specs.Limits.{weight_limit}
use Rattle.otlp_model.specs.Same.{Same}
use Rattle.otlp_model.specs.Telemetry.{telemetry}
use Rattle.otlp_model.specs.Weight.{weight_of}
use Rattle.otlp_model.specs.declared.request.Request.{Request}
use Rattle.otap_cells.specs.GivenIds.{ReadAs}
use Rattle.otap_cells.specs.Payload.{main_of}
use Rattle.otap_cells.specs.Sets.{rows_named}
use Rattle.otap_cells.specs.Tables.{Table}
use Rattle.otap_signals.specs.Meanings.{Meaning, AreClean, SignalRows}
use Rattle.otap_produce.specs.Policy.{IsExported}
use Rattle.otap_produce.specs.TableOrder.{HaveWritable}

-- tables that read as those of a request: nothing is wrong with their rows, and they mean the same telemetry
pub record MeanTheSame (m : Meaning) (q : Request) (tables : List Table) : Type 0 where
  pub clean : AreClean m tables
  pub light : weight_of (m.request tables) ≤ weight_limit
  pub same : Same q (m.request tables)

-- THE TABLES OF REQUESTS ARE FAITHFUL to what tables mean
pub record AreFaithful (m : Meaning) (rows : SignalRows) : Type 0 where
  pub signal : m.signal ≡ rows.signal
  -- they can be written, and their kinds are among the signal's, none twice
  pub writable : (q : Request) → IsExported rows q → HaveWritable rows.signal (rows.tables q)
  -- the main table has no more rows than the request has items
  pub items : (q : Request) → IsExported rows q → length (rows_named (main_of rows.signal) (rows.tables q)) ≤ length (telemetry q)
  pub means : (q : Request) (tables : List Table) → IsExported rows q → ReadAs tables (rows.tables q) → MeanTheSame m q tables
