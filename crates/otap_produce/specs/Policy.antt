-- The batch message of tables, and the policy of the exporter: the messages that the requests of a segment are written as, one for
-- each.
use Rattle.std.specs.Prelude.{◌≡◌, ◌≤◌, ℕ, ℤ, pos, List, [], length}
use Rattle.std.specs.List.{flat_map}
use Rattle.lists.specs.EachAfter.{EachAfter}
use Rattle.lists.specs.Payloads.{PayloadIn}
use Rattle.otlp_model.specs.Limits.{item_limit, weight_limit}
use Rattle.otlp_model.specs.Profile.{IsProfile}
use Rattle.otlp_model.specs.Real.{IsReal}
use Rattle.otlp_model.specs.Telemetry.{signal_of, telemetry}
use Rattle.otlp_model.specs.Weight.{weight_of}
use Rattle.otlp_model.specs.declared.request.Request.{Request}
use Rattle.otap_capture.specs.Batch.{batch_content, canon_batch, payloads_in}
use Rattle.otap_capture.specs.Capture.{longest_frame}
use Rattle.otap_cells.specs.Tables.{Table}
use Rattle.otap_cells.specs.Weights.{row_weight_limit, weight_of_tables}
use Rattle.otap_columns.specs.TableSets.{ArePayloadsOf}
use Rattle.otap_signals.specs.Meanings.{SignalRows}

-- A REQUEST THAT IS EXPORTED: of the signal, real, of the profile, and within the limits on items, tree weight and row weight
pub record IsExported (rows : SignalRows) (q : Request) : Type 0 where
  pub signal : signal_of q ≡ rows.signal
  pub real : IsReal q
  pub profile : IsProfile q
  pub items : length (telemetry q) ≤ item_limit
  pub tree : weight_of q ≤ weight_limit
  pub row_weight : weight_of_tables (rows.tables q) ≤ row_weight_limit

-- THE MESSAGE OF TABLES, after the tables of its segment before them and the payloads of these: the canonical spelling of a batch
-- with this id, which has a payload for each table. It fits into a frame.
pub record IsMessageFor (before : List Table) (past : List PayloadIn) (number : ℤ) (tables : List Table) (message : List ℕ) : Type 0 where
  pub canonical : message ≡ canon_batch (batch_content message)
  pub id : (batch_content message).id ≡ number
  pub payloads : ArePayloadsOf before past tables (payloads_in message)
  pub short : length message ≤ longest_frame

-- THE MESSAGE OF A REQUEST, after the requests and the messages of its segment before it: that of its tables, with an id that
-- counts these
abbrev pub IsMessageOf : SignalRows → List Request → List (List ℕ) → Request → List ℕ → Type 0
IsMessageOf rows requests messages request message =
    IsMessageFor (flat_map rows.tables requests) (flat_map payloads_in messages) (pos (length requests)) (rows.tables request) message

-- THE POLICY: the messages of the requests of a segment
abbrev pub Policy : SignalRows → List Request → List (List ℕ) → Type 0
Policy rows requests messages = EachAfter (IsMessageOf rows) [] [] requests messages
