-- What is true of the fields of an exporter.
use Rattle.std.specs.Prelude.{◌≡◌, ◌≤◌, ◌*◌, ℕ, Bool, false}
use Rattle.otlp_model.specs.declared.request.Signal.{Signal}
use Rattle.otap_cells.specs.Payload.{kinds_of}
use Rattle.otap_columns.specs.Limits.{tables_limit}
use Rattle.otap_produce.specs.Senders.{HaveHistory, SendersIn, kinds_in}

-- there is a sender for each kind of the signal; until memory runs out, each batch has at most one payload of each kind
pub record IsExporter (signal : Signal) (senders : SendersIn) (batches : ℕ) (broken : Bool) : Type 0 where
  pub kinds : kinds_in senders.senders ≡ kinds_of signal
  pub history : broken ≡ false → HaveHistory senders
  pub few : broken ≡ false → senders.openings ≤ tables_limit * batches
