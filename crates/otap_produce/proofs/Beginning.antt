-- An exporter at the beginning of a segment.
use Rattle.std.proofs.Common.{◌≡◌, ℕ, Bool, [], arith}
use Rattle.otlp_model.specs.declared.request.Signal.{Signal}
use Rattle.otap_cells.specs.Payload.{kinds_of}
use Rattle.otap_produce.specs.Senders.{HaveSent, SendersIn, kinds_in}
use Rattle.otap_produce.specs.Inside.{IsExporter}
use Rattle.otap_produce.proofs.Counting.{openings-none}

pub is_exporter_begun : (signal : Signal) (senders : SendersIn) (batches : ℕ) (broken : Bool) → kinds_in senders.senders ≡ kinds_of signal → HaveSent [] [] senders
    → IsExporter signal senders batches broken
is_exporter_begun signal senders batches broken kinds sent = record {
  kinds = kinds;
  history = λ sound. record { tables = []; payloads = []; sent = sent };
  few = λ sound. omega (arith, sent.openings, openings-none);
}
