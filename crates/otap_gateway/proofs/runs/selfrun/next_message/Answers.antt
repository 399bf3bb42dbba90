use Rattle.std.proofs.Common.{◌≡◌, ap, subst, sym, ◌∙◌}
use Rattle.otlp_load.specs.Load.{generated}
use Rattle.otlp_model.specs.Telemetry.{signal_of}
use Rattle.otlp_model.specs.declared.request.Signal.{Signal}
use Rattle.otap_signals.specs.BySignal.{rows_by}
use Rattle.otap_produce.specs.Exporters.{Exports}
use Rattle.otap_gateway.proofs.LoadSteps.{few_batches, loads_next, of_signal}
use Rattle.otap_gateway.proofs.runs.selfrun.next_message.Goals as goal

pub encode-requires-clause-signal : goal.encode-requires-clause-signal
encode-requires-clause-signal c =
    ap signal_of c.in_ok-request.ensures ∙ c.requests_have_their_items.ensures.signal c.args.signal c.args.request
    ∙ sym (of_signal (rows_by c.args.signal) c.args.request _ c.requires.loading)

pub encode-requires-clause-batches : goal.encode-requires-clause-batches
encode-requires-clause-batches c = few_batches (rows_by c.args.signal) c.args.request _ c.requires.few c.requires.loading

pub returns-in-Ok : goal.returns-in-Ok
returns-in-Ok c =
    let of : c.args.exporter.now.signal ≡ c.args.signal = of_signal (rows_by c.args.signal) c.args.request c.args.exporter.now c.requires.loading in
    loads_next (rows_by c.args.signal) c.args.request _ _ _
    (subst
    (λ (s : Signal). Exports (rows_by s) (generated c.args.signal c.args.request) c.args.exporter.now c.encode.new.self c.in-Ok.message.items)
    of (rw c.in_ok-request.ensures at c.in-Ok.ensures.exports))
