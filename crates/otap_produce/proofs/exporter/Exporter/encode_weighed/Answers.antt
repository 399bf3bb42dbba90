use Rattle.std.proofs.Common.{◌+◌, false, pos, refl, ◌∙◌, subst, arith}
use Rattle.otap_produce.specs.Exporters.{ExporterIn, Exports}
use Rattle.otap_signals.specs.BySignal.{rows_by, tables_of_request}
use Rattle.otap_produce.proofs.Exporting.{exports, history_sent}
use Rattle.otap_produce.proofs.exporter.Exporter.encode_weighed.Goals as goal

pub invariant_of-self-2 : goal.invariant_of-self-2
invariant_of-self-2 c =
    let sound = c.in_ok-check.ensures.sound in
    record {
      kinds = c.in_ok-bytes.ensures.kinds ∙ c.self.invariant.kinds;
      history = λ is.
          history_sent (pos c.self.inside.batches) (tables_of_request c.args.request.now) c.self.inside.senders c.message_of.new.senders c.in_ok-bytes.bytes.items
          (c.self.invariant.history sound) c.in_ok-bytes.ensures.sends;
      few = λ is. omega (arith, c.in_ok-bytes.ensures.few, c.self.invariant.few sound);
    }

pub returns-clause-exports : goal.returns-clause-exports
returns-clause-exports c =
    let old : ExporterIn = record { signal = c.self.inside.signal; sent = c.self.inside.senders; batches = c.self.inside.batches; broken = c.self.inside.broken } in
    let new : ExporterIn = record { signal = c.self.inside.signal; sent = c.message_of.new.senders; batches = c.self.inside.batches + 1; broken = false } in
    subst (λ (o : ExporterIn). Exports (rows_by o.signal) c.args.request.now o new c.in_ok-bytes.bytes.items) c.self.view_is
    (exports (rows_by c.self.inside.signal) c.args.request.now old new c.in_ok-bytes.bytes.items c.in_ok-check.ensures.sound c.in_ok-check.ensures.exported
    c.in_ok-bytes.ensures.sends c.in_ok-bytes.ensures.kinds refl refl refl)
