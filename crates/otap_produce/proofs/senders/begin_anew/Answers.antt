use Rattle.std.proofs.Common.{sym, ap, ◌∙◌, arith}
use Rattle.otap_produce.specs.Senders.{SenderIn}
use Rattle.otap_produce.proofs.Adding.{kinds_set}
use Rattle.otap_produce.proofs.Fresh.{anew_at, has_sent_none}
use Rattle.otap_produce.proofs.senders.begin_anew.Goals as goal

pub senders-preserved : goal.senders-preserved
senders-preserved c = record {
  kinds =
      kinds_set c.senders.senders c.senders.place c.index-senders-place.result c.new.result c.index-senders-place.is
      (c.new.ensures.kind ∙ c.kind-kind.ensures ∙ ap (λ (s : SenderIn). s.writer.kind) (sym c.index-senders-place.is))
      ∙ c.senders.invariant.kinds;
  sent =
      anew_at c.senders.senders c.senders.place c.new.result (omega (arith, c.senders-test.true, c.senders.auto.senders)) c.senders.invariant.sent
      (has_sent_none c.new.result c.new.ensures.wrote);
}
