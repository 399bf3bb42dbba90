use Rattle.std.proofs.Common.{sym, ap, ◌∙◌, arith}
use Rattle.otap_cells.specs.Payload.{kinds_of}
use Rattle.otap_consume.specs.Segments.{SegmentIn}
use Rattle.otap_produce.proofs.Exporting.{history_sent}
use Rattle.otap_filter.proofs.Fresh.{fresh}
use Rattle.otap_filter.proofs.filter.Filter.send.Goals as goal

pub invariant_of-self : goal.invariant_of-self
invariant_of-self c = record {
  kinds = c.send_all.ensures.kinds ∙ c.self.invariant.kinds;
  history = history_sent _ _ _ _ _ c.self.invariant.history c.in-Ok.ensures.sends;
  few = omega (arith, c.in-Ok.ensures.few, c.self.invariant.few);
}

pub invariant_of-self-in-Err : goal.invariant_of-self-in-Err
invariant_of-self-in-Err c =
    fresh _ _ _ (c.reset.ensures.kinds ∙ c.send_all.ensures.kinds ∙ c.self.invariant.kinds ∙ ap (λ (s : SegmentIn). kinds_of s.signal) (sym c.refuse.ensures)) c.reset.ensures.sent
