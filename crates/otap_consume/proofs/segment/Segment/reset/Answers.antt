use Rattle.std.proofs.Common.{ap, refl, sym, subst, List, [], length, arith}
use Rattle.std.proofs.lemmas.List.{with_items_is}
use Rattle.otap_consume.specs.Segments.{SegmentIn}
use Rattle.otap_consume.specs.Streams.{StreamIn, AreAfter}
use Rattle.otap_consume.proofs.RecordSteps.{closed_new}
use Rattle.otap_consume.proofs.segment.Segment.reset.Goals as goal

pub returns : goal.returns
returns c = record {
  same = ap (λ (s : SegmentIn). s.signal) c.self.view_is;
  whole = refl;
  empty = subst (λ (streams : List StreamIn). AreAfter [] streams)
      (sym (with_items_is c.self.inside.streams c.close_all.new.streams
      (omega (arith, c.close_all.auto.streams, c.self.inside.streams.ok.0, ap (length {A = StreamIn}) c.deref_mut.ensures.value))))
      (closed_new c.deref_mut.result.now c.close_all.new.streams c.close_all.ensures);
}
