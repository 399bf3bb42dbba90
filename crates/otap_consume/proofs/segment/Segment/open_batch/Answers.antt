use Rattle.std.proofs.Common.{◌≡◌, ◌∙◌, ap, refl, sym, subst, length, arith}
use Rattle.std.specs.Vec.{with_items}
use Rattle.std.proofs.lemmas.List.{with_items_is}
use Rattle.otap_consume.specs.declared.refusal.Refusal.{Refusal}
use Rattle.otap_consume.specs.declared.seen.Seen.TheVariants as seen
use Rattle.otap_consume.specs.Segments.{SegmentIn}
use Rattle.otap_consume.specs.Streams.{StreamIn}
use Rattle.otap_consume.specs.Taking.{NextBatch}
use Rattle.otap_consume.proofs.SegmentSteps.{next_broken, opened_parts, stopped_parts}
use Rattle.otap_consume.proofs.segment.Segment.open_batch.Goals as goal

pub returns-then-self-clause-opens : goal.returns-then-self-clause-opens
returns-then-self-clause-opens c =
    let s = c.args.self.now in
    subst (λ (r : Refusal). NextBatch s c.args.batch s (seen.Refused r)) (sym c.refused.ensures)
    (next_broken s c.args.batch (sym (ap (λ (x : SegmentIn). x.broken) c.self.view_is) ∙ c.if-self.true))

pub returns-in-Ok-clause-opens : goal.returns-in-Ok-clause-opens
returns-in-Ok-clause-opens c =
    let s = c.args.self.now in
    let signal = ap (λ (x : SegmentIn). x.signal) c.self.view_is in
    let streams = c.deref_mut.ensures.value ∙ ap (λ (x : SegmentIn). x.streams) c.self.view_is in
    let long : length c.open_payloads.new.streams ≡ c.self.inside.streams.len
    = omega (arith, c.open_payloads.auto.streams, c.self.inside.streams.ok.0, ap (length {A = StreamIn}) c.deref_mut.ensures.value) in
    let new : SegmentIn = record {
      signal = c.self.inside.signal;
      broken = c.self.inside.broken;
      streams = (with_items c.self.inside.streams c.open_payloads.new.streams).items;
    } in (
      refl,
      opened_parts s new c.args.batch c.self.inside.signal c.deref_mut.result.now c.open_payloads.new.streams signal streams
          (sym (with_items_is c.self.inside.streams c.open_payloads.new.streams long)) (sym (ap (λ (x : SegmentIn). x.broken) c.self.view_is) ∙ c.if-self.false)
          c.if-self.false signal c.in-Ok.ensures.shows c.in-Ok.ensures.opens,
    )

pub returns-in_ok-refuse_batch-in-Err-clause-opens : goal.returns-in_ok-refuse_batch-in-Err-clause-opens
returns-in_ok-refuse_batch-in-Err-clause-opens c =
    let s = c.args.self.now in
    let signal = ap (λ (x : SegmentIn). x.signal) c.self.view_is in
    let streams = c.deref_mut.ensures.value ∙ ap (λ (x : SegmentIn). x.streams) c.self.view_is in
    stopped_parts s c.refuse_batch.new.self c.args.batch c.in-Err.why c.in_ok-refuse_batch-in-Err.field-0 c.self.inside.signal c.deref_mut.result.now signal streams
    (sym (ap (λ (x : SegmentIn). x.broken) c.self.view_is) ∙ c.if-self.false) (ap (λ (x : SegmentIn). x.broken) c.refuse_batch.ensures.broken)
    (ap (λ (x : SegmentIn). x.signal) c.refuse_batch.ensures.broken ∙ signal) (sym c.in_ok-refuse_batch-in-Err.ensures.refusal) c.in-Err.ensures.refuses
