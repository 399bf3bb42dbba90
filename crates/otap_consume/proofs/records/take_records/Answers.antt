use Rattle.std.proofs.Common.{◌∙◌, ◌++◌, ◌∷◌, [], List, sym, ap, refl}
use Rattle.otap_capture.specs.Batch.{content_of}
use Rattle.lists.proofs.Lists.{front_more}
use Rattle.lists.specs.Payloads.{PayloadIn}
use Rattle.otap_consume.proofs.RecordSteps.{takes_none, takes_more, stops_at}
use Rattle.otap_consume.proofs.records.take_records.Goals as goal

pub payloads-init : goal.payloads-init
payloads-init c = record { front = []; whole = refl; takes = takes_none c.args.streams.now; kinds = refl }

pub payloads-preserved : goal.payloads-preserved
payloads-preserved c =
    let kept = c.payloads.invariant in
    let payload = content_of c.in-Some.payload in
    record {
      front = kept.front ++ payload ∷ [];
      whole = front_more _ kept.front c.payloads.payload-iterator payload c.next.new.self kept.whole c.in-Some.ensures.steps;
      takes = takes_more c.args.streams.now c.payloads.streams c.take_payload.new.streams kept.front payload kept.takes c.in_default.ensures.takes c.in_default.ensures.kinds;
      kinds = c.in_default.ensures.kinds ∙ kept.kinds;
    }

pub returns-in-Err-clause-stops : goal.returns-in-Err-clause-stops
returns-in-Err-clause-stops c =
    let kept = c.payloads.invariant in
    let payload = content_of c.in-Some.payload in
    stops_at c.args.streams.now c.payloads.streams kept.front c.next.new.self c.args.batch.now.payloads payload c.in-Err.refusal c.stop_of.result kept.takes
    (sym (c.into_iter-payload-iterator.ensures.into_iter_gives ∙ c.payloads-payload-items.ensures) ∙ kept.whole ∙ ap (λ (ps : List PayloadIn). kept.front ++ ps) c.in-Some.ensures.steps)
    c.in-Err.ensures.refuses c.stop_of.ensures
