use Rattle.std.proofs.Common.{◌∙◌, arith, refl}
use Rattle.otap_capture.specs.Batch.{content_of}
use Rattle.otap_consume.specs.Streams.{StreamIn}
use Rattle.otap_consume.specs.StreamSteps.{Takes}
use Rattle.otap_consume.proofs.Lists.{up_to_none, up_to_more}
use Rattle.otap_consume.proofs.RecordSteps.{kinds_set}
use Rattle.otap_consume.proofs.records.take_payload.Goals as goal

pub streams-init : goal.streams-init
streams-init c = record { to = up_to_none (λ (old new : StreamIn). Takes old (content_of c.args.payload.now) new) c.args.streams.now; kinds = refl }

pub streams-preserved : goal.streams-preserved
streams-preserved c = record {
  to = up_to_more (λ (old new : StreamIn). Takes old (content_of c.args.payload.now) new) c.args.streams.now c.streams.streams c.streams.place c.index-streams-place.result c.take.new.self
      c.streams.auto.streams (omega arith) c.in_ok-take.ensures.ok c.streams.invariant.to;
  kinds = kinds_set c.streams.streams c.streams.place c.index-streams-place.result c.take.new.self (omega arith) c.take.ensures.kind ∙ c.streams.invariant.kinds;
}

pub returns-in_err-take-clause-kinds : goal.returns-in_err-take-clause-kinds
returns-in_err-take-clause-kinds c =
    kinds_set c.streams.streams c.streams.place c.index-streams-place.result c.take.new.self (omega arith) c.take.ensures.kind ∙ c.streams.invariant.kinds
