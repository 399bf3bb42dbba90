use Rattle.std.proofs.Common.{◌≡◌}
use Rattle.otap_capture.specs.Batch.{content_of}
use Rattle.otap_consume.specs.Streams.{StreamIn, kinds_in}
use Rattle.otap_consume.specs.StreamSteps.{Takes}
use Rattle.otap_consume.proofs.Lists.{UpTo}
use Rattle.otap_consume.proofs.records.take_payload.Given as goal

-- the streams up to the index have taken the payload, the others are as they were
abbrev pub invariant-streams : goal.invariant-streams
invariant-streams l = record {
  to : UpTo (λ (old new : StreamIn). Takes old (content_of l.payload) new) l.initial.streams l.streams l.place;
  kinds : kinds_in l.streams ≡ kinds_in l.initial.streams;
}
