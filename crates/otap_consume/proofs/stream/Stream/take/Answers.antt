use Rattle.std.proofs.Common.{◌≡◌, ◌∙◌, sym, rules}
use Rattle.std.specs.Ordering.{int_eq}
use Rattle.otap_capture.specs.Batch.{content_of}
use Rattle.otap_consume.specs.Payloads.{payload_type_of}
use Rattle.otap_consume.proofs.StreamSteps.{passes}
use Rattle.otap_consume.proofs.stream.Stream.take.Goals as goal

pub returns-then-not-is_of-clause-ok : goal.returns-then-not-is_of-clause-ok
returns-then-not-is_of-clause-ok c =
    let reported : c.is_of.result ≡ int_eq c.args.payload.now.kind (payload_type_of c.args.self.now.kind) = search rules in
    passes c.args.self.now (content_of c.args.payload.now) (sym reported ∙ c.if-not-is_of.true)
