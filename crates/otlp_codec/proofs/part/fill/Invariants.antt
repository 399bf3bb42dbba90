use Rattle.otlp_codec.specs.Limits.{level_limit}
use Rattle.otlp_codec.proofs.Passing.{PassesFields}
use Rattle.otlp_codec.proofs.part.fill.Given as goal

abbrev pub invariant-fields : goal.invariant-fields
invariant-fields g l = PassesFields g.P.Submessage.named level_limit g.P.Submessage.step g.P.Submessage.none l.bytes l.seen l.next-iterator l.part
