use Rattle.std.proofs.Common.{◌≡◌, [], take}
use Rattle.otap_consume.specs.Streams.{AreAfter, kinds_in}
use Rattle.otap_consume.proofs.segment.Segment.new.Given as goal

abbrev pub invariant-kinds : goal.invariant-kinds
invariant-kinds l = record {
  kinds : kinds_in l.streams.items ≡ take l.kind-index l.kind-items;
  empty : AreAfter [] l.streams.items;
}
