use Rattle.std.proofs.Common.{◌≡◌, [], length}
use Rattle.std.specs.Io.KnownBytes.{Keeps}
use Rattle.otap_capture.proofs.Known.{IsPartWritten}
use Rattle.otap_capture.proofs.outside.write_whole.Given as goal

abbrev pub invariant-parts : goal.invariant-parts
invariant-parts g l = record {
  bytes : IsPartWritten (g.K.Sink.written l.initial.sink) (g.K.Sink.written l.sink) l.part l.rest;
  kept : Keeps (g.K.Sink.passed l.initial.sink) (g.K.Sink.passed l.sink);
  count : g.K.Sink.faults l.sink ≡ g.K.Sink.faults l.initial.sink;
  nothing : l.part ≡ [] → (l.rest ≡ []) × (l.sink ≡ l.initial.sink);
}

abbrev pub decreases-parts : goal.decreases-parts
decreases-parts g l = length l.rest
