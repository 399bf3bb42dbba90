use Rattle.std.proofs.Common.{◌≡◌}
use Rattle.otap_gateway.proofs.UnfiledRuns.{HasWritten}
use Rattle.otap_gateway.proofs.runs.unfiling.write_later.Given as goal

abbrev pub invariant-batches : goal.invariant-batches
invariant-batches g l = record {
  so_far : HasWritten l.kind l.file.batches l.place (g.O.Sink.written l.initial.out) (g.O.Sink.written l.out);
  faults : g.O.Sink.faults l.out ≡ g.O.Sink.faults l.initial.out;
}
