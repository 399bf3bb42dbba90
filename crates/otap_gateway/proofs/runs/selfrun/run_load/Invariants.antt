use Rattle.otap_signals.specs.BySignal.{rows_by}
use Rattle.otap_gateway.specs.Runs.{sinks, NoneFailed}
use Rattle.otap_gateway.proofs.LoadRuns.{HasSent}
use Rattle.otap_gateway.proofs.runs.selfrun.run_load.Given as goal

abbrev pub invariant-requests : goal.invariant-requests
invariant-requests g l =
    let before = sinks g.O.Sink l.initial.out g.E.Sink l.err in
    let now = sinks g.O.Sink l.out g.E.Sink l.err in
    record {
      sent : HasSent (rows_by l.load.signal) l.request before.out.written now.out.written l.exporter;
      faults : NoneFailed before now;
    }
