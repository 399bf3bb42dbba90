use Rattle.std.proofs.Common.{◌≡◌, count_by}
use Rattle.otap_resend.specs.States.{is_unwritten}
use Rattle.otap_gateway.specs.ResendingSteps.{rows_in}
use Rattle.otap_gateway.proofs.RewrittenFrames.{HasRewritten}
use Rattle.otap_gateway.proofs.runs.resending.resend_all.Given as goal

abbrev pub invariant-messages : goal.invariant-messages
invariant-messages g l = record {
  so_far : HasRewritten (rows_in l.initial.resender) l.initial.resender l.resender (g.O.Sink.written l.initial.out) (g.O.Sink.written l.out);
  faults : g.O.Sink.faults l.out ≡ g.O.Sink.faults l.initial.out;
}

abbrev pub decreases-messages : goal.decreases-messages
decreases-messages g l = count_by is_unwritten l.resender.unanswered
