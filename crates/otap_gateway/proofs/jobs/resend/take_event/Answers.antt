use Rattle.std.proofs.Common.{subst}
use Rattle.std.proofs.lemmas.Result.{IfOk-weaker}
use Rattle.otap_capture.specs.Statuses.{status_content}
use Rattle.otap_signals.specs.BySignal.{rows_by}
use Rattle.otap_signals.specs.Meanings.{SignalRows}
use Rattle.otap_gateway.specs.ResendingSteps.{TakesStatus}
use Rattle.otap_gateway.proofs.ResentFrames.{event_ill, event_request, event_status, rows_same}
use Rattle.otap_gateway.proofs.jobs.resend.take_event.Goals as goal

pub returns-in-Err : goal.returns-in-Err
returns-in-Err c = IfOk-weaker _ _ _ (λ reply says. event_ill (rows_by c.args.signal) _ _ _ _ _ reply c.in-Err.ensures.refused (rw c.unread_name.ensures at says)) c.refused_event.ensures

pub returns-in-Ok-Request : goal.returns-in-Ok-Request
returns-in-Ok-Request c = IfOk-weaker _ _ _ (λ reply taken. event_request (rows_by c.args.signal) _ _ _ _ _ _ reply (rw c.in-Ok-Request.field-0-is at c.in-Ok-Request.ensures.read) taken) c.take_request.ensures

pub returns-in-Ok-Status : goal.returns-in-Ok-Status
returns-in-Ok-Status c =
    let old = c.args.resender.now in
    let same = rows_same c.args.signal old c.requires.state in
    IfOk-weaker _ _ _ (λ reply taken. event_status (rows_by c.args.signal) _ _ _ _ _ _ _ reply (rw c.in-Ok-Status.field-0-is at c.in-Ok-Status.ensures.read)
    (subst (λ (rows : SignalRows). TakesStatus rows old c.take_status.new.resender c.args.counts.now c.take_status.new.counts c.args.number (status_content c.in-Ok-Status.status) reply) same taken))
    c.take_status.ensures
