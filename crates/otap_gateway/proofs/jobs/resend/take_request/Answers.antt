use Rattle.std.proofs.Common.{sym, subst, ◌∙◌}
use Rattle.std.proofs.lemmas.Result.{IfOk-weaker}
use Rattle.otap_signals.specs.BySignal.{rows_by}
use Rattle.otap_signals.specs.Meanings.{SignalRows}
use Rattle.otap_gateway.specs.ResendingSteps.{SendsOne}
use Rattle.otap_gateway.proofs.ResentFrames.{own_state, read_signal, request_more, rows_same, unread_more}
use Rattle.otap_gateway.proofs.jobs.resend.take_request.Goals as goal

pub send-requires-clause-state : goal.send-requires-clause-state
send-requires-clause-state c = own_state c.args.signal _ c.requires.state

pub send-requires-clause-of_signal : goal.send-requires-clause-of_signal
send-requires-clause-of_signal c = read_signal c.args.signal c.args.part.now _ c.in-Ok.ensures.reads ∙ sym c.requires.state.has.signal

pub returns-in-Ok : goal.returns-in-Ok
returns-in-Ok c =
    let same = rows_same c.args.signal c.args.resender.now c.requires.state in
    IfOk-weaker _ _ _ (λ reply step. request_more (rows_by c.args.signal) _ _ _ _ _ reply c.in-Ok.ensures.reads
    (subst (λ (rows : SignalRows). SendsOne rows c.args.resender.now c.send.new.resender c.args.number c.in-Ok.request reply) same step)) c.send.ensures

pub returns-in_ok-refusal_name-in-Err : goal.returns-in_ok-refusal_name-in-Err
returns-in_ok-refusal_name-in-Err c =
    IfOk-weaker _ _ _ (unread_more (rows_by c.args.signal) _ _ _ _ _ c.in_ok-refusal_name-in-Err.ensures c.in-Err.ensures.fault) c.refused.ensures
