use Rattle.std.proofs.Common.{inl}
use Rattle.std.proofs.lemmas.Result.{IfOk-weaker}
use Rattle.otap_gateway.specs.ResendingSteps.{rows_in}
use Rattle.otap_gateway.proofs.ResentFrames.{sent_short}
use Rattle.otap_gateway.proofs.jobs.resend.send.Goals as goal

pub frame-requires : goal.frame-requires
frame-requires c = rw c.deref.ensures.value (sent_short (rows_in c.args.resender.now) _ _ c.args.request _ c.requires.state c.in-Ok.ensures.sends)

pub returns-in-Ok : goal.returns-in-Ok
returns-in-Ok c = IfOk-weaker _ _ _ (λ reply says. inl (record { message = _; turn = c.in-Ok.ensures.sends; says = rw c.deref.ensures.value at says })) c.frame.ensures
