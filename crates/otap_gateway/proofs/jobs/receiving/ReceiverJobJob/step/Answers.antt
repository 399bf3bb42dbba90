use Rattle.std.proofs.Common.{IfOk, subst, sym}
use Rattle.otlp_model.specs.declared.request.Signal.{Signal}
use Rattle.otap_capture.specs.Capture.{frame_of}
use Rattle.otap_signals.specs.BySignal.{meaning_by}
use Rattle.otap_consume.specs.Receivers.{weighed_as}
use Rattle.otap_gateway.specs.declared.jobs.command.Command.TheVariants as command
use Rattle.otap_gateway.specs.declared.jobs.command.ReceiverText.TheVariants as text
use Rattle.otap_gateway.specs.Commands.{ReplyOf}
use Rattle.otap_gateway.specs.Jobs.{Extends}
use Rattle.otap_gateway.specs.JobStates.{HasReplied}
use Rattle.otap_gateway.specs.Receptions.{decoded, replayed, statused}
use Rattle.otap_gateway.proofs.Extending.{extends_ok}
use Rattle.otap_gateway.proofs.Replying.{receiver_replies}
use Rattle.otap_gateway.proofs.jobs.receiving.ReceiverJobJob.step.Goals as goal

pub returns-in_ok-given-in-Decode-clause-next : goal.returns-in_ok-given-in-Decode-clause-next
unfolding ReplyOf
returns-in_ok-given-in-Decode-clause-next c =
    let signal : Signal = c.args.self.now.receiver.signal in
    let gives = c.in_ok-given-in-Decode.ensures.next in
    rw c.in-Decode.is
    (subst
    (λ (s : Signal). IfOk c.decode.result (Extends (ReplyOf (command.Receive text.Decode signal)) (HasReplied (meaning_by signal) decoded c.args.self.now.receiver)
    (HasReplied (meaning_by s) decoded c.request.new.self) c.args.number (frame_of c.args.frame.now)))
    (sym c.in_ok-given-in-Decode.ensures.signal)
    (extends_ok _ _ _ _ _ _ _ c.decode.ensures
    (λ reply says. receiver_replies (meaning_by signal) decoded _ _ _ (weighed_as c.in_ok-given-in-Decode.given gives.rows gives.tree) _ gives.receives reply (says gives.rows gives.tree))))

pub returns-in_ok-given-in-Status-clause-next : goal.returns-in_ok-given-in-Status-clause-next
unfolding ReplyOf
returns-in_ok-given-in-Status-clause-next c =
    let signal : Signal = c.args.self.now.receiver.signal in
    let gives = c.in_ok-given-in-Status.ensures.next in
    rw c.in-Status.is
    (subst
    (λ (s : Signal). IfOk c.status_of.result (Extends (ReplyOf (command.Receive text.Status signal)) (HasReplied (meaning_by signal) statused c.args.self.now.receiver)
    (HasReplied (meaning_by s) statused c.request-in-Status.new.self) c.args.number (frame_of c.args.frame.now)))
    (sym c.in_ok-given-in-Status.ensures.signal)
    (extends_ok _ _ _ _ _ _ _ c.status_of.ensures
    (λ reply says. receiver_replies (meaning_by signal) statused _ _ _ (weighed_as c.in_ok-given-in-Status.given gives.rows gives.tree) _ gives.receives reply (says gives.rows gives.tree))))

pub returns-in_ok-taken-in-Replay-clause-next : goal.returns-in_ok-taken-in-Replay-clause-next
unfolding ReplyOf
returns-in_ok-taken-in-Replay-clause-next c =
    let signal : Signal = c.args.self.now.receiver.signal in
    rw c.in-Replay.is
    (subst
    (λ (s : Signal). IfOk c.replay.result (Extends (ReplyOf (command.Receive text.Replay signal)) (HasReplied (meaning_by signal) replayed c.args.self.now.receiver)
    (HasReplied (meaning_by s) replayed c.take.new.self) c.args.number (frame_of c.args.frame.now)))
    (sym c.in_ok-taken-in-Replay.ensures.signal)
    (extends_ok _ _ _ _ _ _ _ c.replay.ensures
    (receiver_replies (meaning_by signal) replayed _ _ _ _ _ c.in_ok-taken-in-Replay.ensures.next)))
