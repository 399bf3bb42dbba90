use Rattle.std.proofs.Common.{inr, refl, subst, sym}
use Rattle.std.proofs.lemmas.Bool.{false≢true}
use Rattle.std.proofs.lemmas.Result.{err_from_is_err_and}
use Rattle.lists.proofs.Known.{Keeps-refl}
use Rattle.otap_signals.specs.BySignal.{rows_by}
use Rattle.otap_signals.specs.Meanings.{SignalRows}
use Rattle.otap_gateway.specs.Endings.{AnswerOf, BegunOf}
use Rattle.otap_gateway.specs.ResendingSteps.{RestartsPart, RestartsWhole}
use Rattle.otap_gateway.proofs.ResendReplies.{are_few, event_handled, packed_handled, reset_begun, reset_handled, some_stood}
use Rattle.otap_gateway.proofs.ResentFrames.{own_state, rows_same}
use Rattle.otap_gateway.proofs.runs.resending.ResendJobHandler.handle.Goals as goal

pub take_event-requires-clause-few : goal.take_event-requires-clause-few
take_event-requires-clause-few g c = are_few (rows_by c.args.self.now.signal) c.args.self.now.window _ _ c.args.number c.requires.history c.requires.few

pub returns-in-Ok-clause-handles : goal.returns-in-Ok-clause-handles
unfolding AnswerOf BegunOf
returns-in-Ok-clause-handles g c =
    rw c.in-Message.is (event_handled (rows_by c.args.self.now.signal) c.args.self.now.window _ _ _ _ _ _ _ _ _ _ c.write_reply.ensures.writes
    c.in-Ok.ensures)

pub returns-in-Ok-refused_event-clause-handles : goal.returns-in-Ok-refused_event-clause-handles
unfolding AnswerOf BegunOf
returns-in-Ok-refused_event-clause-handles g c =
    rw c.in-Packed.is (packed_handled (rows_by c.args.self.now.signal) c.args.self.now.window _ _ _ _ _ _ _ c.write_reply-in-Packed.ensures.writes c.in-Ok-refused_event.ensures)

pub restart-requires : goal.restart-requires
restart-requires g c = record {
  state = own_state c.args.self.now.signal _ (some_stood (rows_by c.args.self.now.signal) c.args.self.now.window _ _ c.args.number c.requires.history);
}

pub returns-in_err-restart-in-Reset-clause-handles : goal.returns-in_err-restart-in-Reset-clause-handles
unfolding AnswerOf BegunOf
returns-in_err-restart-in-Reset-clause-handles g c =
    let p = err_from_is_err_and c.from_residual.result c.from_residual.ensures.1 in
    let job = c.args.self.now in
    let same = rows_same job.signal job.resender (some_stood (rows_by job.signal) job.window job.resender job.counts c.args.number c.requires.history) in
    rw (p.1, c.in-Reset.is) (inr (reset_begun (rows_by job.signal) job.window _ _ _ _ _
    (subst (λ (rows : SignalRows). RestartsPart rows job.resender (g.O.Sink.written c.args.out.now) (g.O.Sink.written c.restart.new.out)) same
    c.in_err-restart-in-Reset.ensures.restarts) (Keeps-refl _)))

pub returns-in_ok-restart-in-Reset-clause-handles : goal.returns-in_ok-restart-in-Reset-clause-handles
unfolding AnswerOf BegunOf
returns-in_ok-restart-in-Reset-clause-handles g c =
    let job = c.args.self.now in
    let same = rows_same job.signal job.resender (some_stood (rows_by job.signal) job.window job.resender job.counts c.args.number c.requires.history) in
    rw c.in-Reset.is (reset_handled (rows_by job.signal) job.window _ _ _ _ _ _ _
    (subst (λ (rows : SignalRows). RestartsWhole rows job.resender c.restart.new.resender (g.O.Sink.written c.args.out.now) (g.O.Sink.written c.restart.new.out)) same
    c.in_ok-restart-in-Reset.ensures.restarts) (Keeps-refl _) refl (λ quiet. false≢true (sym quiet)))
