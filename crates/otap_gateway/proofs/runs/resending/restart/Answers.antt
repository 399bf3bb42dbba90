use Rattle.std.proofs.Common.{subst}
use Rattle.std.proofs.lemmas.Result.{err_from_is_err_and}
use Rattle.otap_signals.specs.Meanings.{SignalRows}
use Rattle.otap_gateway.specs.ResendingSteps.{ResendsAll, rows_in}
use Rattle.otap_gateway.proofs.ResentFrames.{own_state, rows_same}
use Rattle.otap_gateway.proofs.RewrittenFrames.{restarts, restarts_none, some_state}
use Rattle.otap_gateway.proofs.runs.resending.restart.Goals as goal

pub returns-in_err-write_reset-clause-restarts : goal.returns-in_err-write_reset-clause-restarts
returns-in_err-write_reset-clause-restarts g c =
    let p = err_from_is_err_and c.from_residual.result c.from_residual.ensures.1 in
    rw p.1 (restarts_none (rows_in c.args.resender.now) _ _ _ c.in_err-write_reset.ensures.front)

pub resend_all-requires : goal.resend_all-requires
resend_all-requires g c =
    record { state = own_state c.args.resender.now.exporter.signal _ (some_state (rows_in c.args.resender.now) _ _ c.requires.state c.reset.ensures) }

pub returns-clause-restarts : goal.returns-clause-restarts
returns-clause-restarts g c =
    let mid = c.reset.new.self in
    let signal = c.args.resender.now.exporter.signal in
    let same = rows_same signal mid (some_state (rows_in c.args.resender.now) _ _ c.requires.state c.reset.ensures) in
    restarts (rows_in c.args.resender.now) _ _ _ _ _ _ c.resend_all.result c.reset.ensures c.in_ok-write_reset.ensures.whole
    (subst (λ (rows : SignalRows). ResendsAll rows mid c.resend_all.new.resender (g.O.Sink.written c.write_reset.new.sink) (g.O.Sink.written c.resend_all.new.out) c.resend_all.result) same
    c.resend_all.ensures.resends)
