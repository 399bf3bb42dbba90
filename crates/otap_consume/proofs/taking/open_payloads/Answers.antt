use Rattle.std.proofs.Common.{sym, subst}
use Rattle.std.proofs.lemmas.Result.{err_from_is_err_and, on_ok_weaker, IfErr-weaker}
use Rattle.otap_consume.specs.declared.not_taken.NotTaken.{NotTaken}
use Rattle.otap_consume.specs.Defects.{Refuses}
use Rattle.otap_consume.specs.Untaken.{SaysDefect}
use Rattle.otap_consume.proofs.IdSteps.{ids_are}
use Rattle.otap_consume.proofs.Stages.{by_types, by_ids, by_records, fine_list, opens}
use Rattle.otap_consume.proofs.taking.open_payloads.Goals as goal

pub returns-in_err-check_types-clause-refuses : goal.returns-in_err-check_types-clause-refuses
returns-in_err-check_types-clause-refuses c =
    let p = err_from_is_err_and c.from_residual.result c.from_residual.ensures.1 in
    rw p.1
    (λ past are.
    let P : NotTaken → Type 0 = SaysDefect (Refuses c.args.signal past c.args.batch.now.payloads) in
    subst P (sym p.2) (by_types c.args.signal past c.args.batch.now.payloads c.in_err-check_types.field-0.0 c.in_err-check_types.ensures))

pub returns-in_err-check_ids-clause-refuses : goal.returns-in_err-check_ids-clause-refuses
returns-in_err-check_ids-clause-refuses c =
    let p = err_from_is_err_and c.from_residual-in_err-check_ids.result c.from_residual-in_err-check_ids.ensures.1 in
    rw p.1
    (λ past are.
    let P : NotTaken → Type 0 = SaysDefect (Refuses c.args.signal past c.args.batch.now.payloads) in
    subst P (sym p.2)
    (by_ids c.args.signal past c.args.batch.now.payloads c.in_err-check_ids.field-0.0
    (c.in_err-check_ids.ensures.stops c.args.signal past (ids_are c.args.signal past c.args.streams.now c.requires are))))

pub returns-clause-opens : goal.returns-clause-opens
returns-clause-opens c =
    on_ok_weaker c.take_records.result
    (opens c.args.signal c.args.batch.now.payloads c.args.streams.now c.requires c.in_ok-check_types.ensures c.in_ok-check_ids.ensures.free c.take_records.new.streams)
    c.take_records.ensures.takes

pub returns-clause-refuses : goal.returns-clause-refuses
returns-clause-refuses c =
    IfErr-weaker c.take_records.result _ _
    (λ stop stops past are.
    by_records c.args.signal past c.args.batch.now.payloads stop
    (fine_list c.args.signal c.args.batch.now.payloads c.args.streams.now c.requires c.in_ok-check_types.ensures c.in_ok-check_ids.ensures.free past are)
    (stops c.args.signal past c.requires are))
    c.take_records.ensures.stops
