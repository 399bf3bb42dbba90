use Rattle.std.proofs.Common.{◌∙◌}
use Rattle.std.proofs.lemmas.Result.{err_from_is_err_and}
use Rattle.otap_gateway.specs.ResendingSteps.{rows_in}
use Rattle.otap_gateway.proofs.RewrittenFrames.{all_rewritten, fewer, front_rewritten, has_more, rewritten_short, turn_as}
use Rattle.otap_gateway.proofs.runs.resending.resend_all.Goals as goal

pub write_frame-requires : goal.write_frame-requires
write_frame-requires g c =
    let so_far = c.messages.invariant.so_far in
    let turn = turn_as c.args.resender.now.exporter.signal _ _ _ so_far.state (rw c.in-Ok-Some.field-0-is at c.in-Ok-Some.ensures.resends) in
    rw c.deref.ensures.value (rewritten_short (rows_in c.args.resender.now) _ _ _ so_far.state turn)

pub returns-in_err-write_frame-in-Ok-Some-clause-resends : goal.returns-in_err-write_frame-in-Ok-Some-clause-resends
returns-in_err-write_frame-in-Ok-Some-clause-resends g c =
    let p = err_from_is_err_and c.from_residual.result c.from_residual.ensures.1 in
    let so_far = c.messages.invariant.so_far in
    let turn = turn_as c.args.resender.now.exporter.signal _ _ _ so_far.state (rw c.in-Ok-Some.field-0-is at c.in-Ok-Some.ensures.resends) in
    rw p.1 (front_rewritten (rows_in c.args.resender.now) _ _ _ _ _ _ _ so_far turn (rw c.deref.ensures.value at c.in_err-write_frame-in-Ok-Some.ensures.front))

pub messages-smaller : goal.messages-smaller
messages-smaller g c =
    let so_far = c.messages.invariant.so_far in
    let turn = turn_as c.args.resender.now.exporter.signal _ _ _ so_far.state (rw c.in-Ok-Some.field-0-is at c.in-Ok-Some.ensures.resends) in
    fewer (rows_in c.args.resender.now) _ _ _ so_far.state turn

pub messages-preserved : goal.messages-preserved
messages-preserved g c =
    let so_far = c.messages.invariant.so_far in
    let turn = turn_as c.args.resender.now.exporter.signal _ _ _ so_far.state (rw c.in-Ok-Some.field-0-is at c.in-Ok-Some.ensures.resends) in
    record {
      so_far = has_more (rows_in c.args.resender.now) _ _ _ _ _ _ _ so_far turn (rw c.deref.ensures.value at c.in_ok-write_frame-in-Ok-Some.ensures.whole);
      faults = c.in_ok-write_frame-in-Ok-Some.ensures.count ∙ c.messages.invariant.faults;
    }

pub returns-in-Ok-None-clause-resends : goal.returns-in-Ok-None-clause-resends
returns-in-Ok-None-clause-resends g c =
    let so_far = c.messages.invariant.so_far in
    let same = rw c.in-Ok-None.field-0-is at c.in-Ok-None.ensures.unchanged in
    let turn = turn_as c.args.resender.now.exporter.signal _ _ _ so_far.state (rw c.in-Ok-None.field-0-is at c.in-Ok-None.ensures.none) in
    rw same (all_rewritten (rows_in c.args.resender.now) _ _ _ _ so_far (rw same at turn))
