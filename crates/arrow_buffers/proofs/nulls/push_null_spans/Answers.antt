use Rattle.std.proofs.Common.{length, ap, arith}
use Rattle.arrow_buffers.proofs.Nulling.{length-times}
use Rattle.arrow_buffers.proofs.nulls.push_null_spans.Goals as goal

-- the room for all offsets is there
pub returns-in_err-push_offset-clause-err : goal.returns-in_err-push_offset-clause-err
returns-in_err-push_offset-clause-err c =
    let at = ap length c.rows.invariant.0 in
    let len = length-times c.args.element c.rows.counter c.args.offsets.now.items c.args.values.now in
    let room = c.rows.invariant.1 in
    let there = c.in_err-push_offset.ensures.room (omega arith) in
    cc
