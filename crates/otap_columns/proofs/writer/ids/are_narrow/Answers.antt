use Rattle.std.proofs.Common.{arith}
use Rattle.otap_columns.proofs.NarrowSums.{narrow_at_last, narrow_on}
use Rattle.otap_columns.proofs.writer.ids.are_narrow.Goals as goal

pub rows-preserved : goal.rows-preserved
rows-preserved c =
    narrow_on c.args.table.now c.args.column c.rows.row c.rows.most c.in-Some.next c.rows.invariant c.in-Some.ensures.stays c.in-Some.ensures.small

pub returns : goal.returns
returns c =
    λ is.
    narrow_at_last c.args.table.now c.args.column c.rows.row c.rows.most c.rows.invariant (λ k le. c.set_rows-count.ensures.null k (omega (arith, le, c.rows-test.false)))
