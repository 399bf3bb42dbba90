use Rattle.std.proofs.Common.{◌∙◌, ◌++◌, ap, sym, arith}
use Rattle.otap_kept.proofs.WrittenSteps.{saying_none}
use Rattle.otap_kept.proofs.holders.parents_saying.Goals as goal

pub rows-preserved-in_default : goal.rows-preserved-in_default
rows-preserved-in_default g c =
    let rows = (g.R.Rows.table c.args.rows.now).rows in
    ap (λ parents. c.rows.found.items ++ parents) (sym (saying_none c.args.pair.now c.args.parents.now rows c.rows.row
    (omega (arith, c.rows-test.true, c.rows-row-end.ensures.count, c.requires.long)) (omega (arith, c.rows-test.true, c.rows-row-end.ensures.count)) c.in_default.is))
    ∙ c.rows.invariant
