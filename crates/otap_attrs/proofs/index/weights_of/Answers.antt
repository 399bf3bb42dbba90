use Rattle.std.proofs.Common.{arith}
use Rattle.otap_attrs.proofs.IndexedPairs.{weights_more}
use Rattle.otap_attrs.proofs.index.weights_of.Goals as goal

pub rows-preserved : goal.rows-preserved
rows-preserved g c =
    weights_more (g.R.Rows.table c.args.rows.now).rows c.rows.row _ _ _ (omega (arith, c.rows-count.ensures.count))
    c.weight.ensures c.in_ok-push.ensures.items c.rows.invariant
