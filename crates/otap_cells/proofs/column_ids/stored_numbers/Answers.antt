use Rattle.std.proofs.Common.{arith}
use Rattle.otap_cells.proofs.ColumnSteps.{stored_more}
use Rattle.otap_cells.proofs.column_ids.stored_numbers.Goals as goal

pub rows-preserved : goal.rows-preserved
rows-preserved g c =
    stored_more (g.R.Rows.table c.args.rows.now) c.args.column c.rows.row _ _ _ _ (omega (arith, c.rows-count.ensures.count))
    c.cell.ensures.value c.id_in.ensures c.rows.invariant c.in_ok-push.ensures.items
