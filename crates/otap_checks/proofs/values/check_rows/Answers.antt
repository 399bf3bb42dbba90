use Rattle.otap_attrs.proofs.TablePairs.{values_more}
use Rattle.otap_checks.proofs.values.check_rows.Goals as goal

pub rows-preserved : goal.rows-preserved
rows-preserved g c = values_more (g.R.Rows.table c.args.rows.now).rows c.args.column c.rows.row c.rows.invariant c.in_ok-check_value.ensures.ok
