use Rattle.otap_attrs.proofs.AttributeRows.{has_value}
use Rattle.otap_attrs.proofs.TablePairs.{values_more}
use Rattle.otap_attrs.proofs.index.check_values.Goals as goal

pub check_value-requires-clause-columns : goal.check_value-requires-clause-columns
check_value-requires-clause-columns g c = has_value _ c.requires

pub rows-preserved : goal.rows-preserved
rows-preserved g c = values_more (g.R.Rows.table c.args.rows.now).rows 2 c.rows.row c.rows.invariant c.in_ok-check_value.ensures.ok
