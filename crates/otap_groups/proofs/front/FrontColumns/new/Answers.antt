use Rattle.otap_groups.proofs.FrontRows.{own_cells}
use Rattle.otap_groups.proofs.front.FrontColumns.new.Goals as goal

pub returns-clause-own : goal.returns-clause-own
returns-clause-own g c = own_cells c.args.ids.now c.args.resource_ids.now c.args.scope_ids.now (g.R.Rows.table c.args.rows.now).rows
