use Rattle.std.proofs.Common.{◌≡◌, ap, arith}
use Rattle.otap_cells.specs.Columns.{width_of}
use Rattle.otap_cells.proofs.Adding.{columns_go_up, columns_within}
use Rattle.otap_cells.proofs.weight.most_weight.Goals as goal

pub columns-preserved : goal.columns-preserved
columns-preserved g c =
    columns_go_up (g.R.Rows.table c.args.rows.now).rows _ _ _ _ _ c.columns.invariant c.most_in_column.ensures c.add_capped-total.ensures

pub returns : goal.returns
returns g c =
    let all : c.columns.column ≡ width_of (g.R.Rows.table c.args.rows.now).kind = omega (arith, c.columns-width.ensures.width, ap width_of c.kind.ensures) in
    columns_within (g.R.Rows.table c.args.rows.now) _ _ c.rows.ensures.sound all c.columns.invariant
