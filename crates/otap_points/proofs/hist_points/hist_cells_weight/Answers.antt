use Rattle.otap_points.proofs.PointRows.{hist_sum}
use Rattle.otap_points.proofs.hist_points.hist_cells_weight.Goals as goal

pub returns : goal.returns
returns c = hist_sum c.args.point.now _ _ _ _ _ c.len.ensures c.len-2.ensures c.list_weight.ensures c.list_weight-2.ensures c.add_capped.ensures
