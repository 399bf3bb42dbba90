use Rattle.otap_points.proofs.PointRows.{summary_sum}
use Rattle.otap_points.proofs.summary_points.summary_cells_weight.Goals as goal

pub returns : goal.returns
returns c = summary_sum c.args.point.now _ _ _ c.len.ensures c.list_weight-list.ensures c.add_capped.ensures
