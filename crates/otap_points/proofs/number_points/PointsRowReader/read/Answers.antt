use Rattle.otap_points.proofs.PointPlaces.{point_read}
use Rattle.otap_points.proofs.number_points.PointsRowReader.read.Goals as goal

pub returns : goal.returns
returns g c =
    point_read _ (g.R.Rows.table c.args.self.now.rows.now).rows c.args.row _ _
    c.requires c.bits_in.ensures c.bits_in-2.ensures c.measured_at-value.ensures c.number_in.ensures c.in_ok-of.ensures c.in_ok-of-2.ensures
