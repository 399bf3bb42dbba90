use Rattle.otap_points.proofs.PointPlaces.{hist_read}
use Rattle.otap_points.proofs.hist_points.HistPointsRowReader.read.Goals as goal

pub returns : goal.returns
returns g c =
    hist_read _ (g.R.Rows.table c.args.self.now.rows.now).rows c.args.row _ _ c.requires
    c.bits_in.ensures c.bits_in-2.ensures c.bits_in-3.ensures c.optional_at.ensures c.in_ok-list_at.ensures c.in_ok-list_at-2.ensures
    c.optional_at-2.ensures c.optional_at-3.ensures c.number_in.ensures c.in_ok-of.ensures c.in_ok-of-2.ensures
