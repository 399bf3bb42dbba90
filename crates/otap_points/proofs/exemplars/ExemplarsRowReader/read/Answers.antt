use Rattle.otap_points.proofs.PointPlaces.{exemplar_read}
use Rattle.otap_points.proofs.exemplars.ExemplarsRowReader.read.Goals as goal

pub returns : goal.returns
returns g c =
    exemplar_read _ (g.R.Rows.table c.args.self.now.rows.now).rows c.args.row _
    c.requires c.bits_in.ensures c.measured_at-value.ensures c.in_ok-octets_in.ensures c.in_ok-octets_in-2.ensures c.in_ok-of.ensures
