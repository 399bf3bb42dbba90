use Rattle.otap_points.proofs.PointPlaces.{summary_read}
use Rattle.otap_points.proofs.summary_points.SumPointsRowReader.read.Goals as goal

pub returns : goal.returns
returns g c =
    summary_read _ (g.R.Rows.table c.args.self.now.rows.now).rows c.args.row _ c.bytes_in-asked.result.now c.bytes_in-values.result.now c.requires
    c.bytes_in-asked.ensures c.bytes_in-values.ensures c.bits_in.ensures c.bits_in-2.ensures c.bits_in-3.ensures c.bits_in-4.ensures
    c.in_ok-quantiles_in.ensures c.number_in.ensures c.in_ok-of.ensures
