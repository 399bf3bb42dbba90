use Rattle.otap_metrics.proofs.MetricPlaces.{metric_read}
use Rattle.otap_metrics.proofs.reading.MetricsRowReader.read.Goals as goal

pub returns : goal.returns
returns g c =
    metric_read _ (g.R.Rows.table c.args.self.now.rows.now).rows c.args.row _
    c.requires c.in_ok-text_in.ensures c.in_ok-text_in-2.ensures c.in_ok-text_in-3.ensures c.in_ok-shape.ensures
