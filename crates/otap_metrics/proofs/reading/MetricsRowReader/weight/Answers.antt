use Rattle.otap_metrics.proofs.MetricPlaces.{metric_weighs}
use Rattle.otap_metrics.proofs.reading.MetricsRowReader.weight.Goals as goal

pub returns : goal.returns
returns g c =
    metric_weighs (g.R.Rows.table c.args.self.now.rows.now).rows c.args.row _
    c.bytes_in.result.now c.bytes_in-2.result.now c.bytes_in-3.result.now _ _
    c.requires c.bytes_in.ensures c.bytes_in-2.ensures c.bytes_in-3.ensures c.shape_weight.ensures c.sum_capped.ensures
