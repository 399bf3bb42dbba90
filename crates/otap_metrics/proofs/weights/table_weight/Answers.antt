use Rattle.otap_metrics.proofs.LightHists.{all_can}
use Rattle.otap_metrics.proofs.WrittenWeight.{weighed}
use Rattle.otap_metrics.proofs.weights.table_weight.Goals as goal

pub rows_weight-requires : goal.rows_weight-requires
rows_weight-requires c = all_can c.args.groups.now c.as_slice.result.now c.as_slice.ensures c.requires.profile c.requires.weight

pub returns : goal.returns
returns c = weighed c.args.groups.now c.as_slice.result.now _ c.as_slice.ensures c.rows_weight.ensures
