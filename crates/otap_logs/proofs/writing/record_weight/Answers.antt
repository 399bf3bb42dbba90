use Rattle.otap_logs.proofs.RecordRows.{own_weight}
use Rattle.otap_logs.proofs.writing.record_weight.Goals as goal

pub returns : goal.returns
returns c =
    own_weight c.args.log.now _ _ _ _ _ _ c.len.ensures c.len-2.ensures c.len-3.ensures c.value_cells_weight.ensures c.len-4.ensures c.sum_capped.ensures
