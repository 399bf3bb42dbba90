use Rattle.otap_spans.proofs.SpanRows.{own_weight}
use Rattle.otap_spans.proofs.writers.span_weight.Goals as goal

pub returns : goal.returns
returns c =
    own_weight c.args.span.now _ _ _ _ _ _ _ c.len.ensures c.len-2.ensures c.len-3.ensures c.len-4.ensures c.len-5.ensures c.len-6.ensures c.sum_capped.ensures
