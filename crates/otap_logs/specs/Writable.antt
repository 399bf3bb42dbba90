-- Words of private contracts: what of a request of logs can be written.
use Rattle.std.specs.Prelude.{◌≤◌}
use Rattle.otlp_model.specs.Limits.{weight_limit, part_weight}
use Rattle.otlp_model.specs.Profile.{IsTraceId, IsSpanId}
use Rattle.otlp_model.specs.Weight.{total, weight_of_pair, weight_of_value}
use Rattle.otlp_model.specs.declared.logs.LogRecord.{LogRecord}

-- the records that can be written: ids have their lengths, and neither the body nor the attributes weigh more than the limit
pub record CanWriteRecord (log : LogRecord) : Type 0 where
  pub trace_id : IsTraceId log.trace_id
  pub span_id : IsSpanId log.span_id
  pub body : weight_of_value log.body ≤ weight_limit
  pub pairs : total part_weight weight_of_pair log.pairs ≤ weight_limit
