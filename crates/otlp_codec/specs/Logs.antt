-- What a log record says (OTLP, logs.proto).
use Rattle.std.specs.Prelude.{ℕ, List, [], pos}
use Rattle.otlp_messages.specs.Rows.{said, fixed64_in, fixed32_in, uint32_in, int32_in, bytes_in, embedded_in, many_in}
use Rattle.otlp_model.specs.declared.value.Value.TheVariants.{Empty}
use Rattle.otlp_model.specs.declared.logs.LogRecord.{LogRecord}
use Rattle.otlp_codec.specs.Groups.{value_in, pair_in}

-- LogRecord
unfoldable pub log_record_in : List ℕ → LogRecord
log_record_in bytes = record {
  time = said 1 fixed64_in 0 bytes;
  observed = said 11 fixed64_in 0 bytes;
  severity = said 2 int32_in (pos 0) bytes;
  severity_text = said 3 bytes_in [] bytes;
  body = said 5 (embedded_in value_in) Empty bytes;
  pairs = said 6 (many_in pair_in) [] bytes;
  dropped = said 7 uint32_in 0 bytes;
  flags = said 8 fixed32_in 0 bytes;
  trace_id = said 9 bytes_in [] bytes;
  span_id = said 10 bytes_in [] bytes;
  event_name = said 12 bytes_in [] bytes;
}
