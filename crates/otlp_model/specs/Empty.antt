-- Items of which nothing is set: what a message without fields says.
use Rattle.std.specs.Prelude.{[], pos}
use Rattle.otlp_model.specs.declared.logs.LogRecord.{LogRecord}
use Rattle.otlp_model.specs.declared.spans.Span.{Span}
use Rattle.otlp_model.specs.declared.value.Value.TheVariants.{Empty}

abbrev pub no_log_record : LogRecord
no_log_record = record {
  time = 0;
  observed = 0;
  severity = pos 0;
  severity_text = [];
  body = Empty;
  pairs = [];
  dropped = 0;
  flags = 0;
  trace_id = [];
  span_id = [];
  event_name = [];
}

abbrev pub no_span : Span
no_span = record {
  trace_id = [];
  span_id = [];
  parent_span_id = [];
  trace_state = [];
  name = [];
  kind = pos 0;
  start = 0;
  end = 0;
  flags = 0;
  pairs = [];
  dropped_pairs = 0;
  events = [];
  dropped_events = 0;
  links = [];
  dropped_links = 0;
  status_code = pos 0;
  status_message = [];
}
