-- One field after another, in the words of private contracts: how the messages of spans are read in one pass.
use Rattle.std.specs.Prelude.{[]}
use Rattle.otlp_wire.specs.Wire.{Entry}
use Rattle.otlp_messages.specs.Rows.{at, fixed64_in, fixed32_in, uint32_in, int32_in, bytes_in, embedded_in, many_in}
use Rattle.otlp_model.specs.declared.spans.Span.{Span}
use Rattle.otlp_model.specs.declared.spans.Event.{Event}
use Rattle.otlp_model.specs.declared.spans.Link.{Link}
use Rattle.otlp_codec.specs.declared.spans.SpanStatus.{SpanStatus}
use Rattle.otlp_codec.specs.Groups.{pair_in}
use Rattle.otlp_codec.specs.Spans.{event_in, link_in, span_status_in, span_status_of}

abbrev pub no_event : Event
no_event = record { time = 0; name = []; pairs = []; dropped = 0 }

abbrev pub event_step : Event → Entry → Event
event_step old f = record {
  time = at 1 fixed64_in old.time f;
  name = at 2 bytes_in old.name f;
  pairs = at 3 (many_in pair_in) old.pairs f;
  dropped = at 4 uint32_in old.dropped f;
}

abbrev pub no_link : Link
no_link = record { trace_id = []; span_id = []; trace_state = []; flags = 0; pairs = []; dropped = 0 }

abbrev pub link_step : Link → Entry → Link
link_step old f = record {
  trace_id = at 1 bytes_in old.trace_id f;
  span_id = at 2 bytes_in old.span_id f;
  trace_state = at 3 bytes_in old.trace_state f;
  pairs = at 4 (many_in pair_in) old.pairs f;
  dropped = at 5 uint32_in old.dropped f;
  flags = at 6 fixed32_in old.flags f;
}

abbrev pub status_step : SpanStatus → Entry → SpanStatus
status_step old f = record {
  message = at 2 bytes_in old.message f;
  code = at 3 int32_in old.code f;
}

abbrev pub span_step : Span → Entry → Span
span_step old f = record {
  trace_id = at 1 bytes_in old.trace_id f;
  span_id = at 2 bytes_in old.span_id f;
  trace_state = at 3 bytes_in old.trace_state f;
  parent_span_id = at 4 bytes_in old.parent_span_id f;
  name = at 5 bytes_in old.name f;
  kind = at 6 int32_in old.kind f;
  start = at 7 fixed64_in old.start f;
  end = at 8 fixed64_in old.end f;
  pairs = at 9 (many_in pair_in) old.pairs f;
  dropped_pairs = at 10 uint32_in old.dropped_pairs f;
  events = at 11 (many_in event_in) old.events f;
  dropped_events = at 12 uint32_in old.dropped_events f;
  links = at 13 (many_in link_in) old.links f;
  dropped_links = at 14 uint32_in old.dropped_links f;
  status_message = (at 15 (embedded_in span_status_in) (span_status_of old) f).message;
  status_code = (at 15 (embedded_in span_status_in) (span_status_of old) f).code;
  flags = at 16 fixed32_in old.flags f;
}
