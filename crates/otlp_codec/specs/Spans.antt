-- What spans say, their events, links and statuses (OTLP, trace.proto).
use Rattle.std.specs.Prelude.{ℕ, List, [], pos}
use Rattle.otlp_messages.specs.Rows.{said, fixed64_in, fixed32_in, uint32_in, int32_in, bytes_in, embedded_in, many_in}
use Rattle.otlp_model.specs.declared.spans.Span.{Span}
use Rattle.otlp_model.specs.declared.spans.Event.{Event}
use Rattle.otlp_model.specs.declared.spans.Link.{Link}
use Rattle.otlp_codec.specs.declared.spans.SpanStatus.{SpanStatus}
use Rattle.otlp_codec.specs.Groups.{pair_in}

-- Span.Event
unfoldable pub event_in : List ℕ → Event
event_in bytes = record {
  time = said 1 fixed64_in 0 bytes;
  name = said 2 bytes_in [] bytes;
  pairs = said 3 (many_in pair_in) [] bytes;
  dropped = said 4 uint32_in 0 bytes;
}

-- Span.Link
unfoldable pub link_in : List ℕ → Link
link_in bytes = record {
  trace_id = said 1 bytes_in [] bytes;
  span_id = said 2 bytes_in [] bytes;
  trace_state = said 3 bytes_in [] bytes;
  pairs = said 4 (many_in pair_in) [] bytes;
  dropped = said 5 uint32_in 0 bytes;
  flags = said 6 fixed32_in 0 bytes;
}

-- Status
abbrev pub no_status : SpanStatus
no_status = record { message = []; code = pos 0 }

unfoldable pub span_status_in : List ℕ → SpanStatus
span_status_in bytes = record {
  message = said 2 bytes_in [] bytes;
  code = said 3 int32_in (pos 0) bytes;
}

-- Span
unfoldable pub span_in : List ℕ → Span
span_in bytes = record {
  trace_id = said 1 bytes_in [] bytes;
  span_id = said 2 bytes_in [] bytes;
  trace_state = said 3 bytes_in [] bytes;
  parent_span_id = said 4 bytes_in [] bytes;
  name = said 5 bytes_in [] bytes;
  kind = said 6 int32_in (pos 0) bytes;
  start = said 7 fixed64_in 0 bytes;
  end = said 8 fixed64_in 0 bytes;
  pairs = said 9 (many_in pair_in) [] bytes;
  dropped_pairs = said 10 uint32_in 0 bytes;
  events = said 11 (many_in event_in) [] bytes;
  dropped_events = said 12 uint32_in 0 bytes;
  links = said 13 (many_in link_in) [] bytes;
  dropped_links = said 14 uint32_in 0 bytes;
  status_message = (said 15 (embedded_in span_status_in) no_status bytes).message;
  status_code = (said 15 (embedded_in span_status_in) no_status bytes).code;
  flags = said 16 fixed32_in 0 bytes;
}

-- the status, whose parts are in the span
abbrev pub span_status_of : Span → SpanStatus
span_status_of span = record { message = span.status_message; code = span.status_code }
