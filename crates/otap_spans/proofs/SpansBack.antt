-- Spans, events and links come back from their cells.
use Rattle.std.proofs.Common.{◌≡◌, ℕ, ◌^◌, ◌<◌, ◌∙◌, arith}
use Rattle.otlp_model.specs.declared.spans.Span.{Span}
use Rattle.otlp_model.specs.declared.spans.Event.{Event}
use Rattle.otlp_model.specs.declared.spans.Link.{Link}
use Rattle.otap_cells.specs.Scalars.{bits_cell, bits_in}
use Rattle.otap_cells.proofs.ScalarLaws.{text_back, number_back, int_back, bits_back}
use Rattle.otap_spans.specs.Records.{duration_of, end_time, event_cells, event_of, link_cells, link_of, span_cells, span_of}

-- the end is the start and the duration, also where it is before the start
pub end_back : (start end : ℕ) → start < 2 ^ 64 → end < 2 ^ 64 → end_time start (duration_of start end) ≡ end
end_back start end low high = omega arith

pub span_back : (span : Span) → span.start < 2 ^ 64 → span.end < 2 ^ 64 → span_of (span_cells span) span.pairs span.events span.links ≡ span
unfolding span_of
span_back span low high =
    let start : bits_in (bits_cell span.start) ≡ span.start = bits_back span.start in
    let duration : bits_in (bits_cell (duration_of span.start span.end)) ≡ duration_of span.start span.end = bits_back (duration_of span.start span.end) in λ i. record span {
      trace_id = text_back span.trace_id i;
      span_id = text_back span.span_id i;
      parent_span_id = text_back span.parent_span_id i;
      trace_state = text_back span.trace_state i;
      name = text_back span.name i;
      kind = int_back span.kind i;
      start = start i;
      end = ((λ j. end_time (start j) (duration j)) ∙ end_back span.start span.end low high) i;
      flags = number_back span.flags i;
      dropped_pairs = number_back span.dropped_pairs i;
      dropped_events = number_back span.dropped_events i;
      dropped_links = number_back span.dropped_links i;
      status_code = int_back span.status_code i;
      status_message = text_back span.status_message i;
    }

pub event_back : (event : Event) → event_of (event_cells event) event.pairs ≡ event
unfolding event_of
event_back event = λ i. record event { time = bits_back event.time i; name = text_back event.name i; dropped = number_back event.dropped i }

pub link_back : (link : Link) → link_of (link_cells link) link.pairs ≡ link
unfolding link_of
link_back link = λ i. record link {
  trace_id = text_back link.trace_id i;
  span_id = text_back link.span_id i;
  trace_state = text_back link.trace_state i;
  flags = number_back link.flags i;
  dropped = number_back link.dropped i;
}
