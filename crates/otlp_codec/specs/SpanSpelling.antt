-- The canonical spelling of spans, events, links and statuses.
use Rattle.std.specs.Prelude.{ℕ, List, [], ◌∷◌, ◌++◌, map}
use Rattle.otlp_messages.specs.Canon.{Filled, row, canon, varint_row, signed_row, fixed64_row, fixed32_row, bytes_row, many_row}
use Rattle.otlp_model.specs.declared.spans.Span.{Span}
use Rattle.otlp_model.specs.declared.spans.Event.{Event}
use Rattle.otlp_model.specs.declared.spans.Link.{Link}
use Rattle.otlp_codec.specs.declared.spans.SpanStatus.{SpanStatus}
use Rattle.otlp_codec.specs.Canonical.{canon_pair}
use Rattle.otlp_codec.specs.Spans.{span_status_of}

abbrev pub event_rows : Event → List Filled
event_rows event =
    row 1 (fixed64_row event.time)
    ∷ row 2 (bytes_row event.name)
    ∷ row 3 (many_row (map canon_pair event.pairs))
    ∷ row 4 (varint_row event.dropped)
    ∷ []

unfoldable pub canon_event : Event → List ℕ
canon_event event = canon (event_rows event)

abbrev pub link_rows : Link → List Filled
link_rows link =
    row 1 (bytes_row link.trace_id)
    ∷ row 2 (bytes_row link.span_id)
    ∷ row 3 (bytes_row link.trace_state)
    ∷ row 4 (many_row (map canon_pair link.pairs))
    ∷ row 5 (varint_row link.dropped)
    ∷ row 6 (fixed32_row link.flags)
    ∷ []

unfoldable pub canon_link : Link → List ℕ
canon_link link = canon (link_rows link)

abbrev pub span_status_rows : SpanStatus → List Filled
span_status_rows status =
    row 2 (bytes_row status.message)
    ∷ row 3 (signed_row status.code)
    ∷ []

abbrev pub canon_span_status : SpanStatus → List ℕ
canon_span_status status = canon (span_status_rows status)

-- the first half of a span's fields, and the second
abbrev pub span_front : Span → List Filled
span_front span =
    row 1 (bytes_row span.trace_id)
    ∷ row 2 (bytes_row span.span_id)
    ∷ row 3 (bytes_row span.trace_state)
    ∷ row 4 (bytes_row span.parent_span_id)
    ∷ row 5 (bytes_row span.name)
    ∷ row 6 (signed_row span.kind)
    ∷ row 7 (fixed64_row span.start)
    ∷ row 8 (fixed64_row span.end)
    ∷ []

abbrev pub span_back : Span → List Filled
span_back span =
    row 9 (many_row (map canon_pair span.pairs))
    ∷ row 10 (varint_row span.dropped_pairs)
    ∷ row 11 (many_row (map canon_event span.events))
    ∷ row 12 (varint_row span.dropped_events)
    ∷ row 13 (many_row (map canon_link span.links))
    ∷ row 14 (varint_row span.dropped_links)
    ∷ row 15 (bytes_row (canon_span_status (span_status_of span)))
    ∷ row 16 (fixed32_row span.flags)
    ∷ []

abbrev pub span_rows : Span → List Filled
span_rows span = span_front span ++ span_back span

unfoldable pub canon_span : Span → List ℕ
canon_span span = canon (span_rows span)
