-- Spans, events and links as rows: the own cells of each, and what such cells make.
use Rattle.std.specs.Prelude.{ℕ, ◌+◌, ◌-◌, ◌^◌, ◌%◌, List, [], ◌∷◌, codes}
use Rattle.otlp_model.specs.declared.value.Pair.{Pair}
use Rattle.otlp_model.specs.declared.spans.Span.{Span}
use Rattle.otlp_model.specs.declared.spans.Event.{Event}
use Rattle.otlp_model.specs.declared.spans.Link.{Link}
use Rattle.otap_cells.specs.ByName.{cell_of}
use Rattle.otap_cells.specs.Cells.{Cell, bytes_in, nat_in}
use Rattle.otap_cells.specs.Columns.{own_events, own_links, own_spans}
use Rattle.otap_cells.specs.Scalars.{text_cell, number_cell, int_cell, bits_cell, int_in, bits_in}

-- ---- times: a duration is the end minus the start modulo 2^64, also where the end is before the start

abbrev pub duration_of : ℕ → ℕ → ℕ
duration_of start end = (end + (2 ^ 64 - start)) % 2 ^ 64

abbrev pub end_time : ℕ → ℕ → ℕ
end_time start duration = (start + duration) % 2 ^ 64

-- ---- writing

abbrev pub span_cells : Span → List Cell
span_cells span =
    bits_cell span.start ∷ bits_cell (duration_of span.start span.end) ∷ text_cell span.trace_id ∷ text_cell span.span_id
    ∷ text_cell span.trace_state ∷ text_cell span.parent_span_id ∷ text_cell span.name ∷ int_cell span.kind
    ∷ number_cell span.dropped_pairs ∷ number_cell span.dropped_events ∷ number_cell span.dropped_links
    ∷ int_cell span.status_code ∷ text_cell span.status_message ∷ number_cell span.flags ∷ []

abbrev pub event_cells : Event → List Cell
event_cells event = bits_cell event.time ∷ text_cell event.name ∷ number_cell event.dropped ∷ []

abbrev pub link_cells : Link → List Cell
link_cells link =
    text_cell link.trace_id ∷ text_cell link.span_id ∷ text_cell link.trace_state ∷ number_cell link.dropped ∷ number_cell link.flags ∷ []

-- ---- reading; null reads as the default

-- THE SPAN that cells, pairs, events and links make
unfoldable pub span_of : List Cell → List Pair → List Event → List Link → Span
span_of cells pairs events links = record {
  trace_id = bytes_in (cell_of own_spans (codes "trace_id") cells);
  span_id = bytes_in (cell_of own_spans (codes "span_id") cells);
  parent_span_id = bytes_in (cell_of own_spans (codes "parent_span_id") cells);
  trace_state = bytes_in (cell_of own_spans (codes "trace_state") cells);
  name = bytes_in (cell_of own_spans (codes "name") cells);
  kind = int_in (cell_of own_spans (codes "kind") cells);
  start = bits_in (cell_of own_spans (codes "start_time_unix_nano") cells);
  end = end_time
      (bits_in (cell_of own_spans (codes "start_time_unix_nano") cells))
      (bits_in (cell_of own_spans (codes "duration_time_unix_nano") cells));
  flags = nat_in (cell_of own_spans (codes "flags") cells);
  pairs = pairs;
  dropped_pairs = nat_in (cell_of own_spans (codes "dropped_attributes_count") cells);
  events = events;
  dropped_events = nat_in (cell_of own_spans (codes "dropped_events_count") cells);
  links = links;
  dropped_links = nat_in (cell_of own_spans (codes "dropped_links_count") cells);
  status_code = int_in (cell_of own_spans (codes "status.code") cells);
  status_message = bytes_in (cell_of own_spans (codes "status.status_message") cells);
}

-- THE EVENT, and THE LINK, that cells and pairs make
unfoldable pub event_of : List Cell → List Pair → Event
event_of cells pairs = record {
  time = bits_in (cell_of own_events (codes "time_unix_nano") cells);
  name = bytes_in (cell_of own_events (codes "name") cells);
  pairs = pairs;
  dropped = nat_in (cell_of own_events (codes "dropped_attributes_count") cells);
}

unfoldable pub link_of : List Cell → List Pair → Link
link_of cells pairs = record {
  trace_id = bytes_in (cell_of own_links (codes "trace_id") cells);
  span_id = bytes_in (cell_of own_links (codes "span_id") cells);
  trace_state = bytes_in (cell_of own_links (codes "trace_state") cells);
  flags = nat_in (cell_of own_links (codes "flags") cells);
  pairs = pairs;
  dropped = nat_in (cell_of own_links (codes "dropped_attributes_count") cells);
}
