-- What one pass over the fields of a span, an event, a link or a status gives is what it says. Here, since an impl cites it, which can cite specs alone.
use Rattle.std.proofs.Common.{◌≡◌, ℕ, List, refl}
use Rattle.std.specs.Prelude.{fold}
use Rattle.otlp_wire.specs.Fields.{fields_of}
use Rattle.otlp_messages.specs.Rows.{fixed64_in, fixed32_in, uint32_in, int32_in, bytes_in, embedded_in, many_in}
use Rattle.otlp_messages.proofs.Parts.{part_of}
use Rattle.otlp_model.specs.Empty.{no_span}
use Rattle.otlp_codec.specs.Groups.{pair_in}
use Rattle.otlp_codec.specs.Spans.{event_in, link_in, no_status, span_status_in, span_in, span_status_of}
use Rattle.otlp_codec.specs.SpanSteps.{no_event, event_step, no_link, link_step, status_step, span_step}

pub event_passes : (bytes : List ℕ) → fold event_step no_event (fields_of bytes) ≡ event_in bytes
unfolding event_in
event_passes bytes =
    let fs = fields_of bytes in
    λ i. record {
      time = part_of event_step (λ r. r.time) 1 fixed64_in (λ r f. refl) no_event fs i;
      name = part_of event_step (λ r. r.name) 2 bytes_in (λ r f. refl) no_event fs i;
      pairs = part_of event_step (λ r. r.pairs) 3 (many_in pair_in) (λ r f. refl) no_event fs i;
      dropped = part_of event_step (λ r. r.dropped) 4 uint32_in (λ r f. refl) no_event fs i;
    }

pub link_passes : (bytes : List ℕ) → fold link_step no_link (fields_of bytes) ≡ link_in bytes
unfolding link_in
link_passes bytes =
    let fs = fields_of bytes in
    λ i. record {
      trace_id = part_of link_step (λ r. r.trace_id) 1 bytes_in (λ r f. refl) no_link fs i;
      span_id = part_of link_step (λ r. r.span_id) 2 bytes_in (λ r f. refl) no_link fs i;
      trace_state = part_of link_step (λ r. r.trace_state) 3 bytes_in (λ r f. refl) no_link fs i;
      pairs = part_of link_step (λ r. r.pairs) 4 (many_in pair_in) (λ r f. refl) no_link fs i;
      dropped = part_of link_step (λ r. r.dropped) 5 uint32_in (λ r f. refl) no_link fs i;
      flags = part_of link_step (λ r. r.flags) 6 fixed32_in (λ r f. refl) no_link fs i;
    }

pub status_passes : (bytes : List ℕ) → fold status_step no_status (fields_of bytes) ≡ span_status_in bytes
unfolding span_status_in
status_passes bytes =
    let fs = fields_of bytes in
    λ i. record {
      message = part_of status_step (λ r. r.message) 2 bytes_in (λ r f. refl) no_status fs i;
      code = part_of status_step (λ r. r.code) 3 int32_in (λ r f. refl) no_status fs i;
    }

pub span_passes : (bytes : List ℕ) → fold span_step no_span (fields_of bytes) ≡ span_in bytes
unfolding span_in
span_passes bytes =
    let fs = fields_of bytes in
    let status = part_of span_step span_status_of 15 (embedded_in span_status_in) (λ r f. refl) no_span fs in
    λ i. record {
      trace_id = part_of span_step (λ r. r.trace_id) 1 bytes_in (λ r f. refl) no_span fs i;
      span_id = part_of span_step (λ r. r.span_id) 2 bytes_in (λ r f. refl) no_span fs i;
      trace_state = part_of span_step (λ r. r.trace_state) 3 bytes_in (λ r f. refl) no_span fs i;
      parent_span_id = part_of span_step (λ r. r.parent_span_id) 4 bytes_in (λ r f. refl) no_span fs i;
      name = part_of span_step (λ r. r.name) 5 bytes_in (λ r f. refl) no_span fs i;
      kind = part_of span_step (λ r. r.kind) 6 int32_in (λ r f. refl) no_span fs i;
      start = part_of span_step (λ r. r.start) 7 fixed64_in (λ r f. refl) no_span fs i;
      end = part_of span_step (λ r. r.end) 8 fixed64_in (λ r f. refl) no_span fs i;
      pairs = part_of span_step (λ r. r.pairs) 9 (many_in pair_in) (λ r f. refl) no_span fs i;
      dropped_pairs = part_of span_step (λ r. r.dropped_pairs) 10 uint32_in (λ r f. refl) no_span fs i;
      events = part_of span_step (λ r. r.events) 11 (many_in event_in) (λ r f. refl) no_span fs i;
      dropped_events = part_of span_step (λ r. r.dropped_events) 12 uint32_in (λ r f. refl) no_span fs i;
      links = part_of span_step (λ r. r.links) 13 (many_in link_in) (λ r f. refl) no_span fs i;
      dropped_links = part_of span_step (λ r. r.dropped_links) 14 uint32_in (λ r f. refl) no_span fs i;
      status_message = (status i).message;
      status_code = (status i).code;
      flags = part_of span_step (λ r. r.flags) 16 fixed32_in (λ r f. refl) no_span fs i;
    }
