-- The cells of real spans, events and links of the profile fit their columns.
use Rattle.std.proofs.Common.{◌≡◌, ℕ, ◌<◌, ◌^◌, true, List, ◌∷◌, drop, arith, false}
use Rattle.otlp_model.specs.Profile.{IsProfileEvent, IsProfileLink, IsProfileSpan}
use Rattle.otlp_model.specs.Real.{IsRealEvent, IsRealLink, IsRealSpan}
use Rattle.otlp_model.specs.declared.spans.Span.{Span}
use Rattle.otlp_model.specs.declared.spans.Event.{Event}
use Rattle.otlp_model.specs.declared.spans.Link.{Link}
use Rattle.otap_cells.specs.declared.payload.Kind.TheVariants as table
use Rattle.otap_cells.specs.declared.profile.Base.TheVariants as base
use Rattle.otap_cells.specs.Cells.{Cell, IsCellOf}
use Rattle.otap_cells.specs.Columns.{columns_of, is_id_at, spans, span_events, span_links}
use Rattle.otap_cells.specs.Tables.{IsRow}
use Rattle.otap_groups.proofs.IdColumns.{each_id}
use Rattle.otap_groups.proofs.ProfileRows.{number_fits, text_fits}
use Rattle.otap_attrs.proofs.CellFits.{bits_fit, small_fits, span_fits, trace_fits}
use Rattle.otap_attrs.proofs.AttributeRows.{either_width}
use Rattle.otap_spans.specs.Records.{duration_of, event_cells, link_cells, span_cells}

duration_low : (start end : ℕ) → duration_of start end < 2 ^ 64
duration_low start end = omega arith

pub span_own : (span : Span) → IsRealSpan span → IsProfileSpan span → IsRow (drop 9 spans) (span_cells span)
unfolding spans
span_own span real is = (
  (bits_fit span.start real.start).0,
  (
    (bits_fit (duration_of span.start span.end) (duration_low span.start span.end)).2,
    (
      trace_fits span.trace_id is.trace_id,
      (
        span_fits span.span_id is.span_id,
        (
          text_fits span.trace_state real.trace_state,
          (
            span_fits span.parent_span_id is.parent_span_id,
            (
              text_fits span.name real.name,
              (
                small_fits span.kind real.kind,
                (
                  number_fits span.dropped_pairs real.dropped_pairs,
                  (
                    number_fits span.dropped_events real.dropped_events,
                    (
                      number_fits span.dropped_links real.dropped_links,
                      (small_fits span.status_code real.status_code, (text_fits span.status_message real.status_message, (number_fits span.flags real.flags, tt))),
                    ),
                  ),
                ),
              ),
            ),
          ),
        ),
      ),
    ),
  ),
)

pub event_own : (event : Event) → IsRealEvent event → IsProfileEvent event → IsRow (drop 2 span_events) (event_cells event)
unfolding span_events
event_own event real is = ((bits_fit event.time real.time).0, (text_fits event.name real.name, (number_fits event.dropped real.dropped, tt)))

pub link_own : (link : Link) → IsRealLink link → IsProfileLink link → IsRow (drop 2 span_links) (link_cells link)
unfolding span_links
link_own link real is = (
  trace_fits link.trace_id is.trace_id,
  (span_fits link.span_id is.span_id, (text_fits link.trace_state real.trace_state, (number_fits link.dropped real.dropped, (number_fits link.flags real.flags, tt)))),
)

-- ---- the columns of ids, and the cells after them

pub event_ids : (P : ℕ → Type 0) → P 0 → P 1 → (column : ℕ) → is_id_at table.SpanEvents column ≡ true → P column
unfolding span_events
event_ids P own parent column is = each_id P table.SpanEvents (own, (parent, tt)) column is

pub link_ids : (P : ℕ → Type 0) → P 0 → P 1 → (column : ℕ) → is_id_at table.SpanLinks column ≡ true → P column
unfolding span_links
link_ids P own parent column is = each_id P table.SpanLinks (own, (parent, tt)) column is

pub event_row : (id parent : Cell) (cells : List Cell) → IsCellOf (base.Id true) id → IsCellOf (base.Id true) parent → IsRow (drop 2 span_events) cells
    → IsRow (columns_of table.SpanEvents) (id ∷ parent ∷ cells)
unfolding span_events
event_row id parent cells a b own = (a, (either_width true false parent b, own))

pub link_row : (id parent : Cell) (cells : List Cell) → IsCellOf (base.Id true) id → IsCellOf (base.Id true) parent → IsRow (drop 2 span_links) cells
    → IsRow (columns_of table.SpanLinks) (id ∷ parent ∷ cells)
unfolding span_links
link_row id parent cells a b own = (a, (either_width true false parent b, own))
