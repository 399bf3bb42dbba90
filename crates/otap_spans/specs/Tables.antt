-- The tables of a request of spans.
use Rattle.std.specs.Prelude.{◌∷◌, [], List, map}
use Rattle.std.specs.List.{flat_map}
use Rattle.otlp_model.specs.declared.groups.ResourceGroup.{ResourceGroup}
use Rattle.otlp_model.specs.declared.spans.Span.{Span}
use Rattle.otlp_model.specs.declared.spans.Event.{Event}
use Rattle.otlp_model.specs.declared.spans.Link.{Link}
use Rattle.otlp_model.specs.declared.value.Pair.{Pair}
use Rattle.otap_cells.specs.declared.payload.Kind.TheVariants as table
use Rattle.otap_cells.specs.Places.{main_id, part_id, resource_id, scope_id}
use Rattle.otap_cells.specs.Tables.{Table}
use Rattle.otap_groups.specs.Flat.{items_of, resource_pairs, scope_pairs}
use Rattle.otap_checks.specs.Written.{Written, pairs_below, parts_below, tables_written}
use Rattle.otap_spans.specs.Records.{span_cells, event_cells, link_cells}

-- the events of each span, and all of them; the same of links
abbrev pub event_lists : List (ResourceGroup Span) → List (List Event)
event_lists groups = map (λ span. span.events) (items_of groups)

abbrev pub all_events : List (ResourceGroup Span) → List Event
all_events groups = flat_map (λ (span : Span). span.events) (items_of groups)

abbrev pub link_lists : List (ResourceGroup Span) → List (List Link)
link_lists groups = map (λ span. span.links) (items_of groups)

abbrev pub all_links : List (ResourceGroup Span) → List Link
all_links groups = flat_map (λ (span : Span). span.links) (items_of groups)

-- the attributes of each span, each event and each link
abbrev pub span_pairs : List (ResourceGroup Span) → List (List Pair)
span_pairs groups = map (λ span. span.pairs) (items_of groups)

abbrev pub event_pairs : List (ResourceGroup Span) → List (List Pair)
event_pairs groups = map (λ event. event.pairs) (all_events groups)

abbrev pub link_pairs : List (ResourceGroup Span) → List (List Pair)
link_pairs groups = map (λ link. link.pairs) (all_links groups)

-- below the spans: the attributes of resources, scopes and spans, the events, the links, and the attributes of both
abbrev pub below_spans : List (ResourceGroup Span) → List Written
below_spans groups =
    pairs_below table.ResourceAttrs table.Spans resource_id (resource_pairs groups)
    ∷ pairs_below table.ScopeAttrs table.Spans scope_id (scope_pairs groups)
    ∷ pairs_below table.SpanAttrs table.Spans main_id (span_pairs groups)
    ∷ parts_below table.SpanEvents table.Spans event_cells (event_lists groups)
    ∷ parts_below table.SpanLinks table.Spans link_cells (link_lists groups)
    ∷ pairs_below table.EventAttrs table.SpanEvents part_id (event_pairs groups)
    ∷ pairs_below table.LinkAttrs table.SpanLinks part_id (link_pairs groups)
    ∷ []

-- THE TABLES of a request: its spans, and of the tables below them those that have rows
unfoldable pub tables_of_spans : List (ResourceGroup Span) → List Table
tables_of_spans groups = tables_written table.Spans span_cells (below_spans groups) groups
