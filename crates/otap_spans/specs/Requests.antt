-- The request that tables of spans make, and what may be wrong with their rows.
use Rattle.std.specs.Prelude.{ℕ, List, Option}
use Rattle.otlp_model.specs.declared.groups.ResourceGroup.{ResourceGroup}
use Rattle.otlp_model.specs.declared.spans.Span.{Span}
use Rattle.otlp_model.specs.declared.spans.Event.{Event}
use Rattle.otlp_model.specs.declared.spans.Link.{Link}
use Rattle.otlp_model.specs.declared.request.Request.TheVariants.{Traces}
use Rattle.otlp_model.specs.declared.request.Signal.TheVariants as signal
use Rattle.otlp_model.specs.Weight.{weight_of}
use Rattle.otap_cells.specs.declared.payload.Kind.{Kind}
use Rattle.otap_cells.specs.declared.payload.Kind.TheVariants as table
use Rattle.otap_cells.specs.Cells.{Cell}
use Rattle.otap_cells.specs.Named.{table_named}
use Rattle.otap_cells.specs.Tables.{Table}
use Rattle.otap_groups.specs.Children.{children}
use Rattle.otap_attrs.specs.declared.refusal.RowRefusal.{RowRefusal}
use Rattle.otap_attrs.specs.Index.{pairs_in}
use Rattle.otap_checks.specs.Reading.{part_rows_in}
use Rattle.otap_checks.specs.Refusing.{IsClean}
use Rattle.otap_checks.specs.Regrouping.{regrouped_in}
use Rattle.otap_checks.specs.RowDefects.{RowDefect}
use Rattle.otap_spans.specs.Records.{span_of, event_of, link_of}

-- the event of an id and own cells, with the pairs that the table has for the id; and the same for links
abbrev pub event_in : Table → Option ℕ → List Cell → Event
event_in pair_table id cells = event_of cells (pairs_in pair_table id)

abbrev pub link_in : Table → Option ℕ → List Cell → Link
link_in pair_table id cells = link_of cells (pairs_in pair_table id)

-- THE EVENTS AND LINKS of a parent, in the order of their rows
abbrev pub events_in : Table → Table → Option ℕ → List Event
events_in t pair_table = children (event_in pair_table) (part_rows_in t)

abbrev pub links_in : Table → Table → Option ℕ → List Link
links_in t pair_table = children (link_in pair_table) (part_rows_in t)

-- those that the tables of a batch have for a span's id
abbrev pub span_events_in : List Table → Option ℕ → List Event
span_events_in tables = events_in (table_named table.SpanEvents tables) (table_named table.EventAttrs tables)

abbrev pub span_links_in : List Table → Option ℕ → List Link
span_links_in tables = links_in (table_named table.SpanLinks tables) (table_named table.LinkAttrs tables)

-- the span of an id and own cells, with what the tables below have for the id
abbrev pub span_in : List Table → Option ℕ → List Cell → Span
span_in tables id cells = span_of cells (pairs_in (table_named table.SpanAttrs tables) id) (span_events_in tables id) (span_links_in tables id)

-- THE REQUEST that tables make
unfoldable pub regrouped_spans : List Table → List (ResourceGroup Span)
regrouped_spans tables = regrouped_in table.Spans span_in tables

-- what that request weighs
abbrev pub regrouped_weight : List Table → ℕ
regrouped_weight tables = weight_of (Traces (regrouped_spans tables))

-- WHAT IS WRONG WITH THE ROWS of a kind's table among the tables of spans
abbrev pub WrongSpans : List Table → Kind → RowRefusal → Type 0
WrongSpans tables kind wrong = RowDefect signal.Traces tables kind wrong

-- nothing is wrong with the rows of any table of spans or below them; other tables aren't looked at
abbrev pub AreCleanSpans : List Table → Type 0
AreCleanSpans tables = IsClean (WrongSpans tables)
