-- The law for traces, with events and links and the attributes of both.
use Rattle.std.proofs.Common.{◌≡◌, ℕ, ◌≤◌, ◌^◌, true, List, get_or, Option, None, Some, length, refl, ◌∙◌, ap, arith}
use Rattle.std.specs.Prelude.{filter, Contains}
use Rattle.std.specs.List.{AllZip}
use Rattle.std.proofs.lemmas.List.{length-map}
use Rattle.otlp_model.specs.Same.{SameEvent, SameLink, SameOften, SameSpan}
use Rattle.otlp_model.specs.Telemetry.{span, told_as}
use Rattle.otlp_model.specs.Weight.{total, weight_of_event, weight_of_link, weight_of_pair, weight_of_span}
use Rattle.otlp_model.specs.declared.request.Signal.TheVariants as signal
use Rattle.otlp_model.specs.declared.spans.Event.{Event}
use Rattle.otlp_model.specs.declared.spans.Link.{Link}
use Rattle.otlp_model.specs.declared.spans.Span.{Span}
use Rattle.otlp_model.specs.declared.value.Pair.{Pair}
use Rattle.otap_cells.specs.declared.payload.Kind.TheVariants as table
use Rattle.otap_cells.specs.Cells.{Cell}
use Rattle.otap_cells.specs.Named.{table_named}
use Rattle.otap_cells.specs.Tables.{Table}
use Rattle.otap_groups.specs.Children.{numbered}
use Rattle.otap_groups.specs.Flat.{PlacedIn, part_rows}
use Rattle.otap_groups.specs.Rows.{ChildRow, MainRow}
use Rattle.otap_groups.proofs.FrontKinds.{events_front, links_front}
use Rattle.otap_attrs.specs.Index.{pairs_in}
use Rattle.otap_checks.specs.Links.{items, links_of, parts}
use Rattle.otap_checks.specs.Reading.{main_rows_in, part_rows_in}
use Rattle.otap_checks.proofs.MainKinds.{spans_are_main}
use Rattle.otap_spans.specs.Records.{event_of, link_of, span_of}
use Rattle.otap_spans.specs.Requests.{events_in, links_in, regrouped_spans, span_in}
use Rattle.otap_kept.specs.declared.whose.Whose.{Whose}
use Rattle.otap_kept.specs.declared.whose.Whose.TheVariants as whose
use Rattle.otap_kept.specs.Clean.{AreCleanAndLight}
use Rattle.otap_kept.specs.Filtered.{IsNoHeavier, MeansFilter, entry_has}
use Rattle.otap_kept.specs.Kept.{is_kept, is_ordered, kept, kept_of, kept_rows}
use Rattle.otap_kept.specs.Numbers.{first_ids}
use Rattle.otap_kept.specs.Rows.{former_ids, own_cells, own_ids, parts_under, resource_ids, scope_ids}
use Rattle.otap_kept.specs.Tables.{kept_attributes, kept_parts}
use Rattle.otap_kept.proofs.AcceptedTables.{rows_apart}
use Rattle.otap_kept.proofs.AnySignal.{AreKept, of_resources, of_scopes, tells_filter, weighs_no_more}
use Rattle.otap_kept.proofs.KeptRows.{kept_few, main_again}
use Rattle.otap_kept.proofs.KeptTables.{below_named}
use Rattle.otap_kept.proofs.Levels.{level_again, level_apart, level_few, pairs_alike, pairs_weigh, parts_alike, parts_weigh}
use Rattle.otap_kept.proofs.NewNumbers.{AreApart}
use Rattle.otap_kept.proofs.PairsBelow.{attributes_under, pairs_by_place, pairs_under, parts_before, parts_by_place}
use Rattle.otap_kept.proofs.RowsTold.{entry_of_row}

same_event : (cells : List Cell) (xs ys : List Pair) → SameOften xs ys → SameEvent (event_of cells xs) (event_of cells ys)
unfolding event_of
same_event cells xs ys same = record { scalars = refl; pairs = same }

same_link : (cells : List Cell) (xs ys : List Pair) → SameOften xs ys → SameLink (link_of cells xs) (link_of cells ys)
unfolding link_of
same_link cells xs ys same = record { scalars = refl; pairs = same }

same_span : (cells : List Cell) (xs ys : List Pair) (es fs : List Event) (ls ms : List Link) → SameOften xs ys → AllZip SameEvent es fs → AllZip SameLink ls ms
    → SameSpan (span_of cells xs es ls) (span_of cells ys fs ms)
unfolding span_of
same_span cells xs ys es fs ls ms pairs events links = record { scalars = refl; pairs = pairs; events = events; links = links }

event_weighs : (cells : List Cell) (xs ys : List Pair) → total 32 weight_of_pair xs ≡ total 32 weight_of_pair ys → weight_of_event (event_of cells xs) ≡ weight_of_event (event_of cells ys)
unfolding event_of
event_weighs cells xs ys same = omega (arith, same)

link_weighs : (cells : List Cell) (xs ys : List Pair) → total 32 weight_of_pair xs ≡ total 32 weight_of_pair ys → weight_of_link (link_of cells xs) ≡ weight_of_link (link_of cells ys)
unfolding link_of
link_weighs cells xs ys same = omega (arith, same)

span_weighs : (cells : List Cell) (xs ys : List Pair) (es fs : List Event) (ls ms : List Link) → total 32 weight_of_pair xs ≡ total 32 weight_of_pair ys
    → total 32 weight_of_event es ≡ total 32 weight_of_event fs → total 32 weight_of_link ls ≡ total 32 weight_of_link ms
    → weight_of_span (span_of cells xs es ls) ≡ weight_of_span (span_of cells ys fs ms)
unfolding span_of
span_weighs cells xs ys es fs ls ms pairs events links = omega (arith, pairs, events, links)

-- what is found below a span, and the span with it
abbrev Below : Type 0
Below = List Pair × List Event × List Link

abbrev with_below : List Cell → Below → Span
with_below cells below = span_of cells below.0 below.1 below.2

abbrev below_in : List Table → Option ℕ → Below
below_in ts id = (
  pairs_in (table_named table.SpanAttrs ts) id,
  events_in (table_named table.SpanEvents ts) (table_named table.EventAttrs ts) id,
  links_in (table_named table.SpanLinks ts) (table_named table.LinkAttrs ts) id,
)

module _ (by : Whose) (pair : Pair) (tables : List Table) where
  abbrev rows : List MainRow
  rows = kept_rows signal.Traces by pair tables

  abbrev all : List Table
  all = kept_of signal.Traces rows tables

  abbrev own : List (Option ℕ)
  own = own_ids rows

  abbrev events : List (PlacedIn ChildRow)
  events = parts_under own (part_rows_in (table_named table.SpanEvents tables))

  abbrev links : List (PlacedIn ChildRow)
  links = parts_under own (part_rows_in (table_named table.SpanLinks tables))

  -- what is found before attributes are sorted
  abbrev event_pairs : Option ℕ → List Pair
  event_pairs = pairs_under (former_ids events) (table_named table.EventAttrs tables)

  abbrev link_pairs : Option ℕ → List Pair
  link_pairs = pairs_under (former_ids links) (table_named table.LinkAttrs tables)

  abbrev before : Option ℕ → Below
  before id = (
    pairs_under own (table_named table.SpanAttrs tables) id,
    parts_before event_of own (part_rows_in (table_named table.SpanEvents tables)) event_pairs id,
    parts_before link_of own (part_rows_in (table_named table.SpanLinks tables)) link_pairs id,
  )

  resources_named : table_named table.ResourceAttrs all ≡ attributes_under table.ResourceAttrs (first_ids (resource_ids rows)) (table_named table.ResourceAttrs tables)
  unfolding links_of kept_attributes kept_parts
  resources_named = below_named signal.Traces rows tables table.ResourceAttrs refl

  scopes_named : table_named table.ScopeAttrs all ≡ attributes_under table.ScopeAttrs (first_ids (scope_ids rows)) (table_named table.ScopeAttrs tables)
  unfolding links_of kept_attributes kept_parts
  scopes_named = below_named signal.Traces rows tables table.ScopeAttrs refl

  pairs_named : table_named table.SpanAttrs all ≡ attributes_under table.SpanAttrs own (table_named table.SpanAttrs tables)
  unfolding links_of kept_attributes kept_parts
  pairs_named = below_named signal.Traces rows tables table.SpanAttrs refl

  events_named : table_named table.SpanEvents all ≡ kept_parts table.SpanEvents events
  unfolding links_of kept_attributes kept_parts
  events_named = below_named signal.Traces rows tables table.SpanEvents refl

  links_named : table_named table.SpanLinks all ≡ kept_parts table.SpanLinks links
  unfolding links_of kept_attributes kept_parts
  links_named = below_named signal.Traces rows tables table.SpanLinks refl

  event_pairs_named : table_named table.EventAttrs all ≡ attributes_under table.EventAttrs (former_ids events) (table_named table.EventAttrs tables)
  unfolding links_of kept_attributes kept_parts
  event_pairs_named = below_named signal.Traces rows tables table.EventAttrs refl

  link_pairs_named : table_named table.LinkAttrs all ≡ attributes_under table.LinkAttrs (former_ids links) (table_named table.LinkAttrs tables)
  unfolding links_of kept_attributes kept_parts
  link_pairs_named = below_named signal.Traces rows tables table.LinkAttrs refl

  tests : (row : MainRow) → is_kept signal.Traces by pair tables row ≡ entry_has by pair (told_as span (entry_of_row (of_resources tables) (of_scopes tables) (span_in tables) row))
  unfolding span_of
  tests row = by_whose by row where
    by_whose : (by : Whose) (row : MainRow) → is_kept signal.Traces by pair tables row ≡ entry_has by pair (told_as span (entry_of_row (of_resources tables) (of_scopes tables) (span_in tables) row))
    by_whose whose.Item row = refl
    by_whose whose.Resource row = refl

  are : rows ≡ filter (λ row. entry_has by pair (told_as span (entry_of_row (of_resources tables) (of_scopes tables) (span_in tables) row))) (main_rows_in (table_named table.Spans tables))
  unfolding kept_rows
  are = λ i. filter (λ row. tests row i) (main_rows_in (table_named table.Spans tables))

  rows_are : rows ≡ filter (is_kept signal.Traces by pair tables) (main_rows_in (table_named table.Spans tables))
  unfolding kept_rows
  rows_are = refl

  -- the tables of events and of links are listed
  events_listed : Contains (links_of signal.Traces) (parts table.SpanEvents table.Spans 0)
  unfolding links_of
  events_listed = (4, omega arith, refl)

  links_listed : Contains (links_of signal.Traces) (parts table.SpanLinks table.Spans 0)
  unfolding links_of
  links_listed = (5, omega arith, refl)

  module _ (accepted : AreCleanAndLight signal.Traces tables) (ordered : is_ordered signal.Traces by pair tables ≡ true) where
    own_apart : AreApart own
    unfolding links_of kept_rows
    own_apart = rows_apart signal.Traces tables accepted (items table.Spans) (0, omega arith, refl) refl spans_are_main.id (is_kept signal.Traces by pair tables)

    few_own : length own ≤ 2 ^ 32
    few_own = omega (arith, length-map rows (λ (row : MainRow). row.id), kept_few signal.Traces by pair tables accepted)

    events_apart : AreApart (former_ids events)
    events_apart = level_apart signal.Traces tables accepted (parts table.SpanEvents table.Spans 0) events_listed refl events_front own

    few_events : length (former_ids events) ≤ 2 ^ 32
    few_events = level_few signal.Traces tables accepted (parts table.SpanEvents table.Spans 0) events_listed refl events_front own

    links_apart : AreApart (former_ids links)
    links_apart = level_apart signal.Traces tables accepted (parts table.SpanLinks table.Spans 0) links_listed refl links_front own

    few_links : length (former_ids links) ≤ 2 ^ 32
    few_links = level_few signal.Traces tables accepted (parts table.SpanLinks table.Spans 0) links_listed refl links_front own

    by_place : (k : ℕ) → before (Some k) ≡ below_in tables (get_or own k None)
    by_place k = λ i. (
      pairs_by_place own (table_named table.SpanAttrs tables) own_apart k i,
      parts_by_place event_of own (part_rows_in (table_named table.SpanEvents tables)) (pairs_in (table_named table.EventAttrs tables)) event_pairs own_apart
          (pairs_by_place (former_ids events) (table_named table.EventAttrs tables) events_apart) k i,
      parts_by_place link_of own (part_rows_in (table_named table.SpanLinks tables)) (pairs_in (table_named table.LinkAttrs tables)) link_pairs own_apart
          (pairs_by_place (former_ids links) (table_named table.LinkAttrs tables) links_apart) k i,
    )

    kept_as : AreKept table.Spans below_in before tables all rows
    kept_as = record {
      main_rows = main_again signal.Traces by pair tables accepted ordered;
      resources = resources_named;
      scopes = scopes_named;
      few = omega (arith, kept_few signal.Traces by pair tables accepted);
      by_place = by_place;
    }

    events_again : part_rows_in (table_named table.SpanEvents all) ≡ part_rows numbered own_cells 0 events
    events_again = ap part_rows_in events_named ∙ level_again signal.Traces tables accepted (parts table.SpanEvents table.Spans 0) events_listed refl events_front own few_own

    links_again : part_rows_in (table_named table.SpanLinks all) ≡ part_rows numbered own_cells 0 links
    links_again = ap part_rows_in links_named ∙ level_again signal.Traces tables accepted (parts table.SpanLinks table.Spans 0) links_listed refl links_front own few_own

    same : (id : Option ℕ) (cells : List Cell) → SameSpan (with_below cells (before id)) (with_below cells (below_in all id))
    same id cells =
        same_span cells _ _ _ _ _ _ (pairs_alike table.SpanAttrs own tables all refl few_own pairs_named id)
        (parts_alike event_of own (part_rows_in (table_named table.SpanEvents tables)) (part_rows_in (table_named table.SpanEvents all)) event_pairs
        (pairs_in (table_named table.EventAttrs all)) events_again id SameEvent
        (λ id cells. same_event cells _ _ (pairs_alike table.EventAttrs (former_ids events) tables all refl few_events event_pairs_named id)))
        (parts_alike link_of own (part_rows_in (table_named table.SpanLinks tables)) (part_rows_in (table_named table.SpanLinks all)) link_pairs
        (pairs_in (table_named table.LinkAttrs all)) links_again id SameLink
        (λ id cells. same_link cells _ _ (pairs_alike table.LinkAttrs (former_ids links) tables all refl few_links link_pairs_named id)))

    pub spans_tell : MeansFilter signal.Traces by pair tables
    unfolding kept regrouped_spans
    spans_tell = tells_filter table.Spans with_below below_in before tables all rows kept_as SameSpan span (λ a b same. same) same (entry_has by pair) are

    weighs : (id : Option ℕ) (cells : List Cell) → weight_of_span (with_below cells (before id)) ≡ weight_of_span (with_below cells (below_in all id))
    weighs id cells =
        span_weighs cells _ _ _ _ _ _ (pairs_weigh table.SpanAttrs own tables all refl few_own pairs_named id)
        (parts_weigh event_of own (part_rows_in (table_named table.SpanEvents tables)) (part_rows_in (table_named table.SpanEvents all)) event_pairs
        (pairs_in (table_named table.EventAttrs all)) events_again id weight_of_event
        (λ id cells. event_weighs cells _ _ (pairs_weigh table.EventAttrs (former_ids events) tables all refl few_events event_pairs_named id)))
        (parts_weigh link_of own (part_rows_in (table_named table.SpanLinks tables)) (part_rows_in (table_named table.SpanLinks all)) link_pairs
        (pairs_in (table_named table.LinkAttrs all)) links_again id weight_of_link
        (λ id cells. link_weighs cells _ _ (pairs_weigh table.LinkAttrs (former_ids links) tables all refl few_links link_pairs_named id)))

    pub spans_light : IsNoHeavier signal.Traces by pair tables
    unfolding kept regrouped_spans
    spans_light = weighs_no_more table.Spans with_below below_in before tables all rows kept_as weight_of_span weighs (is_kept signal.Traces by pair tables) rows_are
