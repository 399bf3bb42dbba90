-- The tables of a request say what the request says.
use Rattle.std.proofs.Common.{◌≡◌, ℕ, ◌*◌, ◌<◌, ◌≤◌, ◌^◌, List, Option, length, map, refl, sym, ap, ◌∙◌, subst, arith}
use Rattle.std.specs.Prelude.{All}
use Rattle.std.specs.List.{AllByRecursion, AllZip, flat_map}
use Rattle.std.proofs.lemmas.List.{length-map}
use Rattle.std.proofs.lemmas.List.Elements.{All-map, All-weaker, recursion_from_All}
use Rattle.std.proofs.lemmas.List.Folds.{flat_map-map}
use Rattle.lists.proofs.Every.{all_flat_map, all_of_both}
use Rattle.otlp_model.proofs.WithItems.{telemetry_kept}
use Rattle.otlp_model.specs.Limits.{weight_limit}
use Rattle.otlp_model.specs.Profile.{IsProfile, IsProfileEvent, IsProfileLink, IsProfileSpan}
use Rattle.otlp_model.specs.Real.{IsReal, IsRealEvent, IsRealLink, IsRealSpan}
use Rattle.otlp_model.specs.Same.{Same, SameEvent, SameLink, SameOften, SameSpan, SameTelemetry}
use Rattle.otlp_model.specs.Telemetry.{ItemEntry, Item, groups_with_items, telemetry}
use Rattle.otlp_model.specs.Telemetry as tells
use Rattle.otlp_model.specs.Weight.{weight_of, weight_of_event, weight_of_link, weight_of_span}
use Rattle.otlp_model.specs.declared.groups.Resource.{Resource}
use Rattle.otlp_model.specs.declared.groups.Scope.{Scope}
use Rattle.otlp_model.specs.declared.groups.ResourceGroup.{ResourceGroup}
use Rattle.otlp_model.specs.declared.spans.Span.{Span}
use Rattle.otlp_model.specs.declared.spans.Event.{Event}
use Rattle.otlp_model.specs.declared.spans.Link.{Link}
use Rattle.otlp_model.specs.declared.request.Request.TheVariants.{Traces}
use Rattle.otlp_model.specs.declared.value.Pair.{Pair}
use Rattle.otlp_model.proofs.Totals.{few_parts}
use Rattle.otap_cells.specs.declared.payload.Kind.TheVariants as table
use Rattle.otap_cells.specs.Cells.{Cell}
use Rattle.otap_cells.specs.Tables.{Table}
use Rattle.otap_groups.specs.Children.{Agree, ReadsEach, children, numbered}
use Rattle.otap_groups.specs.Flat.{flat_items, items_of, numbered_rows, part_rows, placed, resources_of, scopes_of, resource_pairs, scope_pairs}
use Rattle.otap_groups.specs.Groups.{regrouped}
use Rattle.otap_groups.specs.Rows.{ChildRow}
use Rattle.otap_groups.specs.Stored.{part_table}
use Rattle.otap_groups.specs.Weighing.{CanWriteGroup}
use Rattle.otap_groups.proofs.AlikeLaws.{alike_children}
use Rattle.otap_groups.proofs.GroupsTold.{groups_told}
use Rattle.otap_groups.proofs.Grouping.{groups_back}
use Rattle.otap_groups.proofs.PartsCounted as counted
use Rattle.otap_groups.proofs.ReadLaws.{agree_two, agrees_with, reads_with}
use Rattle.otap_groups.proofs.RealGroups.{real_groups}
use Rattle.otap_groups.proofs.WritableGroups.{all_items_can, all_resources_can, all_scopes_can, few_items, few_resources, few_scopes}
use Rattle.otap_groups.proofs.FrontKinds.{events_front, links_front}
use Rattle.otap_attrs.specs.Tables.{attribute_table}
use Rattle.otap_attrs.specs.Index.{pairs_in}
use Rattle.otap_checks.specs.Reading.{main_rows_in, part_rows_in}
use Rattle.otap_checks.proofs.PairsAgain.{AreBack, IsBackResource, IsBackScope, pairs_agree, pairs_back, sorted_alike, unsorted}
use Rattle.otap_checks.proofs.RowsAgain.{main_rows_again, part_rows_again}
use Rattle.otap_spans.specs.Records.{event_cells, event_of, link_cells, link_of, span_cells, span_of}
use Rattle.otap_spans.specs.Requests.{event_in, events_in, link_in, links_in, regrouped_spans}
use Rattle.otap_spans.specs.Tables.{all_events, all_links, event_lists, event_pairs, link_lists, link_pairs, span_pairs, tables_of_spans}
use Rattle.otap_spans.proofs.NamedTables.{named_event_pairs, named_events, named_link_pairs, named_links, named_main, named_resources, named_scopes, named_spans}
use Rattle.otap_checks.proofs.MainKinds.{spans_are_main}
use Rattle.otap_spans.proofs.SpansBack.{event_back, link_back, span_back}

-- ---- what comes back

pub record IsBackEvent (event : Event) : Type 0 where
  pub pairs : AreBack event.pairs

pub record IsBackLink (link : Link) : Type 0 where
  pub pairs : AreBack link.pairs

pub record IsBackSpan (span : Span) : Type 0 where
  pub start : span.start < 2 ^ 64
  pub end : span.end < 2 ^ 64
  pub pairs : AreBack span.pairs
  pub events : All IsBackEvent span.events
  pub links : All IsBackLink span.links

event_again : (event : Event) → IsRealEvent event → IsProfileEvent event → IsBackEvent event
event_again event real is = record { pairs = pairs_back event.pairs real.pairs is.pairs.at }

link_again : (link : Link) → IsRealLink link → IsProfileLink link → IsBackLink link
link_again link real is = record { pairs = pairs_back link.pairs real.pairs is.pairs.at }

span_again : (span : Span) → IsRealSpan span → IsProfileSpan span → IsBackSpan span
span_again s real is = record {
  start = real.start;
  end = real.end;
  pairs = pairs_back s.pairs real.pairs is.pairs.at;
  events = all_of_both IsRealEvent IsProfileEvent IsBackEvent event_again s.events real.events.at is.events.at;
  links = all_of_both IsRealLink IsProfileLink IsBackLink link_again s.links real.links.at is.links.at;
}

abbrev pub IsBack : ResourceGroup Span → Type 0
IsBack = CanWriteGroup IsBackResource IsBackScope IsBackSpan

pub groups_again : (groups : List (ResourceGroup Span)) → IsReal (Traces groups) → IsProfile (Traces groups) → All IsBack groups
groups_again groups real is = real_groups IsRealSpan IsProfileSpan IsBackSpan span_again AreBack pairs_back groups real.at is.at

-- ---- how many there are

events_count : (span : Span) → 32 * length span.events ≤ weight_of_span span
events_count s = let few = few_parts weight_of_event s.events in omega (arith, few)

links_count : (span : Span) → 32 * length span.links ≤ weight_of_span span
links_count s = let few = few_parts weight_of_link s.links in omega (arith, few)

module _ (groups : List (ResourceGroup Span)) (light : weight_of (Traces groups) ≤ weight_limit) where
  pub few_main : length (items_of groups) ≤ 2 ^ 32
  few_main = omega (arith, light, few_items weight_of_span groups)

  pub few_r : length (resource_pairs groups) ≤ 2 ^ 32
  few_r = omega (arith, light, few_resources weight_of_span groups, length-map (resources_of groups) (λ (resource : Resource). resource.pairs))

  pub few_s : length (scope_pairs groups) ≤ 2 ^ 32
  few_s = omega (arith, light, few_scopes weight_of_span groups, length-map (scopes_of groups) (λ (scope : Scope). scope.pairs))

  pub few_p : length (span_pairs groups) ≤ 2 ^ 32
  few_p = omega (arith, light, few_items weight_of_span groups, length-map (items_of groups) (λ (span : Span). span.pairs))

  pub few_event_lists : length (event_lists groups) ≤ 2 ^ 32
  few_event_lists = omega (arith, light, few_items weight_of_span groups, length-map (items_of groups) (λ (span : Span). span.events))

  pub few_link_lists : length (link_lists groups) ≤ 2 ^ 32
  few_link_lists = omega (arith, light, few_items weight_of_span groups, length-map (items_of groups) (λ (span : Span). span.links))

  pub few_events : length (all_events groups) ≤ 2 ^ 32
  few_events = omega (arith, light, counted.few_parts weight_of_span (λ (span : Span). span.events) events_count groups)

  pub few_links : length (all_links groups) ≤ 2 ^ 32
  few_links = omega (arith, light, counted.few_parts weight_of_span (λ (span : Span). span.links) links_count groups)

  pub few_e : length (event_pairs groups) ≤ 2 ^ 32
  few_e = let few = few_events in omega (arith, few, length-map (all_events groups) (λ (event : Event). event.pairs))

  pub few_l : length (link_pairs groups) ≤ 2 ^ 32
  few_l = let few = few_links in omega (arith, few, length-map (all_links groups) (λ (link : Link). link.pairs))

-- all events are those of the lists
pub events_joined : (groups : List (ResourceGroup Span)) → flat_map (λ (events : List Event). events) (event_lists groups) ≡ all_events groups
events_joined groups = flat_map-map (λ (events : List Event). events) (λ (span : Span). span.events) (items_of groups)

pub links_joined : (groups : List (ResourceGroup Span)) → flat_map (λ (links : List Link). links) (link_lists groups) ≡ all_links groups
links_joined groups = flat_map-map (λ (links : List Link). links) (λ (span : Span). span.links) (items_of groups)

-- ---- what is found below, before pairs are sorted

abbrev pub unsorted_event : List (List Pair) → Option ℕ → List Cell → Event
unsorted_event pairs id cells = event_of cells (unsorted pairs id)

abbrev pub unsorted_link : List (List Pair) → Option ℕ → List Cell → Link
unsorted_link pairs id cells = link_of cells (unsorted pairs id)

abbrev pub unsorted_events : List (List Event) → List (List Pair) → Option ℕ → List Event
unsorted_events lists pairs = children (unsorted_event pairs) (part_rows numbered event_cells 0 (placed lists))

abbrev pub unsorted_links : List (List Link) → List (List Pair) → Option ℕ → List Link
unsorted_links lists pairs = children (unsorted_link pairs) (part_rows numbered link_cells 0 (placed lists))

abbrev pub unsorted_span : List (ResourceGroup Span) → Option ℕ → List Cell → Span
unsorted_span groups id cells = span_of cells (unsorted (span_pairs groups) id)
    (unsorted_events (event_lists groups) (event_pairs groups) id) (unsorted_links (link_lists groups) (link_pairs groups) id)

-- what is below a span
abbrev Below : Type 0
Below = List Pair × (List Event × List Link)

abbrev below : Span → Below
below s = (s.pairs, (s.events, s.links))

abbrev with_below : List Cell → Below → Span
with_below cells found = span_of cells found.0 found.1.0 found.1.1

module _ (groups : List (ResourceGroup Span)) (back : All IsBack groups) where
  spans_back : All IsBackSpan (items_of groups)
  spans_back = all_items_can IsBackResource IsBackScope IsBackSpan groups back

  events_back : All IsBackEvent (all_events groups)
  events_back = all_flat_map IsBackEvent (λ (s : Span). s.events) (items_of groups)
      (All-weaker IsBackSpan (λ (s : Span). All IsBackEvent s.events) (λ s is. is.events) (items_of groups) spans_back)

  links_back : All IsBackLink (all_links groups)
  links_back = all_flat_map IsBackLink (λ (s : Span). s.links) (items_of groups)
      (All-weaker IsBackSpan (λ (s : Span). All IsBackLink s.links) (λ s is. is.links) (items_of groups) spans_back)

  event_pairs_agree : Agree (unsorted (event_pairs groups)) 0 (event_pairs groups)
  event_pairs_agree = pairs_agree (event_pairs groups) (All-map AreBack (λ (event : Event). event.pairs) (all_events groups)
      (All-weaker IsBackEvent (λ (event : Event). AreBack event.pairs) (λ event is. is.pairs) (all_events groups) events_back))

  link_pairs_agree : Agree (unsorted (link_pairs groups)) 0 (link_pairs groups)
  link_pairs_agree = pairs_agree (link_pairs groups) (All-map AreBack (λ (link : Link). link.pairs) (all_links groups)
      (All-weaker IsBackLink (λ (link : Link). AreBack link.pairs) (λ link is. is.pairs) (all_links groups) links_back))

  events_agree : Agree (unsorted_events (event_lists groups) (event_pairs groups)) 0 (event_lists groups)
  events_agree =
      agrees_with event_cells event_of (λ (event : Event). event.pairs) (unsorted (event_pairs groups)) IsBackEvent (λ event is. event_back event) (event_lists groups)
      (subst (AllByRecursion IsBackEvent) (sym (events_joined groups)) (recursion_from_All IsBackEvent (all_events groups) events_back))
      (subst (λ (events : List Event). Agree (unsorted (event_pairs groups)) 0 (map (λ (event : Event). event.pairs) events)) (sym (events_joined groups)) event_pairs_agree)

  links_agree : Agree (unsorted_links (link_lists groups) (link_pairs groups)) 0 (link_lists groups)
  links_agree =
      agrees_with link_cells link_of (λ (link : Link). link.pairs) (unsorted (link_pairs groups)) IsBackLink (λ link is. link_back link) (link_lists groups)
      (subst (AllByRecursion IsBackLink) (sym (links_joined groups)) (recursion_from_All IsBackLink (all_links groups) links_back))
      (subst (λ (links : List Link). Agree (unsorted (link_pairs groups)) 0 (map (λ (link : Link). link.pairs) links)) (sym (links_joined groups)) link_pairs_agree)

  span_pairs_agree : Agree (unsorted (span_pairs groups)) 0 (span_pairs groups)
  span_pairs_agree = pairs_agree (span_pairs groups) (All-map AreBack (λ (s : Span). s.pairs) (items_of groups)
      (All-weaker IsBackSpan (λ (s : Span). AreBack s.pairs) (λ s is. is.pairs) (items_of groups) spans_back))

  resources_agree : Agree (unsorted (resource_pairs groups)) 0 (resource_pairs groups)
  resources_agree = pairs_agree (resource_pairs groups) (All-map AreBack (λ (resource : Resource). resource.pairs) (resources_of groups)
      (all_resources_can IsBackResource IsBackScope IsBackSpan groups back))

  scopes_agree : Agree (unsorted (scope_pairs groups)) 0 (scope_pairs groups)
  scopes_agree = pairs_agree (scope_pairs groups) (All-map AreBack (λ (scope : Scope). scope.pairs) (scopes_of groups)
      (all_scopes_can IsBackResource IsBackScope IsBackSpan groups back))

  items_read : ReadsEach numbered span_cells (unsorted_span groups) 0 (items_of groups)
  items_read =
      let parts_agree = agree_two (unsorted_events (event_lists groups) (event_pairs groups)) (unsorted_links (link_lists groups) (link_pairs groups))
      (λ (s : Span). s.events) (λ (s : Span). s.links) 0 (items_of groups) events_agree links_agree in
      let all_agree = agree_two (unsorted (span_pairs groups))
      (λ id. (unsorted_events (event_lists groups) (event_pairs groups) id, unsorted_links (link_lists groups) (link_pairs groups) id))
      (λ (s : Span). s.pairs) (λ (s : Span). (s.events, s.links)) 0 (items_of groups) span_pairs_agree parts_agree in
      reads_with span_cells with_below below
      (λ id. (unsorted (span_pairs groups) id, (unsorted_events (event_lists groups) (event_pairs groups) id, unsorted_links (link_lists groups) (link_pairs groups) id)))
      IsBackSpan (λ s is. span_back s is.start is.end) 0 (items_of groups) (recursion_from_All IsBackSpan (items_of groups) spans_back) all_agree

  -- before the pairs are sorted the request itself comes back
  pub unsorted_back : regrouped (unsorted (resource_pairs groups)) (unsorted (scope_pairs groups)) (unsorted_span groups) (numbered_rows span_cells 0 (flat_items groups))
      ≡ groups_with_items groups
  unsorted_back =
      groups_back span_cells (unsorted (resource_pairs groups)) (unsorted (scope_pairs groups)) (unsorted_span groups) groups items_read resources_agree scopes_agree

-- ---- and sorted ones are the same

same_event : (cells : List Cell) (xs ys : List Pair) → SameOften xs ys → SameEvent (event_of cells xs) (event_of cells ys)
unfolding event_of
same_event cells xs ys same = record { scalars = refl; pairs = same }

same_link : (cells : List Cell) (xs ys : List Pair) → SameOften xs ys → SameLink (link_of cells xs) (link_of cells ys)
unfolding link_of
same_link cells xs ys same = record { scalars = refl; pairs = same }

same_span : (cells : List Cell) (xs ys : List Pair) (es fs : List Event) (ks ls : List Link) → SameOften xs ys → AllZip SameEvent es fs → AllZip SameLink ks ls
    → SameSpan (span_of cells xs es ks) (span_of cells ys fs ls)
unfolding span_of
same_span cells xs ys es fs ks ls pairs events links = record { scalars = refl; pairs = pairs; events = events; links = links }

-- the tables below, and the span that they have for an id and own cells
abbrev pub pair_table_of_events : List (ResourceGroup Span) → Table
pair_table_of_events groups = attribute_table table.EventAttrs (event_pairs groups)

abbrev pub pair_table_of_links : List (ResourceGroup Span) → Table
pair_table_of_links groups = attribute_table table.LinkAttrs (link_pairs groups)

abbrev pub event_table : List (ResourceGroup Span) → Table
event_table groups = part_table table.SpanEvents event_cells (event_lists groups)

abbrev pub link_table : List (ResourceGroup Span) → Table
link_table groups = part_table table.SpanLinks link_cells (link_lists groups)

abbrev pub span_from : List (ResourceGroup Span) → Option ℕ → List Cell → Span
span_from groups id cells = span_of cells (pairs_in (attribute_table table.SpanAttrs (span_pairs groups)) id)
    (events_in (event_table groups) (pair_table_of_events groups) id) (links_in (link_table groups) (pair_table_of_links groups) id)

module _ (groups : List (ResourceGroup Span)) (light : weight_of (Traces groups) ≤ weight_limit) where
  pub event_rows : part_rows numbered event_cells 0 (placed (event_lists groups)) ≡ part_rows_in (event_table groups)
  event_rows =
      part_rows_again table.SpanEvents event_cells (event_lists groups) events_front (few_event_lists groups light)
      (subst (λ (events : List Event). length events ≤ 2 ^ 32) (sym (events_joined groups)) (few_events groups light))

  pub link_rows : part_rows numbered link_cells 0 (placed (link_lists groups)) ≡ part_rows_in (link_table groups)
  link_rows =
      part_rows_again table.SpanLinks link_cells (link_lists groups) links_front (few_link_lists groups light)
      (subst (λ (links : List Link). length links ≤ 2 ^ 32) (sym (links_joined groups)) (few_links groups light))

  events_alike : (parent : Option ℕ) → AllZip SameEvent (unsorted_events (event_lists groups) (event_pairs groups) parent) (events_in (event_table groups) (pair_table_of_events groups) parent)
  events_alike parent =
      subst (λ (rows : List ChildRow). AllZip SameEvent (unsorted_events (event_lists groups) (event_pairs groups) parent) (children (event_in (pair_table_of_events groups)) rows parent)) event_rows
      (alike_children SameEvent (unsorted_event (event_pairs groups)) (event_in (pair_table_of_events groups))
      (λ id cells. same_event cells (unsorted (event_pairs groups) id) (pairs_in (pair_table_of_events groups) id) (sorted_alike table.EventAttrs (event_pairs groups) refl (few_e groups light) id))
      (part_rows numbered event_cells 0 (placed (event_lists groups))) parent)

  links_alike : (parent : Option ℕ) → AllZip SameLink (unsorted_links (link_lists groups) (link_pairs groups) parent) (links_in (link_table groups) (pair_table_of_links groups) parent)
  links_alike parent =
      subst (λ (rows : List ChildRow). AllZip SameLink (unsorted_links (link_lists groups) (link_pairs groups) parent) (children (link_in (pair_table_of_links groups)) rows parent)) link_rows
      (alike_children SameLink (unsorted_link (link_pairs groups)) (link_in (pair_table_of_links groups))
      (λ id cells. same_link cells (unsorted (link_pairs groups) id) (pairs_in (pair_table_of_links groups) id) (sorted_alike table.LinkAttrs (link_pairs groups) refl (few_l groups light) id))
      (part_rows numbered link_cells 0 (placed (link_lists groups))) parent)

  spans_alike : (id : Option ℕ) (cells : List Cell) → SameSpan (unsorted_span groups id cells) (span_from groups id cells)
  spans_alike id cells = same_span cells _ _ _ _ _ _ (sorted_alike table.SpanAttrs (span_pairs groups) refl (few_p groups light) id) (events_alike id) (links_alike id)

  pub regrouped_is : regrouped (pairs_in (attribute_table table.ResourceAttrs (resource_pairs groups))) (pairs_in (attribute_table table.ScopeAttrs (scope_pairs groups)))
      (span_from groups) (numbered_rows span_cells 0 (flat_items groups)) ≡ regrouped_spans (tables_of_spans groups)
  unfolding regrouped_spans
  regrouped_is = λ i. regrouped (pairs_in (sym (named_resources groups) i)) (pairs_in (sym (named_scopes groups) i))
      (λ id cells. span_of cells (pairs_in (sym (named_spans groups) i) id)
      (events_in (sym (named_events groups) i) (sym (named_event_pairs groups) i) id) (links_in (sym (named_links groups) i) (sym (named_link_pairs groups) i) id))
      ((main_rows_again table.Spans span_cells groups spans_are_main (few_main groups light) ∙ ap main_rows_in (sym (named_main groups))) i)

  all_tell : All IsBack groups → Same (Traces groups) (Traces (regrouped_spans (tables_of_spans groups)))
  all_tell back =
      let r : Table = attribute_table table.ResourceAttrs (resource_pairs groups) in
      let s : Table = attribute_table table.ScopeAttrs (scope_pairs groups) in
      let found : SameTelemetry (telemetry (Traces (groups_with_items groups)))
      (telemetry (Traces (regrouped (pairs_in r) (pairs_in s) (span_from groups) (numbered_rows span_cells 0 (flat_items groups))))) =
      groups_told tells.span span_cells (unsorted (resource_pairs groups)) (pairs_in r) (unsorted (scope_pairs groups)) (pairs_in s)
      (unsorted_span groups) (span_from groups) groups (items_read groups back) (resources_agree groups back) (scopes_agree groups back)
      (sorted_alike table.ResourceAttrs (resource_pairs groups) refl (few_r groups light)) (sorted_alike table.ScopeAttrs (scope_pairs groups) refl (few_s groups light))
      spans_alike in
      subst (λ (xs : List (ItemEntry Item)). SameTelemetry xs (telemetry (Traces (regrouped_spans (tables_of_spans groups))))) (telemetry_kept (Traces groups))
      (subst (λ (gs : List (ResourceGroup Span)). SameTelemetry (telemetry (Traces (groups_with_items groups))) (telemetry (Traces gs))) regrouped_is found)

pub same_again : (groups : List (ResourceGroup Span)) → IsReal (Traces groups) → IsProfile (Traces groups) → weight_of (Traces groups) ≤ weight_limit
    → Same (Traces groups) (Traces (regrouped_spans (tables_of_spans groups)))
same_again groups real is light = all_tell groups light (groups_again groups real is)
