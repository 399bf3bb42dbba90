-- The request that the tables of a request make weighs no more than the request.
use Rattle.std.proofs.Common.{◌≡◌, ℕ, ◌≤◌, List, Option, refl, sym, ap, ◌∙◌, subst, arith}
use Rattle.otlp_model.specs.Limits.{weight_limit}
use Rattle.otlp_model.specs.Profile.{IsProfile}
use Rattle.otlp_model.specs.Real.{IsReal}
use Rattle.otlp_model.specs.Telemetry.{groups_with_items}
use Rattle.otlp_model.specs.Weight.{total, weight_of, weight_of_event, weight_of_link, weight_of_pair, weight_of_resource_group, weight_of_span}
use Rattle.otlp_model.specs.declared.groups.ResourceGroup.{ResourceGroup}
use Rattle.otlp_model.specs.declared.spans.Span.{Span}
use Rattle.otlp_model.specs.declared.spans.Event.{Event}
use Rattle.otlp_model.specs.declared.spans.Link.{Link}
use Rattle.otlp_model.specs.declared.request.Request.TheVariants.{Traces}
use Rattle.otlp_model.specs.declared.value.Pair.{Pair}
use Rattle.otap_cells.specs.declared.payload.Kind.TheVariants as table
use Rattle.otap_cells.specs.Cells.{Cell}
use Rattle.otap_cells.specs.Tables.{Table}
use Rattle.otap_groups.specs.Children.{children, numbered}
use Rattle.otap_groups.specs.Flat.{flat_items, numbered_rows, part_rows, placed, resource_pairs, scope_pairs}
use Rattle.otap_groups.specs.Rows.{ChildRow}
use Rattle.otap_groups.proofs.LightGroups.{children_weigh, kept_weigh, regrouped_weigh}
use Rattle.otap_attrs.specs.Tables.{attribute_table}
use Rattle.otap_attrs.specs.Index.{pairs_in}
use Rattle.otap_checks.proofs.PairsAgain.{sorted_weigh, unsorted}
use Rattle.otap_spans.specs.Records.{event_cells, event_of, link_cells, link_of, span_cells, span_of}
use Rattle.otap_spans.specs.Requests.{event_in, events_in, link_in, links_in, regrouped_spans}
use Rattle.otap_spans.specs.Tables.{event_lists, event_pairs, link_lists, link_pairs, span_pairs, tables_of_spans}
use Rattle.otap_spans.proofs.SpansAgain.{event_rows, event_table, few_e, few_l, few_p, few_r, few_s, groups_again, link_rows, link_table}
use Rattle.otap_spans.proofs.SpansAgain.{pair_table_of_events, pair_table_of_links, regrouped_is, span_from, unsorted_back, unsorted_event, unsorted_events, unsorted_link, unsorted_links, unsorted_span}

event_weighs : (cells : List Cell) (xs ys : List Pair) → total 32 weight_of_pair xs ≡ total 32 weight_of_pair ys → weight_of_event (event_of cells xs) ≡ weight_of_event (event_of cells ys)
unfolding event_of
event_weighs cells xs ys same = omega (arith, same)

link_weighs : (cells : List Cell) (xs ys : List Pair) → total 32 weight_of_pair xs ≡ total 32 weight_of_pair ys → weight_of_link (link_of cells xs) ≡ weight_of_link (link_of cells ys)
unfolding link_of
link_weighs cells xs ys same = omega (arith, same)

span_weighs : (cells : List Cell) (xs ys : List Pair) (es fs : List Event) (ks ls : List Link) → total 32 weight_of_pair xs ≡ total 32 weight_of_pair ys
    → total 32 weight_of_event es ≡ total 32 weight_of_event fs → total 32 weight_of_link ks ≡ total 32 weight_of_link ls
    → weight_of_span (span_of cells xs es ks) ≡ weight_of_span (span_of cells ys fs ls)
unfolding span_of
span_weighs cells xs ys es fs ks ls pairs events links = omega (arith, pairs, events, links)

module _ (groups : List (ResourceGroup Span)) (light : weight_of (Traces groups) ≤ weight_limit) where
  events_weigh : (parent : Option ℕ) → total 32 weight_of_event (unsorted_events (event_lists groups) (event_pairs groups) parent)
      ≡ total 32 weight_of_event (events_in (event_table groups) (pair_table_of_events groups) parent)
  events_weigh parent =
      subst (λ (rows : List ChildRow). total 32 weight_of_event (unsorted_events (event_lists groups) (event_pairs groups) parent)
      ≡ total 32 weight_of_event (children (event_in (pair_table_of_events groups)) rows parent)) (event_rows groups light)
      (children_weigh weight_of_event (unsorted_event (event_pairs groups)) (event_in (pair_table_of_events groups))
      (λ id cells. event_weighs cells (unsorted (event_pairs groups) id) (pairs_in (pair_table_of_events groups) id) (sorted_weigh table.EventAttrs (event_pairs groups) refl (few_e groups light) id))
      (part_rows numbered event_cells 0 (placed (event_lists groups))) parent)

  links_weigh : (parent : Option ℕ) → total 32 weight_of_link (unsorted_links (link_lists groups) (link_pairs groups) parent)
      ≡ total 32 weight_of_link (links_in (link_table groups) (pair_table_of_links groups) parent)
  links_weigh parent =
      subst (λ (rows : List ChildRow). total 32 weight_of_link (unsorted_links (link_lists groups) (link_pairs groups) parent)
      ≡ total 32 weight_of_link (children (link_in (pair_table_of_links groups)) rows parent)) (link_rows groups light)
      (children_weigh weight_of_link (unsorted_link (link_pairs groups)) (link_in (pair_table_of_links groups))
      (λ id cells. link_weighs cells (unsorted (link_pairs groups) id) (pairs_in (pair_table_of_links groups) id) (sorted_weigh table.LinkAttrs (link_pairs groups) refl (few_l groups light) id))
      (part_rows numbered link_cells 0 (placed (link_lists groups))) parent)

  spans_weigh : (id : Option ℕ) (cells : List Cell) → weight_of_span (unsorted_span groups id cells) ≡ weight_of_span (span_from groups id cells)
  spans_weigh id cells = span_weighs cells _ _ _ _ _ _ (sorted_weigh table.SpanAttrs (span_pairs groups) refl (few_p groups light) id) (events_weigh id) (links_weigh id)

pub light_tables : (groups : List (ResourceGroup Span)) → IsReal (Traces groups) → IsProfile (Traces groups) → weight_of (Traces groups) ≤ weight_limit
    → weight_of (Traces (regrouped_spans (tables_of_spans groups))) ≤ weight_of (Traces groups)
light_tables groups real is light =
    let r : Table = attribute_table table.ResourceAttrs (resource_pairs groups) in
    let s : Table = attribute_table table.ScopeAttrs (scope_pairs groups) in
    let found = regrouped_weigh weight_of_span (unsorted (resource_pairs groups)) (pairs_in r) (unsorted (scope_pairs groups)) (pairs_in s)
    (unsorted_span groups) (span_from groups)
    (sorted_weigh table.ResourceAttrs (resource_pairs groups) refl (few_r groups light)) (sorted_weigh table.ScopeAttrs (scope_pairs groups) refl (few_s groups light))
    (spans_weigh groups light) (numbered_rows span_cells 0 (flat_items groups)) in
    let here : total 32 (weight_of_resource_group weight_of_span) (groups_with_items groups) ≡ weight_of (Traces (regrouped_spans (tables_of_spans groups))) =
    ap (total 32 (weight_of_resource_group weight_of_span)) (sym (unsorted_back groups (groups_again groups real is))) ∙ found
    ∙ ap (total 32 (weight_of_resource_group weight_of_span)) (regrouped_is groups light) in
    let most = kept_weigh weight_of_span groups in
    omega (arith, here, most)
