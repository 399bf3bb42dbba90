-- Which parts of a request of spans can be written, and how many there are.
use Rattle.std.proofs.Common.{◌≡◌, ◌*◌, ◌<◌, ◌≤◌, ◌^◌, List, [], ◌∷◌, length, sym, subst, arith}
use Rattle.std.specs.Prelude.{All}
use Rattle.std.proofs.lemmas.List.Elements.{All-nil, All-cons, All-head, All-tail, All-weaker}
use Rattle.lists.proofs.Every.{all_flat_map}
use Rattle.otlp_model.specs.Limits.{weight_limit}
use Rattle.otlp_model.specs.Profile.{IsProfile, IsProfileLink, IsProfileSpan}
use Rattle.otlp_model.specs.Weight.{total, weight_of, weight_of_event, weight_of_link, weight_of_pair, weight_of_span}
use Rattle.otlp_model.specs.declared.groups.ResourceGroup.{ResourceGroup}
use Rattle.otlp_model.specs.declared.spans.Span.{Span}
use Rattle.otlp_model.specs.declared.spans.Event.{Event}
use Rattle.otlp_model.specs.declared.spans.Link.{Link}
use Rattle.otlp_model.specs.declared.request.Request.TheVariants.{Traces}
use Rattle.otlp_model.proofs.Totals.{few_parts}
use Rattle.otap_groups.specs.Flat.{items_of, resources_of, scopes_of}
use Rattle.otap_groups.specs.Weighing.{CanWriteGroup}
use Rattle.otap_groups.proofs.WritableGroups.{all_items_can, all_resources_can, all_scopes_can, few_items, few_resources, few_scopes, groups_can, IsLightResource, IsLightScope}
use Rattle.otap_groups.proofs.PartsCounted as counted
use Rattle.otap_spans.specs.Tables.{all_events, all_links}
use Rattle.otap_spans.specs.Writable.{CanWriteEvent, CanWriteLink, CanWriteSpan}

-- ---- single parts

events_can : (events : List Event) → total 32 weight_of_event events ≤ weight_limit → All CanWriteEvent events
events_can [] few = All-nil CanWriteEvent
events_can (event ∷ events) few = All-cons CanWriteEvent event events (record { pairs = omega arith }) (events_can events (omega arith))

links_can : (links : List Link) → All IsProfileLink links → total 32 weight_of_link links ≤ weight_limit → All CanWriteLink links
links_can [] all few = All-nil CanWriteLink
links_can (link ∷ links) all few =
    let is : IsProfileLink link = All-head IsProfileLink link links all in
    All-cons CanWriteLink link links (record { trace_id = is.trace_id; span_id = is.span_id; pairs = omega arith })
    (links_can links (All-tail IsProfileLink link links all) (omega arith))

span_can : (span : Span) → IsProfileSpan span → weight_of_span span ≤ weight_limit → CanWriteSpan span
span_can span is few = record {
  trace_id = is.trace_id;
  span_id = is.span_id;
  parent_span_id = is.parent_span_id;
  pairs = omega arith;
  events = events_can span.events (omega arith);
  links = links_can span.links is.links.at (omega arith);
}

-- ---- all of a request

abbrev pub CanWrite : ResourceGroup Span → Type 0
CanWrite = CanWriteGroup IsLightResource IsLightScope CanWriteSpan

pub all_can : (groups gs : List (ResourceGroup Span)) → gs ≡ groups → IsProfile (Traces groups) → weight_of (Traces groups) ≤ weight_limit → All CanWrite gs
all_can groups gs same is few = subst (All CanWrite) (sym same) (groups_can IsProfileSpan weight_of_span weight_limit CanWriteSpan span_can groups is.at few)

module _ (gs : List (ResourceGroup Span)) (can : All CanWrite gs) where
  pub resources_can : All IsLightResource (resources_of gs)
  resources_can = all_resources_can IsLightResource IsLightScope CanWriteSpan gs can

  pub scopes_can : All IsLightScope (scopes_of gs)
  scopes_can = all_scopes_can IsLightResource IsLightScope CanWriteSpan gs can

  pub spans_can : All CanWriteSpan (items_of gs)
  spans_can = all_items_can IsLightResource IsLightScope CanWriteSpan gs can

  pub all_events_can : All CanWriteEvent (all_events gs)
  all_events_can = all_flat_map CanWriteEvent (λ (span : Span). span.events) (items_of gs)
      (All-weaker CanWriteSpan (λ (span : Span). All CanWriteEvent span.events) (λ span can. can.events) (items_of gs) spans_can)

  pub all_links_can : All CanWriteLink (all_links gs)
  all_links_can = all_flat_map CanWriteLink (λ (span : Span). span.links) (items_of gs)
      (All-weaker CanWriteSpan (λ (span : Span). All CanWriteLink span.links) (λ span can. can.links) (items_of gs) spans_can)

  pub span_pairs_can : All (λ (span : Span). total 32 weight_of_pair span.pairs ≤ weight_limit) (items_of gs)
  span_pairs_can = All-weaker CanWriteSpan (λ (span : Span). total 32 weight_of_pair span.pairs ≤ weight_limit) (λ span can. can.pairs) (items_of gs) spans_can

  pub event_pairs_can : All (λ (event : Event). total 32 weight_of_pair event.pairs ≤ weight_limit) (all_events gs)
  event_pairs_can = All-weaker CanWriteEvent (λ (event : Event). total 32 weight_of_pair event.pairs ≤ weight_limit) (λ event can. can.pairs) (all_events gs) all_events_can

  pub link_pairs_can : All (λ (link : Link). total 32 weight_of_pair link.pairs ≤ weight_limit) (all_links gs)
  link_pairs_can = All-weaker CanWriteLink (λ (link : Link). total 32 weight_of_pair link.pairs ≤ weight_limit) (λ link can. can.pairs) (all_links gs) all_links_can

-- ---- how many there are

module _ (groups gs : List (ResourceGroup Span)) (same : gs ≡ groups) (few : weight_of (Traces groups) ≤ weight_limit) where
  light : weight_of (Traces gs) ≤ weight_limit
  light = subst (λ gs. weight_of (Traces gs) ≤ weight_limit) (sym same) few

  pub spans_few : length (items_of gs) < 2 ^ 32
  spans_few = omega (arith, light, few_items weight_of_span gs)

  pub spans_most : length (items_of gs) ≤ 2 ^ 32
  spans_most = omega (arith, spans_few)

  pub resources_few : length (resources_of gs) ≤ 2 ^ 32
  resources_few = omega (arith, light, few_resources weight_of_span gs)

  pub scopes_few : length (scopes_of gs) ≤ 2 ^ 32
  scopes_few = omega (arith, light, few_scopes weight_of_span gs)

  events_enough : (span : Span) → 32 * length span.events ≤ weight_of_span span
  events_enough span = let a = few_parts weight_of_event span.events in omega (arith, a)

  links_enough : (span : Span) → 32 * length span.links ≤ weight_of_span span
  links_enough span = let a = few_parts weight_of_link span.links in omega (arith, a)

  pub events_few : length (all_events gs) ≤ 2 ^ 32
  events_few = omega (arith, light, counted.few_parts weight_of_span (λ (span : Span). span.events) events_enough gs)

  pub links_few : length (all_links gs) ≤ 2 ^ 32
  links_few = omega (arith, light, counted.few_parts weight_of_span (λ (span : Span). span.links) links_enough gs)
