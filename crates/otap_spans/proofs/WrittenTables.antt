-- The tables of a request are tables of the profile.
use Rattle.std.proofs.Common.{◌^◌, ◌≤◌, List, [], ◌∷◌, length, drop, refl, sym, subst, arith}
use Rattle.std.specs.Prelude.{All}
use Rattle.std.specs.List.{AllByRecursion}
use Rattle.std.proofs.lemmas.List.Elements.{All-nil, All-cons, All-head, All-tail, All-map, All-weaker, All-from_recursion, recursion_from_All}
use Rattle.lists.proofs.Every.{all_flat_map, every_weaker, all_of_both}
use Rattle.otlp_model.specs.Limits.{weight_limit}
use Rattle.otlp_model.specs.Profile.{IsProfile, IsProfileEvent, IsProfileLink, IsProfileResourceGroup, IsProfileScopeGroup, IsProfileSpan}
use Rattle.otlp_model.specs.Real.{IsReal, IsRealEvent, IsRealLink, IsRealResource, IsRealResourceGroup, IsRealScope, IsRealScopeGroup, IsRealSpan}
use Rattle.otlp_model.specs.Weight.{weight_of}
use Rattle.otlp_model.specs.declared.groups.Resource.{Resource}
use Rattle.otlp_model.specs.declared.groups.Scope.{Scope}
use Rattle.otlp_model.specs.declared.groups.ScopeGroup.{ScopeGroup}
use Rattle.otlp_model.specs.declared.groups.ResourceGroup.{ResourceGroup}
use Rattle.otlp_model.specs.declared.spans.Span.{Span}
use Rattle.otlp_model.specs.declared.spans.Event.{Event}
use Rattle.otlp_model.specs.declared.spans.Link.{Link}
use Rattle.otlp_model.specs.declared.request.Request.TheVariants.{Traces}
use Rattle.otap_cells.specs.declared.payload.Kind.TheVariants as table
use Rattle.otap_cells.specs.Columns.{columns_of, spans, span_events as event_columns, span_links as link_columns}
use Rattle.otap_cells.specs.Tables.{IsRow}
use Rattle.otap_groups.specs.Flat.{flat_items, items_of, resources_of, scopes_of, resource_pairs, scope_pairs}
use Rattle.otap_groups.specs.ProfileTables.{IsProfileTable}
use Rattle.otap_groups.specs.Stored.{main_table, part_table, stored_rows}
use Rattle.otap_groups.specs.Weighing.{CanWriteGroup, CanWriteScope}
use Rattle.otap_groups.proofs.Bounds.{bounded}
use Rattle.otap_groups.proofs.PartTables.{part_written}
use Rattle.otap_groups.proofs.ProfileRows.{OfFlat, OwnFit, of_flat, rows_fit}
use Rattle.otap_groups.proofs.WritableGroups.{all_items_can, all_resources_can, all_scopes_can}
use Rattle.otap_groups.proofs.FrontKinds.{events_front, links_front}
use Rattle.otap_checks.specs.Written.{Written, table_of}
use Rattle.otap_checks.proofs.AllWritten.{main_profile, profile}
use Rattle.otap_checks.proofs.MainKinds.{spans_kind}
use Rattle.otap_checks.proofs.SeenParts.{table_seen}
use Rattle.otap_checks.proofs.WrittenPairs.{AreReal, attributes_written}
use Rattle.otap_spans.specs.Records.{event_cells, link_cells, span_cells}
use Rattle.otap_spans.specs.Tables.{all_events, all_links, below_spans, event_lists, event_pairs, link_lists, link_pairs, span_pairs, tables_of_spans}
use Rattle.otap_spans.proofs.SpanFits.{event_ids, event_own, event_row, link_ids, link_own, link_row, span_own}
use Rattle.otap_spans.proofs.SpansAgain.{events_joined, few_e, few_event_lists, few_events, few_l, few_link_lists, few_links, few_main, few_p, few_r, few_s, links_joined}

-- ---- what fits

record IsFitEvent (event : Event) : Type 0 where
  own : IsRow (drop 2 event_columns) (event_cells event)
  pairs : AreReal event.pairs

record IsFitLink (link : Link) : Type 0 where
  own : IsRow (drop 2 link_columns) (link_cells link)
  pairs : AreReal link.pairs

record IsFitSpan (span : Span) : Type 0 where
  own : IsRow (drop 9 spans) (span_cells span)
  pairs : AreReal span.pairs
  events : All IsFitEvent span.events
  links : All IsFitLink span.links

event_fit : (event : Event) → IsRealEvent event → IsProfileEvent event → IsFitEvent event
event_fit event real is = record { own = event_own event real is; pairs = real.pairs }

link_fit : (link : Link) → IsRealLink link → IsProfileLink link → IsFitLink link
link_fit link real is = record { own = link_own link real is; pairs = real.pairs }

span_fit : (span : Span) → IsRealSpan span → IsProfileSpan span → IsFitSpan span
span_fit span real is = record {
  own = span_own span real is;
  pairs = real.pairs;
  events = all_of_both IsRealEvent IsProfileEvent IsFitEvent event_fit span.events real.events.at is.events.at;
  links = all_of_both IsRealLink IsProfileLink IsFitLink link_fit span.links real.links.at is.links.at;
}

abbrev IsFitScope : ScopeGroup Span → Type 0
IsFitScope = CanWriteScope IsRealScope IsFitSpan

abbrev IsFit : ResourceGroup Span → Type 0
IsFit = CanWriteGroup IsRealResource IsRealScope IsFitSpan

scopes_fit : (groups : List (ScopeGroup Span)) → All (IsRealScopeGroup IsRealSpan) groups → All (IsProfileScopeGroup IsProfileSpan) groups → All IsFitScope groups
scopes_fit [] real is = All-nil IsFitScope
scopes_fit (group ∷ groups) real is =
    let r : IsRealScopeGroup IsRealSpan group = All-head (IsRealScopeGroup IsRealSpan) group groups real in
    let p : IsProfileScopeGroup IsProfileSpan group = All-head (IsProfileScopeGroup IsProfileSpan) group groups is in
    All-cons IsFitScope group groups (r.scope, all_of_both IsRealSpan IsProfileSpan IsFitSpan span_fit group.items r.items.at p.items.at)
    (scopes_fit groups (All-tail (IsRealScopeGroup IsRealSpan) group groups real) (All-tail (IsProfileScopeGroup IsProfileSpan) group groups is))

groups_fit : (groups : List (ResourceGroup Span)) → All (IsRealResourceGroup IsRealSpan) groups → All (IsProfileResourceGroup IsProfileSpan) groups → All IsFit groups
groups_fit [] real is = All-nil IsFit
groups_fit (group ∷ groups) real is =
    let r : IsRealResourceGroup IsRealSpan group = All-head (IsRealResourceGroup IsRealSpan) group groups real in
    let p : IsProfileResourceGroup IsProfileSpan group = All-head (IsProfileResourceGroup IsProfileSpan) group groups is in
    All-cons IsFit group groups (r.resource, scopes_fit group.scopes r.scopes.at p.scopes.at)
    (groups_fit groups (All-tail (IsRealResourceGroup IsRealSpan) group groups real) (All-tail (IsProfileResourceGroup IsProfileSpan) group groups is))

-- ---- all of a request

module _ (groups : List (ResourceGroup Span)) (fit : All IsFit groups) (light : weight_of (Traces groups) ≤ weight_limit) where
  few : length (items_of groups) ≤ 2 ^ 32
  few = few_main groups light

  main_rows_fit : All (IsRow (columns_of table.Spans)) (stored_rows span_cells 0 0 0 (flat_items groups))
  unfolding spans
  main_rows_fit =
      rows_fit span_cells (drop 9 spans) 0 0 0 (flat_items groups) (omega arith) (bounded 4294967295 groups (omega (arith, few)))
      (every_weaker (OfFlat IsRealResource IsRealScope IsFitSpan) (OfFlat IsRealResource IsRealScope (OwnFit span_cells (drop 9 spans)))
      (λ f of. (of.0, of.1, of.2.own)) (flat_items groups) (of_flat IsRealResource IsRealScope IsFitSpan groups fit))

  main_written : IsProfileTable (main_table table.Spans span_cells groups)
  main_written = main_profile table.Spans span_cells groups spans_kind few main_rows_fit

  fit_spans : All IsFitSpan (items_of groups)
  fit_spans = all_items_can IsRealResource IsRealScope IsFitSpan groups fit

  fit_events : All IsFitEvent (all_events groups)
  fit_events = all_flat_map IsFitEvent (λ (span : Span). span.events) (items_of groups)
      (All-weaker IsFitSpan (λ (span : Span). All IsFitEvent span.events) (λ span fit. fit.events) (items_of groups) fit_spans)

  fit_links : All IsFitLink (all_links groups)
  fit_links = all_flat_map IsFitLink (λ (span : Span). span.links) (items_of groups)
      (All-weaker IsFitSpan (λ (span : Span). All IsFitLink span.links) (λ span fit. fit.links) (items_of groups) fit_spans)

  real_resources : All AreReal (resource_pairs groups)
  real_resources = All-map AreReal (λ (resource : Resource). resource.pairs) (resources_of groups)
      (All-weaker IsRealResource (λ (resource : Resource). AreReal resource.pairs) (λ resource real. real.pairs) (resources_of groups)
      (all_resources_can IsRealResource IsRealScope IsFitSpan groups fit))

  real_scopes : All AreReal (scope_pairs groups)
  real_scopes = All-map AreReal (λ (scope : Scope). scope.pairs) (scopes_of groups)
      (All-weaker IsRealScope (λ (scope : Scope). AreReal scope.pairs) (λ scope real. real.pairs) (scopes_of groups)
      (all_scopes_can IsRealResource IsRealScope IsFitSpan groups fit))

  real_spans : All AreReal (span_pairs groups)
  real_spans = All-map AreReal (λ (span : Span). span.pairs) (items_of groups)
      (All-weaker IsFitSpan (λ (span : Span). AreReal span.pairs) (λ span fit. fit.pairs) (items_of groups) fit_spans)

  real_events : All AreReal (event_pairs groups)
  real_events = All-map AreReal (λ (event : Event). event.pairs) (all_events groups)
      (All-weaker IsFitEvent (λ (event : Event). AreReal event.pairs) (λ event fit. fit.pairs) (all_events groups) fit_events)

  real_links : All AreReal (link_pairs groups)
  real_links = All-map AreReal (λ (link : Link). link.pairs) (all_links groups)
      (All-weaker IsFitLink (λ (link : Link). AreReal link.pairs) (λ link fit. fit.pairs) (all_links groups) fit_links)

  events_written : IsProfileTable (part_table table.SpanEvents event_cells (event_lists groups))
  events_written =
      part_written table.SpanEvents event_cells (drop 2 event_columns) (event_lists groups) events_front event_row event_ids (few_event_lists groups light)
      (subst (λ (events : List Event). length events ≤ 2 ^ 32) (sym (events_joined groups)) (few_events groups light))
      (subst (AllByRecursion (λ (event : Event). IsRow (drop 2 event_columns) (event_cells event))) (sym (events_joined groups))
      (recursion_from_All (λ (event : Event). IsRow (drop 2 event_columns) (event_cells event)) (all_events groups)
      (All-weaker IsFitEvent (λ (event : Event). IsRow (drop 2 event_columns) (event_cells event)) (λ event fit. fit.own) (all_events groups) fit_events)))

  links_written : IsProfileTable (part_table table.SpanLinks link_cells (link_lists groups))
  links_written =
      part_written table.SpanLinks link_cells (drop 2 link_columns) (link_lists groups) links_front link_row link_ids (few_link_lists groups light)
      (subst (λ (links : List Link). length links ≤ 2 ^ 32) (sym (links_joined groups)) (few_links groups light))
      (subst (AllByRecursion (λ (link : Link). IsRow (drop 2 link_columns) (link_cells link))) (sym (links_joined groups))
      (recursion_from_All (λ (link : Link). IsRow (drop 2 link_columns) (link_cells link)) (all_links groups)
      (All-weaker IsFitLink (λ (link : Link). IsRow (drop 2 link_columns) (link_cells link)) (λ link fit. fit.own) (all_links groups) fit_links)))

  below_written : AllByRecursion (λ (w : Written). IsProfileTable (table_of w)) (below_spans groups)
  below_written = (
    attributes_written table.ResourceAttrs (resource_pairs groups) refl (few_r groups light) real_resources,
    (
      attributes_written table.ScopeAttrs (scope_pairs groups) refl (few_s groups light) real_scopes,
      (
        attributes_written table.SpanAttrs (span_pairs groups) refl (few_p groups light) real_spans,
        (
          subst IsProfileTable (sym (table_seen event_cells table.SpanEvents (event_lists groups))) events_written,
          (
            subst IsProfileTable (sym (table_seen link_cells table.SpanLinks (link_lists groups))) links_written,
            (
              attributes_written table.EventAttrs (event_pairs groups) refl (few_e groups light) real_events,
              (
                attributes_written table.LinkAttrs (link_pairs groups) refl (few_l groups light) real_links,
                tt,
              ),
            ),
          ),
        ),
      ),
    ),
  )

  all_written : All IsProfileTable (tables_of_spans groups)
  unfolding tables_of_spans
  all_written = profile table.Spans span_cells (below_spans groups) groups main_written
      (All-from_recursion (λ (w : Written). IsProfileTable (table_of w)) (below_spans groups) below_written)

pub tables_written : (groups : List (ResourceGroup Span)) → IsReal (Traces groups) → IsProfile (Traces groups) → weight_of (Traces groups) ≤ weight_limit
    → All IsProfileTable (tables_of_spans groups)
tables_written groups real is light = all_written groups (groups_fit groups real.at is.at) light
