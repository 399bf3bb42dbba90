-- Nothing is wrong with the rows of the tables of a request.
use Rattle.std.proofs.Common.{◌≡◌, ◌∙◌, ◌≤◌, List, ◌∷◌, length, map, refl, sym, ap, arith, inl, inr}
use Rattle.std.specs.Prelude.{All, ◌⊎◌}
use Rattle.std.specs.List.{flat_map}
use Rattle.std.proofs.lemmas.List.{length-map}
use Rattle.std.proofs.lemmas.List.Elements.{All-map, All-weaker}
use Rattle.lists.proofs.Every.{all_flat_map, all_of_both}
use Rattle.otlp_model.specs.Limits.{weight_limit}
use Rattle.otlp_model.specs.Profile.{IsProfile, IsProfileEvent, IsProfileLink, IsProfileSpan}
use Rattle.otlp_model.specs.Real.{IsReal, IsRealEvent, IsRealLink, IsRealSpan}
use Rattle.otlp_model.specs.Weight.{weight_of}
use Rattle.otlp_model.specs.declared.groups.Resource.{Resource}
use Rattle.otlp_model.specs.declared.groups.Scope.{Scope}
use Rattle.otlp_model.specs.declared.groups.ResourceGroup.{ResourceGroup}
use Rattle.otlp_model.specs.declared.spans.Span.{Span}
use Rattle.otlp_model.specs.declared.spans.Event.{Event}
use Rattle.otlp_model.specs.declared.spans.Link.{Link}
use Rattle.otlp_model.specs.declared.request.Request.TheVariants.{Traces}
use Rattle.otlp_model.specs.declared.request.Signal.TheVariants as signal
use Rattle.otap_cells.specs.declared.payload.Kind.{Kind}
use Rattle.otap_cells.specs.declared.payload.Kind.TheVariants as table
use Rattle.otap_cells.specs.Columns.{span_events, span_links}
use Rattle.otap_cells.specs.Named.{table_named}
use Rattle.otap_groups.specs.Flat.{items_of, resource_pairs, resources_of, scope_pairs, scopes_of}
use Rattle.otap_groups.specs.Weighing.{CanWriteGroup}
use Rattle.otap_groups.proofs.FrontKinds.{events_front, links_front}
use Rattle.otap_groups.proofs.RealGroups.{real_groups}
use Rattle.otap_groups.proofs.WritableGroups.{all_items_can, all_resources_can, all_scopes_can}
use Rattle.otap_attrs.specs.declared.refusal.RowRefusal.{RowRefusal}
use Rattle.otap_checks.specs.IdDefects.{IdDefect}
use Rattle.otap_checks.specs.Links.{items, links_of}
use Rattle.otap_checks.specs.Reading.{Disagrees}
use Rattle.otap_checks.specs.Rules.{rules_of}
use Rattle.otap_checks.specs.ValueDefects.{HasFineValues}
use Rattle.otap_checks.specs.Written.{AreSound, HaveParentsIn, IsPartKind, link_of, parts_below}
use Rattle.otap_checks.proofs.FinePairs.{IsFineList, IsFineResource, IsFineScope, fine_table, pairs_fine}
use Rattle.otap_checks.proofs.FineWritten.{fine_ids, rows_alike}
use Rattle.otap_checks.proofs.KeptRules.{keeps_agree, none_wrong}
use Rattle.otap_checks.proofs.MainKinds.{other_name, spans_kind}
use Rattle.otap_checks.proofs.SeenParts.{seen_all}
use Rattle.otap_spans.specs.Records.{event_cells, link_cells, span_cells}
use Rattle.otap_spans.specs.Requests.{WrongSpans}
use Rattle.otap_spans.specs.Tables.{all_events, all_links, below_spans, event_lists, event_pairs, link_lists, link_pairs, span_pairs, tables_of_spans}
use Rattle.otap_spans.proofs.NamedTables.{named_event_pairs, named_link_pairs, named_resources, named_scopes, named_spans}
use Rattle.otap_spans.proofs.SpanFits.{event_ids, link_ids}
use Rattle.otap_spans.proofs.SpansAgain.{events_joined, few_e, few_event_lists, few_events, few_l, few_link_lists, few_links, few_main, few_p, few_r, few_s, links_joined}

-- ---- ids

event_kind : IsPartKind table.SpanEvents
unfolding span_events
event_kind = record { part = events_front; ids = event_ids (λ column. (column ≡ 0) ⊎ (column ≡ 1)) (inl refl) (inr refl); own = other_name _ refl }

link_kind : IsPartKind table.SpanLinks
unfolding span_links
link_kind = record { part = links_front; ids = link_ids (λ column. (column ≡ 0) ⊎ (column ≡ 1)) (inl refl) (inr refl); own = other_name _ refl }

module _ (groups : List (ResourceGroup Span)) (light : weight_of (Traces groups) ≤ weight_limit) where
  events_are : length (flat_map (λ rows. rows) (map (map event_cells) (event_lists groups))) ≡ length (all_events groups)
  events_are = seen_all event_cells (event_lists groups) ∙ ap length (events_joined groups)

  links_are : length (flat_map (λ rows. rows) (map (map link_cells) (link_lists groups))) ≡ length (all_links groups)
  links_are = seen_all link_cells (link_lists groups) ∙ ap length (links_joined groups)

  sound : AreSound (below_spans groups)
  sound = (
    (refl, few_r groups light),
    (
      (refl, few_s groups light),
      (
        (refl, few_p groups light),
        (
          (event_kind, omega (arith, few_event_lists groups light, length-map (event_lists groups) (map event_cells)), omega (arith, few_events groups light, events_are)),
          (
            (link_kind, omega (arith, few_link_lists groups light, length-map (link_lists groups) (map link_cells)), omega (arith, few_links groups light, links_are)),
            (
              (refl, few_e groups light),
              ((refl, few_l groups light), tt),
            ),
          ),
        ),
      ),
    ),
  )

  linked : HaveParentsIn table.Spans groups (below_spans groups) (below_spans groups)
  linked = (
    inl (record { kind = refl; at = inr (inl refl); count = length-map (resources_of groups) (λ (resource : Resource). resource.pairs) }),
    (
      inl (record { kind = refl; at = inr (inr refl); count = length-map (scopes_of groups) (λ (scope : Scope). scope.pairs) }),
      (
        inl (record { kind = refl; at = inl refl; count = length-map (items_of groups) (λ (span : Span). span.pairs) }),
        (
          inl (record { kind = refl; at = inl refl; count = length-map (event_lists groups) (map event_cells) ∙ length-map (items_of groups) (λ (span : Span). span.events) }),
          (
            inl (record { kind = refl; at = inl refl; count = length-map (link_lists groups) (map link_cells) ∙ length-map (items_of groups) (λ (span : Span). span.links) }),
            (
              inr (record {
                above = parts_below table.SpanEvents table.Spans event_cells (event_lists groups);
                listed = (3, omega arith, refl);
                kind = refl;
                at = refl;
                lists = map (map event_cells) (event_lists groups);
                content = refl;
                count = length-map (all_events groups) (λ (event : Event). event.pairs) ∙ sym events_are;
              }),
              (
                inr (record {
                  above = parts_below table.SpanLinks table.Spans link_cells (link_lists groups);
                  listed = (4, omega arith, refl);
                  kind = refl;
                  at = refl;
                  lists = map (map link_cells) (link_lists groups);
                  content = refl;
                  count = length-map (all_links groups) (λ (link : Link). link.pairs) ∙ sym links_are;
                }),
                tt,
              ),
            ),
          ),
        ),
      ),
    ),
  )

  same_links : links_of signal.Traces ≡ items table.Spans ∷ map link_of (below_spans groups)
  unfolding links_of
  same_links = refl

  ids_fine : (kind : Kind) (wrong : RowRefusal) → IdDefect signal.Traces (tables_of_spans groups) kind wrong → ⊥
  unfolding tables_of_spans
  ids_fine = fine_ids table.Spans span_cells (below_spans groups) groups refl spans_kind (few_main groups light) sound linked signal.Traces same_links

  alike : Disagrees (table_named table.Spans (tables_of_spans groups)) → ⊥
  unfolding tables_of_spans
  alike = rows_alike table.Spans span_cells (below_spans groups) groups refl spans_kind (few_main groups light) sound linked

-- ---- values

record IsFineEvent (event : Event) : Type 0 where
  pairs : IsFineList event.pairs

record IsFineLink (link : Link) : Type 0 where
  pairs : IsFineList link.pairs

record IsFineSpan (span : Span) : Type 0 where
  pairs : IsFineList span.pairs
  events : All IsFineEvent span.events
  links : All IsFineLink span.links

event_fine : (event : Event) → IsRealEvent event → IsProfileEvent event → IsFineEvent event
event_fine event real is = record { pairs = pairs_fine event.pairs real.pairs is.pairs.at }

link_fine : (link : Link) → IsRealLink link → IsProfileLink link → IsFineLink link
link_fine link real is = record { pairs = pairs_fine link.pairs real.pairs is.pairs.at }

span_fine : (span : Span) → IsRealSpan span → IsProfileSpan span → IsFineSpan span
span_fine span real is = record {
  pairs = pairs_fine span.pairs real.pairs is.pairs.at;
  events = all_of_both IsRealEvent IsProfileEvent IsFineEvent event_fine span.events real.events.at is.events.at;
  links = all_of_both IsRealLink IsProfileLink IsFineLink link_fine span.links real.links.at is.links.at;
}

module _ (groups : List (ResourceGroup Span)) (real : IsReal (Traces groups)) (is : IsProfile (Traces groups)) where
  all : All (CanWriteGroup IsFineResource IsFineScope IsFineSpan) groups
  all = real_groups IsRealSpan IsProfileSpan IsFineSpan span_fine IsFineList pairs_fine groups real.at is.at

  spans_fine : All IsFineSpan (items_of groups)
  spans_fine = all_items_can IsFineResource IsFineScope IsFineSpan groups all

  events_fine : All IsFineEvent (all_events groups)
  events_fine = all_flat_map IsFineEvent (λ (span : Span). span.events) (items_of groups)
      (All-weaker IsFineSpan (λ (span : Span). All IsFineEvent span.events) (λ span fine. fine.events) (items_of groups) spans_fine)

  links_fine : All IsFineLink (all_links groups)
  links_fine = all_flat_map IsFineLink (λ (span : Span). span.links) (items_of groups)
      (All-weaker IsFineSpan (λ (span : Span). All IsFineLink span.links) (λ span fine. fine.links) (items_of groups) spans_fine)

  fine_resources : HasFineValues (tables_of_spans groups) table.ResourceAttrs
  fine_resources = fine_table (tables_of_spans groups) table.ResourceAttrs (resource_pairs groups) (named_resources groups)
      (All-map IsFineList (λ (resource : Resource). resource.pairs) (resources_of groups) (all_resources_can IsFineResource IsFineScope IsFineSpan groups all))

  fine_scopes : HasFineValues (tables_of_spans groups) table.ScopeAttrs
  fine_scopes = fine_table (tables_of_spans groups) table.ScopeAttrs (scope_pairs groups) (named_scopes groups)
      (All-map IsFineList (λ (scope : Scope). scope.pairs) (scopes_of groups) (all_scopes_can IsFineResource IsFineScope IsFineSpan groups all))

  fine_spans : HasFineValues (tables_of_spans groups) table.SpanAttrs
  fine_spans = fine_table (tables_of_spans groups) table.SpanAttrs (span_pairs groups) (named_spans groups)
      (All-map IsFineList (λ (span : Span). span.pairs) (items_of groups)
      (All-weaker IsFineSpan (λ (span : Span). IsFineList span.pairs) (λ span fine. fine.pairs) (items_of groups) spans_fine))

  fine_events : HasFineValues (tables_of_spans groups) table.EventAttrs
  fine_events = fine_table (tables_of_spans groups) table.EventAttrs (event_pairs groups) (named_event_pairs groups)
      (All-map IsFineList (λ (event : Event). event.pairs) (all_events groups)
      (All-weaker IsFineEvent (λ (event : Event). IsFineList event.pairs) (λ event fine. fine.pairs) (all_events groups) events_fine))

  fine_links : HasFineValues (tables_of_spans groups) table.LinkAttrs
  fine_links = fine_table (tables_of_spans groups) table.LinkAttrs (link_pairs groups) (named_link_pairs groups)
      (All-map IsFineList (λ (link : Link). link.pairs) (all_links groups)
      (All-weaker IsFineLink (λ (link : Link). IsFineList link.pairs) (λ link fine. fine.pairs) (all_links groups) links_fine))

pub no_defects : (groups : List (ResourceGroup Span)) → IsReal (Traces groups) → IsProfile (Traces groups) → weight_of (Traces groups) ≤ weight_limit
    → (kind : Kind) (wrong : RowRefusal) → WrongSpans (tables_of_spans groups) kind wrong → ⊥
unfolding rules_of
no_defects groups real is light = none_wrong signal.Traces (tables_of_spans groups) (ids_fine groups light) (
  fine_resources groups real is,
  (
    fine_scopes groups real is,
    (
      fine_spans groups real is,
      (
        fine_events groups real is,
        (
          fine_links groups real is,
          (
            keeps_agree (tables_of_spans groups) table.Spans (alike groups light),
            tt,
          ),
        ),
      ),
    ),
  ),
)
