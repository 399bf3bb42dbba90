use Rattle.std.proofs.Common.{List, map, ap, ◌∙◌}
use Rattle.otlp_model.specs.declared.spans.Span.{Span}
use Rattle.otlp_model.specs.declared.spans.Event.{Event}
use Rattle.otlp_model.specs.declared.spans.Link.{Link}
use Rattle.otlp_model.specs.Limits.{weight_limit}
use Rattle.otlp_model.specs.Weight.{total, weight_of_pair}
use Rattle.std.specs.Prelude.{◌≤◌, ◌^◌}
use Rattle.lists.proofs.Every.{found_all}
use Rattle.otlp_model.specs.declared.value.Pair.{Pair}
use Rattle.otap_cells.specs.declared.payload.Kind.TheVariants as table
use Rattle.otap_cells.specs.Tables.{Table}
use Rattle.otap_groups.specs.declared.flat.Placed.{Placed}
use Rattle.otap_groups.specs.Flat.{items_of}
use Rattle.otap_groups.specs.Views.{seen_flat, seen_placed}
use Rattle.otap_groups.proofs.FlatItems.{all_items}
use Rattle.otap_spans.specs.Records.{event_cells, link_cells}
use Rattle.otap_spans.specs.Tables.{all_events, all_links}
use Rattle.otap_spans.specs.Writable.{CanWriteEvent, CanWriteLink, CanWriteSpan}
use Rattle.otap_spans.proofs.WritableSpans.{all_can, all_events_can, all_links_can, event_pairs_can, events_few, link_pairs_can, links_few}
use Rattle.otap_spans.proofs.WritableSpans.{resources_can, resources_few, scopes_can, scopes_few, span_pairs_can, spans_can, spans_few, spans_most}
use Rattle.otap_spans.proofs.WrittenParts.{found_few, main_is, pairs_table, parts_seen, parts_table, pushed, rows_few, spans_seen, written, written_set}
use Rattle.otap_spans.proofs.writing.tables_of.Goals as goal

abbrev span_now : Placed Span → Span
span_now p = p.part.now

abbrev event_now : Placed Event → Event
event_now p = p.part.now

abbrev link_now : Placed Link → Link
link_now p = p.part.now

abbrev IsLight : {X : Type 0} → (X → List Pair) → X → Type 0
IsLight pairs x = total 32 weight_of_pair (pairs x) ≤ weight_limit

pub flatten-requires : goal.flatten-requires
flatten-requires c =
    record { few = spans_few c.args.groups.now c.as_slice-groups.result.now c.as_slice-groups.ensures c.requires.weight }

pub write_rows-requires-clause-items : goal.write_rows-requires-clause-items
write_rows-requires-clause-items c =
    all_items CanWriteSpan c.deref.result.now c.as_slice-groups.result.now (ap (map seen_flat) c.deref.ensures.value ∙ c.in_ok-rows.ensures.items)
    (spans_can c.as_slice-groups.result.now (all_can c.args.groups.now c.as_slice-groups.result.now c.as_slice-groups.ensures c.requires.profile c.requires.weight))

pub items_of-requires : goal.items_of-requires
items_of-requires c =
    rows_few c.as_slice-groups.result.now c.deref-2.result.now
    (ap (map seen_flat) c.deref-2.ensures.value ∙ c.in_ok-rows.ensures.items) (spans_few c.args.groups.now c.as_slice-groups.result.now c.as_slice-groups.ensures c.requires.weight)

pub parts_of-requires : goal.parts_of-requires
parts_of-requires c =
    record {
      few = found_few span_now c.deref-3.result.now (items_of c.as_slice-groups.result.now) (2 ^ 32)
          (ap (map span_now) c.deref-3.ensures.value ∙ spans_seen c.as_slice-groups.result.now c.deref-2.result.now c.in_ok-spans.spans.items
          (ap (map seen_flat) c.deref-2.ensures.value ∙ c.in_ok-rows.ensures.items) c.in_ok-spans.ensures)
          (spans_most c.args.groups.now c.as_slice-groups.result.now c.as_slice-groups.ensures c.requires.weight);
    }

pub parts_of-requires-2 : goal.parts_of-requires-2
parts_of-requires-2 c =
    record {
      few = found_few span_now c.deref-4.result.now (items_of c.as_slice-groups.result.now) (2 ^ 32)
          (ap (map span_now) c.deref-4.ensures.value ∙ spans_seen c.as_slice-groups.result.now c.deref-2.result.now c.in_ok-spans.spans.items
          (ap (map seen_flat) c.deref-2.ensures.value ∙ c.in_ok-rows.ensures.items) c.in_ok-spans.ensures)
          (spans_most c.args.groups.now c.as_slice-groups.result.now c.as_slice-groups.ensures c.requires.weight);
    }

pub add_resources-requires-clause-few : goal.add_resources-requires-clause-few
add_resources-requires-clause-few c =
    resources_few c.args.groups.now c.as_slice-groups.result.now c.as_slice-groups.ensures c.requires.weight

pub add_resources-requires-clause-weight : goal.add_resources-requires-clause-weight
add_resources-requires-clause-weight c =
    resources_can c.as_slice-groups.result.now (all_can c.args.groups.now c.as_slice-groups.result.now c.as_slice-groups.ensures c.requires.profile c.requires.weight)

pub add_scopes-requires-clause-few : goal.add_scopes-requires-clause-few
add_scopes-requires-clause-few c =
    scopes_few c.args.groups.now c.as_slice-groups.result.now c.as_slice-groups.ensures c.requires.weight

pub add_scopes-requires-clause-weight : goal.add_scopes-requires-clause-weight
add_scopes-requires-clause-weight c =
    scopes_can c.as_slice-groups.result.now (all_can c.args.groups.now c.as_slice-groups.result.now c.as_slice-groups.ensures c.requires.profile c.requires.weight)

pub add_attributes-requires-clause-few : goal.add_attributes-requires-clause-few
add_attributes-requires-clause-few c =
    found_few span_now c.deref-5.result.now (items_of c.as_slice-groups.result.now) (2 ^ 32)
    (ap (map span_now) c.deref-5.ensures.value ∙ spans_seen c.as_slice-groups.result.now c.deref-2.result.now c.in_ok-spans.spans.items
    (ap (map seen_flat) c.deref-2.ensures.value ∙ c.in_ok-rows.ensures.items) c.in_ok-spans.ensures)
    (spans_most c.args.groups.now c.as_slice-groups.result.now c.as_slice-groups.ensures c.requires.weight)

pub add_attributes-requires-clause-weight : goal.add_attributes-requires-clause-weight
add_attributes-requires-clause-weight c =
    found_all span_now (IsLight (λ (span : Span). span.pairs)) c.deref-5.result.now (items_of c.as_slice-groups.result.now)
    (ap (map span_now) c.deref-5.ensures.value ∙ spans_seen c.as_slice-groups.result.now c.deref-2.result.now c.in_ok-spans.spans.items
    (ap (map seen_flat) c.deref-2.ensures.value ∙ c.in_ok-rows.ensures.items) c.in_ok-spans.ensures)
    (span_pairs_can c.as_slice-groups.result.now (all_can c.args.groups.now c.as_slice-groups.result.now c.as_slice-groups.ensures c.requires.profile c.requires.weight))

pub add_parts-requires-clause-parts : goal.add_parts-requires-clause-parts
add_parts-requires-clause-parts c =
    found_all event_now CanWriteEvent c.deref-6.result.now (all_events c.as_slice-groups.result.now)
    (ap (map event_now) c.deref-6.ensures.value ∙ parts_seen (λ (span : Span). span.events) c.as_slice-groups.result.now c.deref-3.result.now c.in_ok-events.events.items
    (ap (map span_now) c.deref-3.ensures.value ∙ spans_seen c.as_slice-groups.result.now c.deref-2.result.now c.in_ok-spans.spans.items
    (ap (map seen_flat) c.deref-2.ensures.value ∙ c.in_ok-rows.ensures.items) c.in_ok-spans.ensures) c.in_ok-events.ensures.parts)
    (all_events_can c.as_slice-groups.result.now (all_can c.args.groups.now c.as_slice-groups.result.now c.as_slice-groups.ensures c.requires.profile c.requires.weight))

pub add_parts-requires-2-clause-parts : goal.add_parts-requires-2-clause-parts
add_parts-requires-2-clause-parts c =
    found_all link_now CanWriteLink c.deref-7.result.now (all_links c.as_slice-groups.result.now)
    (ap (map link_now) c.deref-7.ensures.value ∙ parts_seen (λ (span : Span). span.links) c.as_slice-groups.result.now c.deref-4.result.now c.in_ok-links.links.items
    (ap (map span_now) c.deref-4.ensures.value ∙ spans_seen c.as_slice-groups.result.now c.deref-2.result.now c.in_ok-spans.spans.items
    (ap (map seen_flat) c.deref-2.ensures.value ∙ c.in_ok-rows.ensures.items) c.in_ok-spans.ensures) c.in_ok-links.ensures.parts)
    (all_links_can c.as_slice-groups.result.now (all_can c.args.groups.now c.as_slice-groups.result.now c.as_slice-groups.ensures c.requires.profile c.requires.weight))

pub add_attributes-requires-2-clause-few : goal.add_attributes-requires-2-clause-few
add_attributes-requires-2-clause-few c =
    found_few event_now c.deref-8.result.now (all_events c.as_slice-groups.result.now) (2 ^ 32)
    (ap (map event_now) c.deref-8.ensures.value ∙ parts_seen (λ (span : Span). span.events) c.as_slice-groups.result.now c.deref-3.result.now c.in_ok-events.events.items
    (ap (map span_now) c.deref-3.ensures.value ∙ spans_seen c.as_slice-groups.result.now c.deref-2.result.now c.in_ok-spans.spans.items
    (ap (map seen_flat) c.deref-2.ensures.value ∙ c.in_ok-rows.ensures.items) c.in_ok-spans.ensures) c.in_ok-events.ensures.parts)
    (events_few c.args.groups.now c.as_slice-groups.result.now c.as_slice-groups.ensures c.requires.weight)

pub add_attributes-requires-2-clause-weight : goal.add_attributes-requires-2-clause-weight
add_attributes-requires-2-clause-weight c =
    found_all event_now (IsLight (λ (event : Event). event.pairs)) c.deref-8.result.now (all_events c.as_slice-groups.result.now)
    (ap (map event_now) c.deref-8.ensures.value ∙ parts_seen (λ (span : Span). span.events) c.as_slice-groups.result.now c.deref-3.result.now c.in_ok-events.events.items
    (ap (map span_now) c.deref-3.ensures.value ∙ spans_seen c.as_slice-groups.result.now c.deref-2.result.now c.in_ok-spans.spans.items
    (ap (map seen_flat) c.deref-2.ensures.value ∙ c.in_ok-rows.ensures.items) c.in_ok-spans.ensures) c.in_ok-events.ensures.parts)
    (event_pairs_can c.as_slice-groups.result.now (all_can c.args.groups.now c.as_slice-groups.result.now c.as_slice-groups.ensures c.requires.profile c.requires.weight))

pub add_attributes-requires-3-clause-few : goal.add_attributes-requires-3-clause-few
add_attributes-requires-3-clause-few c =
    found_few link_now c.deref-9.result.now (all_links c.as_slice-groups.result.now) (2 ^ 32)
    (ap (map link_now) c.deref-9.ensures.value ∙ parts_seen (λ (span : Span). span.links) c.as_slice-groups.result.now c.deref-4.result.now c.in_ok-links.links.items
    (ap (map span_now) c.deref-4.ensures.value ∙ spans_seen c.as_slice-groups.result.now c.deref-2.result.now c.in_ok-spans.spans.items
    (ap (map seen_flat) c.deref-2.ensures.value ∙ c.in_ok-rows.ensures.items) c.in_ok-spans.ensures) c.in_ok-links.ensures.parts)
    (links_few c.args.groups.now c.as_slice-groups.result.now c.as_slice-groups.ensures c.requires.weight)

pub add_attributes-requires-3-clause-weight : goal.add_attributes-requires-3-clause-weight
add_attributes-requires-3-clause-weight c =
    found_all link_now (IsLight (λ (link : Link). link.pairs)) c.deref-9.result.now (all_links c.as_slice-groups.result.now)
    (ap (map link_now) c.deref-9.ensures.value ∙ parts_seen (λ (span : Span). span.links) c.as_slice-groups.result.now c.deref-4.result.now c.in_ok-links.links.items
    (ap (map span_now) c.deref-4.ensures.value ∙ spans_seen c.as_slice-groups.result.now c.deref-2.result.now c.in_ok-spans.spans.items
    (ap (map seen_flat) c.deref-2.ensures.value ∙ c.in_ok-rows.ensures.items) c.in_ok-spans.ensures) c.in_ok-links.ensures.parts)
    (link_pairs_can c.as_slice-groups.result.now (all_can c.args.groups.now c.as_slice-groups.result.now c.as_slice-groups.ensures c.requires.profile c.requires.weight))

pub returns : goal.returns
returns c =
    written c.as_slice-groups.result.now c.add_attributes-3.new.tables.items _ _ _ _ _ _
    (pushed c.in_ok-main.main _ _ _ _ _ _ _ _ _ _ _ _ _ _ _ c.add_attributes-3.new.tables.items c.new-tables.ensures.items c.in_ok-push.ensures.items (ap (λ (t : Table). t.kind) c.in_ok-main.ensures)
    c.in_ok-add_resources.ensures.ok c.in_ok-add_scopes.ensures.ok c.in_ok-add_attributes.ensures.ok c.in_ok-add_parts.ensures.ok c.in_ok-add_parts-2.ensures.ok c.in_ok-add_attributes-2.ensures.ok
    c.in_ok-add_attributes-3.ensures.ok)
    (main_is c.as_slice-groups.result.now c.deref.result.now c.in_ok-main.main (ap (map seen_flat) c.deref.ensures.value ∙ c.in_ok-rows.ensures.items) c.in_ok-main.ensures)
    (pairs_table table.SpanAttrs span_now (λ (span : Span). span.pairs) c.deref-5.result.now (items_of c.as_slice-groups.result.now)
    (ap (map span_now) c.deref-5.ensures.value ∙ spans_seen c.as_slice-groups.result.now c.deref-2.result.now c.in_ok-spans.spans.items
    (ap (map seen_flat) c.deref-2.ensures.value ∙ c.in_ok-rows.ensures.items) c.in_ok-spans.ensures))
    (parts_table (λ (span : Span). span.events) c.as_slice-groups.result.now c.deref-3.result.now c.deref-6.result.now
    (ap (map span_now) c.deref-3.ensures.value ∙ spans_seen c.as_slice-groups.result.now c.deref-2.result.now c.in_ok-spans.spans.items
    (ap (map seen_flat) c.deref-2.ensures.value ∙ c.in_ok-rows.ensures.items) c.in_ok-spans.ensures)
    (ap (map seen_placed) c.deref-6.ensures.value ∙ c.in_ok-events.ensures.parts) table.SpanEvents event_cells)
    (parts_table (λ (span : Span). span.links) c.as_slice-groups.result.now c.deref-4.result.now c.deref-7.result.now
    (ap (map span_now) c.deref-4.ensures.value ∙ spans_seen c.as_slice-groups.result.now c.deref-2.result.now c.in_ok-spans.spans.items
    (ap (map seen_flat) c.deref-2.ensures.value ∙ c.in_ok-rows.ensures.items) c.in_ok-spans.ensures)
    (ap (map seen_placed) c.deref-7.ensures.value ∙ c.in_ok-links.ensures.parts) table.SpanLinks link_cells)
    (pairs_table table.EventAttrs event_now (λ (event : Event). event.pairs) c.deref-8.result.now (all_events c.as_slice-groups.result.now)
    (ap (map event_now) c.deref-8.ensures.value ∙ parts_seen (λ (span : Span). span.events) c.as_slice-groups.result.now c.deref-3.result.now c.in_ok-events.events.items
    (ap (map span_now) c.deref-3.ensures.value ∙ spans_seen c.as_slice-groups.result.now c.deref-2.result.now c.in_ok-spans.spans.items
    (ap (map seen_flat) c.deref-2.ensures.value ∙ c.in_ok-rows.ensures.items) c.in_ok-spans.ensures) c.in_ok-events.ensures.parts))
    (pairs_table table.LinkAttrs link_now (λ (link : Link). link.pairs) c.deref-9.result.now (all_links c.as_slice-groups.result.now)
    (ap (map link_now) c.deref-9.ensures.value ∙ parts_seen (λ (span : Span). span.links) c.as_slice-groups.result.now c.deref-4.result.now c.in_ok-links.links.items
    (ap (map span_now) c.deref-4.ensures.value ∙ spans_seen c.as_slice-groups.result.now c.deref-2.result.now c.in_ok-spans.spans.items
    (ap (map seen_flat) c.deref-2.ensures.value ∙ c.in_ok-rows.ensures.items) c.in_ok-spans.ensures) c.in_ok-links.ensures.parts))
    c.args.groups.now c.as_slice-groups.ensures

pub invariant_of-result : goal.invariant_of-result
invariant_of-result c =
    written_set c.as_slice-groups.result.now c.add_attributes-3.new.tables.items _ _ _ _ _ _
    (pushed c.in_ok-main.main _ _ _ _ _ _ _ _ _ _ _ _ _ _ _ c.add_attributes-3.new.tables.items c.new-tables.ensures.items c.in_ok-push.ensures.items (ap (λ (t : Table). t.kind) c.in_ok-main.ensures)
    c.in_ok-add_resources.ensures.ok c.in_ok-add_scopes.ensures.ok c.in_ok-add_attributes.ensures.ok c.in_ok-add_parts.ensures.ok c.in_ok-add_parts-2.ensures.ok c.in_ok-add_attributes-2.ensures.ok
    c.in_ok-add_attributes-3.ensures.ok)
    (main_is c.as_slice-groups.result.now c.deref.result.now c.in_ok-main.main (ap (map seen_flat) c.deref.ensures.value ∙ c.in_ok-rows.ensures.items) c.in_ok-main.ensures)
    (pairs_table table.SpanAttrs span_now (λ (span : Span). span.pairs) c.deref-5.result.now (items_of c.as_slice-groups.result.now)
    (ap (map span_now) c.deref-5.ensures.value ∙ spans_seen c.as_slice-groups.result.now c.deref-2.result.now c.in_ok-spans.spans.items
    (ap (map seen_flat) c.deref-2.ensures.value ∙ c.in_ok-rows.ensures.items) c.in_ok-spans.ensures))
    (parts_table (λ (span : Span). span.events) c.as_slice-groups.result.now c.deref-3.result.now c.deref-6.result.now
    (ap (map span_now) c.deref-3.ensures.value ∙ spans_seen c.as_slice-groups.result.now c.deref-2.result.now c.in_ok-spans.spans.items
    (ap (map seen_flat) c.deref-2.ensures.value ∙ c.in_ok-rows.ensures.items) c.in_ok-spans.ensures)
    (ap (map seen_placed) c.deref-6.ensures.value ∙ c.in_ok-events.ensures.parts) table.SpanEvents event_cells)
    (parts_table (λ (span : Span). span.links) c.as_slice-groups.result.now c.deref-4.result.now c.deref-7.result.now
    (ap (map span_now) c.deref-4.ensures.value ∙ spans_seen c.as_slice-groups.result.now c.deref-2.result.now c.in_ok-spans.spans.items
    (ap (map seen_flat) c.deref-2.ensures.value ∙ c.in_ok-rows.ensures.items) c.in_ok-spans.ensures)
    (ap (map seen_placed) c.deref-7.ensures.value ∙ c.in_ok-links.ensures.parts) table.SpanLinks link_cells)
    (pairs_table table.EventAttrs event_now (λ (event : Event). event.pairs) c.deref-8.result.now (all_events c.as_slice-groups.result.now)
    (ap (map event_now) c.deref-8.ensures.value ∙ parts_seen (λ (span : Span). span.events) c.as_slice-groups.result.now c.deref-3.result.now c.in_ok-events.events.items
    (ap (map span_now) c.deref-3.ensures.value ∙ spans_seen c.as_slice-groups.result.now c.deref-2.result.now c.in_ok-spans.spans.items
    (ap (map seen_flat) c.deref-2.ensures.value ∙ c.in_ok-rows.ensures.items) c.in_ok-spans.ensures) c.in_ok-events.ensures.parts))
    (pairs_table table.LinkAttrs link_now (λ (link : Link). link.pairs) c.deref-9.result.now (all_links c.as_slice-groups.result.now)
    (ap (map link_now) c.deref-9.ensures.value ∙ parts_seen (λ (span : Span). span.links) c.as_slice-groups.result.now c.deref-4.result.now c.in_ok-links.links.items
    (ap (map span_now) c.deref-4.ensures.value ∙ spans_seen c.as_slice-groups.result.now c.deref-2.result.now c.in_ok-spans.spans.items
    (ap (map seen_flat) c.deref-2.ensures.value ∙ c.in_ok-rows.ensures.items) c.in_ok-spans.ensures) c.in_ok-links.ensures.parts))
