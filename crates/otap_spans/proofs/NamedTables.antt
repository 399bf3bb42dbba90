-- The table of each kind among the tables of a request.
use Rattle.std.proofs.Common.{◌≡◌, ◌∙◌, ℕ, ◌<◌, List, get_or, refl, arith}
use Rattle.otlp_model.specs.declared.groups.ResourceGroup.{ResourceGroup}
use Rattle.otlp_model.specs.declared.spans.Span.{Span}
use Rattle.otap_cells.specs.declared.payload.Kind.TheVariants as table
use Rattle.otap_cells.specs.Named.{table_named}
use Rattle.otap_groups.specs.Flat.{resource_pairs, scope_pairs}
use Rattle.otap_groups.specs.Stored.{main_table, part_table}
use Rattle.otap_attrs.specs.Tables.{attribute_table}
use Rattle.otap_checks.specs.Written.{Written, pairs_below, parts_below, table_of}
use Rattle.otap_checks.proofs.NamedWritten.{main_named, written_named}
use Rattle.otap_checks.proofs.SeenParts.{table_seen}
use Rattle.otap_spans.specs.Records.{event_cells, link_cells, span_cells}
use Rattle.otap_spans.specs.Tables.{below_spans, event_lists, event_pairs, link_lists, link_pairs, span_pairs, tables_of_spans}

module _ (groups : List (ResourceGroup Span)) where
  named : (k : ℕ) (w : Written) → k < 7 → get_or (below_spans groups) k w ≡ w → table_named w.kind (tables_of_spans groups) ≡ table_of w
  unfolding tables_of_spans
  named k w within at = written_named table.Spans span_cells (below_spans groups) groups refl w (k, within, at)

  pub named_main : table_named table.Spans (tables_of_spans groups) ≡ main_table table.Spans span_cells groups
  unfolding tables_of_spans
  named_main = main_named table.Spans span_cells (below_spans groups) groups refl

  pub named_resources : table_named table.ResourceAttrs (tables_of_spans groups) ≡ attribute_table table.ResourceAttrs (resource_pairs groups)
  named_resources = named 0 (pairs_below table.ResourceAttrs table.Spans 1 (resource_pairs groups)) (omega arith) refl

  pub named_scopes : table_named table.ScopeAttrs (tables_of_spans groups) ≡ attribute_table table.ScopeAttrs (scope_pairs groups)
  named_scopes = named 1 (pairs_below table.ScopeAttrs table.Spans 4 (scope_pairs groups)) (omega arith) refl

  pub named_spans : table_named table.SpanAttrs (tables_of_spans groups) ≡ attribute_table table.SpanAttrs (span_pairs groups)
  named_spans = named 2 (pairs_below table.SpanAttrs table.Spans 0 (span_pairs groups)) (omega arith) refl

  pub named_events : table_named table.SpanEvents (tables_of_spans groups) ≡ part_table table.SpanEvents event_cells (event_lists groups)
  named_events = named 3 (parts_below table.SpanEvents table.Spans event_cells (event_lists groups)) (omega arith) refl ∙ table_seen event_cells table.SpanEvents (event_lists groups)

  pub named_links : table_named table.SpanLinks (tables_of_spans groups) ≡ part_table table.SpanLinks link_cells (link_lists groups)
  named_links = named 4 (parts_below table.SpanLinks table.Spans link_cells (link_lists groups)) (omega arith) refl ∙ table_seen link_cells table.SpanLinks (link_lists groups)

  pub named_event_pairs : table_named table.EventAttrs (tables_of_spans groups) ≡ attribute_table table.EventAttrs (event_pairs groups)
  named_event_pairs = named 5 (pairs_below table.EventAttrs table.SpanEvents 0 (event_pairs groups)) (omega arith) refl

  pub named_link_pairs : table_named table.LinkAttrs (tables_of_spans groups) ≡ attribute_table table.LinkAttrs (link_pairs groups)
  named_link_pairs = named 6 (pairs_below table.LinkAttrs table.SpanLinks 0 (link_pairs groups)) (omega arith) refl
