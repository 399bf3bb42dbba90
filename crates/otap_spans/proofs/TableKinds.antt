-- The kinds of the tables of a request of spans, and how many rows the main one has.
use Rattle.std.proofs.Common.{◌≡◌, Bool, List, [], ◌∷◌, length, map, filter, refl, sym, ◌∙◌, ap}
use Rattle.std.specs.Prelude.{nat_lt}
use Rattle.std.proofs.lemmas.List.{length-map}
use Rattle.otlp_model.specs.Telemetry.{item_entries, telemetry, told_as}
use Rattle.otlp_model.specs.Telemetry as tells
use Rattle.otlp_model.specs.declared.groups.ResourceGroup.{ResourceGroup}
use Rattle.otlp_model.specs.declared.spans.Span.{Span}
use Rattle.otlp_model.specs.declared.request.Request.TheVariants.{Traces}
use Rattle.otap_cells.specs.declared.payload.Kind.{Kind}
use Rattle.otap_cells.specs.declared.payload.Kind.TheVariants as table
use Rattle.otap_cells.specs.Named.{table_named}
use Rattle.otap_cells.specs.Tables.{Table}
use Rattle.otap_groups.proofs.Bounds.{size_of_flat}
use Rattle.otap_groups.proofs.FlatItems.{length_entries}
use Rattle.otap_groups.proofs.StoredRows.{size_of_main}
use Rattle.otap_checks.proofs.AllWritten.{kinds_written}
use Rattle.otap_spans.specs.Records.{span_cells}
use Rattle.otap_spans.specs.Tables.{below_spans, tables_of_spans}
use Rattle.otap_spans.proofs.NamedTables.{named_main}

module _ (groups : List (ResourceGroup Span)) where
  abbrev has : Kind → Bool
  has kind = nat_lt 0 (length (table_named kind (tables_of_spans groups)).rows)

  pub by_type : map (λ (t : Table). t.kind) (tables_of_spans groups)
      ≡ table.Spans ∷ filter has (table.ResourceAttrs ∷ table.ScopeAttrs ∷ table.SpanAttrs ∷ table.SpanEvents ∷ table.SpanLinks ∷ table.EventAttrs ∷ table.LinkAttrs ∷ [])
  unfolding tables_of_spans
  by_type = kinds_written table.Spans span_cells (below_spans groups) groups refl

  pub rows_for_spans : length (table_named table.Spans (tables_of_spans groups)).rows ≡ length (telemetry (Traces groups))
  rows_for_spans =
      ap (λ (t : Table). length t.rows) (named_main groups) ∙ size_of_main table.Spans span_cells groups ∙ size_of_flat 0 groups ∙ sym (length_entries groups)
      ∙ sym (length-map (item_entries groups) (told_as tells.span))
