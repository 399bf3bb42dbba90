-- How the tables of a signal hang together (OpenTelemetry Arrow Protocol, data model).
use Rattle.std.specs.Prelude.{ℕ, List, [], ◌∷◌, Option, None, Some}
use Rattle.otlp_model.specs.declared.request.Signal.{Signal}
use Rattle.otlp_model.specs.declared.request.Signal.TheVariants as signal
use Rattle.otap_cells.specs.declared.payload.Kind.{Kind}
use Rattle.otap_cells.specs.declared.payload.Kind.TheVariants as table
use Rattle.otap_cells.specs.Places.{attribute_parent, main_id, part_id, part_parent, resource_id, scope_id}
use Rattle.otap_checks.specs.declared.signals.TableLink.{TableLink}

-- items have ids; parts have ids and parents; attributes have parents. `at` is the column of
-- the parents' table that holds the parents' ids
abbrev pub items : Kind → TableLink
items kind = record { kind = kind; own = Some main_id; parents = None }

abbrev pub parts : Kind → Kind → ℕ → TableLink
parts kind of at = record { kind = kind; own = Some part_id; parents = Some (record { column = part_parent; of = of; at = at }) }

abbrev pub attributes_link : Kind → Kind → ℕ → TableLink
attributes_link kind of at = record { kind = kind; own = None; parents = Some (record { column = attribute_parent; of = of; at = at }) }

-- the tables of a signal
unfoldable pub links_of : Signal → List TableLink
links_of signal.Logs = items table.Logs ∷ attributes_link table.ResourceAttrs table.Logs resource_id ∷ attributes_link table.ScopeAttrs table.Logs scope_id
    ∷ attributes_link table.LogAttrs table.Logs main_id ∷ []
links_of signal.Traces = items table.Spans ∷ attributes_link table.ResourceAttrs table.Spans resource_id ∷ attributes_link table.ScopeAttrs table.Spans scope_id
    ∷ attributes_link table.SpanAttrs table.Spans main_id ∷ parts table.SpanEvents table.Spans main_id ∷ parts table.SpanLinks table.Spans main_id
    ∷ attributes_link table.EventAttrs table.SpanEvents part_id ∷ attributes_link table.LinkAttrs table.SpanLinks part_id ∷ []
links_of signal.Metrics = items table.Metrics ∷ attributes_link table.ResourceAttrs table.Metrics resource_id ∷ attributes_link table.ScopeAttrs table.Metrics scope_id
    ∷ parts table.NumberPoints table.Metrics main_id ∷ parts table.SummaryPoints table.Metrics main_id ∷ parts table.HistPoints table.Metrics main_id
    ∷ attributes_link table.NumberPointAttrs table.NumberPoints part_id ∷ attributes_link table.SummaryPointAttrs table.SummaryPoints part_id
    ∷ attributes_link table.HistPointAttrs table.HistPoints part_id ∷ parts table.NumberExemplars table.NumberPoints part_id ∷ parts table.HistExemplars table.HistPoints part_id
    ∷ attributes_link table.NumberExemplarAttrs table.NumberExemplars part_id ∷ attributes_link table.HistExemplarAttrs table.HistExemplars part_id ∷ []

-- the table of the attributes that items have; metrics have none of their own
abbrev pub item_attributes : Signal → Option Kind
item_attributes signal.Logs = Some table.LogAttrs
item_attributes signal.Traces = Some table.SpanAttrs
item_attributes signal.Metrics = None
