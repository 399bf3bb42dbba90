-- Words of the laws: the requests that they hold for, and what they say of their tables.
use Rattle.std.specs.Prelude.{◌≡◌, ◌≤◌, ◌||◌, List, filter, length, map, nat_lt}
use Rattle.otlp_model.specs.Limits.{weight_limit}
use Rattle.otlp_model.specs.Profile.{IsProfile}
use Rattle.otlp_model.specs.Real.{IsReal}
use Rattle.otlp_model.specs.Telemetry.{telemetry}
use Rattle.otlp_model.specs.Weight.{weight_of}
use Rattle.otlp_model.specs.declared.groups.ResourceGroup.{ResourceGroup}
use Rattle.otlp_model.specs.declared.spans.Span.{Span}
use Rattle.otlp_model.specs.declared.request.Request.TheVariants.{Traces}
use Rattle.otlp_model.specs.declared.request.Signal.TheVariants as signal
use Rattle.otap_cells.specs.declared.payload.Kind.TheVariants as table
use Rattle.otap_cells.specs.Named.{table_named}
use Rattle.otap_cells.specs.Payload.{is_kind, kinds_of, main_of}
use Rattle.otap_cells.specs.Tables.{Table}
use Rattle.otap_spans.specs.Requests.{regrouped_spans}
use Rattle.otap_spans.specs.Tables.{tables_of_spans}

-- the law holds for all spans that a program can hold, that the profile has, and that are within the weight limit
abbrev pub ForProfileSpans : (List (ResourceGroup Span) → Type 0) → Type 0
ForProfileSpans Law = (groups : List (ResourceGroup Span)) → IsReal (Traces groups) → IsProfile (Traces groups) → weight_of (Traces groups) ≤ weight_limit
    → Law groups

-- the spans that the tables of spans make: there and back
abbrev pub rebuilt_spans : List (ResourceGroup Span) → List (ResourceGroup Span)
rebuilt_spans groups = regrouped_spans (tables_of_spans groups)

-- the tables have the order of the signal's kinds: the main one is there, and of the others those that have rows
abbrev pub AreInKindOrder : List Table → Type 0
AreInKindOrder tables = map (λ (t : Table). t.kind) tables
    ≡ filter (λ kind. is_kind kind (main_of signal.Traces) || nat_lt 0 (length (table_named kind tables).rows)) (kinds_of signal.Traces)

-- the main table has as many rows as there are spans
abbrev pub HasRowPerSpan : List Table → List (ResourceGroup Span) → Type 0
HasRowPerSpan tables groups = length (table_named table.Spans tables).rows ≡ length (telemetry (Traces groups))
