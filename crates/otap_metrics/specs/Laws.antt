-- Words of the laws: the requests that they hold for, and what they say of their tables.
use Rattle.std.specs.Prelude.{◌≡◌, ◌≤◌, ◌||◌, List, filter, length, map, nat_lt}
use Rattle.otlp_model.specs.Limits.{weight_limit}
use Rattle.otlp_model.specs.Profile.{IsProfile}
use Rattle.otlp_model.specs.Real.{IsReal}
use Rattle.otlp_model.specs.Telemetry.{telemetry}
use Rattle.otlp_model.specs.Weight.{weight_of}
use Rattle.otlp_model.specs.declared.groups.ResourceGroup.{ResourceGroup}
use Rattle.otlp_model.specs.declared.metrics.Metric.{Metric}
use Rattle.otlp_model.specs.declared.request.Request.TheVariants.{Metrics}
use Rattle.otlp_model.specs.declared.request.Signal.TheVariants as signal
use Rattle.otap_cells.specs.declared.payload.Kind.TheVariants as table
use Rattle.otap_cells.specs.Named.{table_named}
use Rattle.otap_cells.specs.Payload.{is_kind, kinds_of, main_of}
use Rattle.otap_cells.specs.Tables.{Table}
use Rattle.otap_metrics.specs.Requests.{regrouped_metrics}
use Rattle.otap_metrics.specs.Tables.{tables_of_metrics}

-- the law holds for all metrics that a program can hold, that the profile has, and that are within the weight limit
abbrev pub ForProfileMetrics : (List (ResourceGroup Metric) → Type 0) → Type 0
ForProfileMetrics Law = (groups : List (ResourceGroup Metric)) → IsReal (Metrics groups) → IsProfile (Metrics groups)
    → weight_of (Metrics groups) ≤ weight_limit → Law groups

-- the metrics that the tables of metrics make: there and back
abbrev pub rebuilt_metrics : List (ResourceGroup Metric) → List (ResourceGroup Metric)
rebuilt_metrics groups = regrouped_metrics (tables_of_metrics groups)

-- the tables have the order of the signal's kinds: the main one is there, and of the others those that have rows
abbrev pub AreInKindOrder : List Table → Type 0
AreInKindOrder tables = map (λ (t : Table). t.kind) tables
    ≡ filter (λ kind. is_kind kind (main_of signal.Metrics) || nat_lt 0 (length (table_named kind tables).rows)) (kinds_of signal.Metrics)

-- the main table has as many rows as there are metrics
abbrev pub HasRowPerMetric : List Table → List (ResourceGroup Metric) → Type 0
HasRowPerMetric tables groups = length (table_named table.Metrics tables).rows ≡ length (telemetry (Metrics groups))
