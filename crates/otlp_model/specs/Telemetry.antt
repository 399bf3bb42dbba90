-- What a request denotes: its items in order, each with its resource and its scope.
use Rattle.std.specs.Prelude.{List, length, map, nat_lt, filter}
use Rattle.std.specs.List.{flat_map}
use Rattle.otlp_model.specs.declared.groups.Resource.{Resource}
use Rattle.otlp_model.specs.declared.groups.Scope.{Scope}
use Rattle.otlp_model.specs.declared.groups.ScopeGroup.{ScopeGroup}
use Rattle.otlp_model.specs.declared.groups.ResourceGroup.{ResourceGroup}
use Rattle.otlp_model.specs.declared.spans.Span.{Span}
use Rattle.otlp_model.specs.declared.logs.LogRecord.{LogRecord}
use Rattle.otlp_model.specs.declared.metrics.Metric.{Metric}
use Rattle.otlp_model.specs.declared.request.Request.{Request}
use Rattle.otlp_model.specs.declared.request.Signal.{Signal}
use Rattle.otlp_model.specs.declared.request.Signal.TheVariants as signals
use Rattle.otlp_model.specs.declared.request.Request.TheVariants.{Traces, Logs, Metrics}

-- an item with what it comes from
pub record ItemEntry (I : Type 0) : Type 0 where
  pub resource : Resource
  pub scope : Scope
  pub item : I

abbrev pub item_entry : {I : Type 0} → Resource → Scope → I → ItemEntry I
item_entry resource scope item = record { resource = resource; scope = scope; item = item }

abbrev pub entries_of_scope_group : {I : Type 0} → Resource → ScopeGroup I → List (ItemEntry I)
entries_of_scope_group resource group = map (item_entry resource group.scope) group.items

abbrev pub entries_of_group : {I : Type 0} → ResourceGroup I → List (ItemEntry I)
entries_of_group group = flat_map (entries_of_scope_group group.resource) group.scopes

abbrev pub item_entries : {I : Type 0} → List (ResourceGroup I) → List (ItemEntry I)
item_entries groups = flat_map entries_of_group groups

-- an item of any signal
pub data Item : Type 0 where
  span : Span → Item
  log_record : LogRecord → Item
  metric : Metric → Item

abbrev pub told_as : {I : Type 0} → (I → Item) → ItemEntry I → ItemEntry Item
told_as kind e = item_entry e.resource e.scope (kind e.item)

-- all items of the request in order, over all groups
abbrev pub telemetry : Request → List (ItemEntry Item)
telemetry (Traces groups) = map (told_as span) (item_entries groups)
telemetry (Logs groups) = map (told_as log_record) (item_entries groups)
telemetry (Metrics groups) = map (told_as metric) (item_entries groups)

abbrev pub signal_of : Request → Signal
signal_of (Traces groups) = signals.Traces
signal_of (Logs groups) = signals.Logs
signal_of (Metrics groups) = signals.Metrics

-- a group without its scope groups that have no items
abbrev pub trimmed : {I : Type 0} → ResourceGroup I → ResourceGroup I
trimmed group = record group { scopes = filter (λ scope. nat_lt 0 (length scope.items)) group.scopes }

-- the groups that have items, without their scope groups that have none
abbrev pub groups_with_items : {I : Type 0} → List (ResourceGroup I) → List (ResourceGroup I)
groups_with_items groups = filter (λ group. nat_lt 0 (length group.scopes)) (map trimmed groups)

-- the request without its groups that have no items
abbrev pub with_items : Request → Request
with_items (Traces groups) = Traces (groups_with_items groups)
with_items (Logs groups) = Logs (groups_with_items groups)
with_items (Metrics groups) = Metrics (groups_with_items groups)
