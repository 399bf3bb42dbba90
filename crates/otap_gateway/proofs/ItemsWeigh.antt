-- A request that isn't too heavy has few items: each weighs 32 at least.
use Rattle.std.proofs.Common.{◌≡◌, ℕ, ◌+◌, ◌≤◌, ◌^◌, List, [], ◌∷◌, ◌++◌, length, arith}
use Rattle.std.specs.Prelude.{min}
use Rattle.std.specs.List.{flat_map}
use Rattle.std.proofs.Math.Nat.{min-eq_left}
use Rattle.std.proofs.lemmas.List.{length-append, length-map}
use Rattle.otlp_model.specs.Limits.{weight_limit}
use Rattle.otlp_model.specs.Telemetry.{item_entry, item_entries, entries_of_group, entries_of_scope_group, telemetry, told_as, span, log_record, metric}
use Rattle.otlp_model.specs.Weight.{total, weight_of, weight_of_scope_group, weight_of_resource_group, weight_of_span, weight_of_log_record, weight_of_metric}
use Rattle.otlp_model.specs.declared.groups.Resource.{Resource}
use Rattle.otlp_model.specs.declared.groups.ResourceGroup.{ResourceGroup}
use Rattle.otlp_model.specs.declared.groups.ScopeGroup.{ScopeGroup}
use Rattle.otlp_model.specs.declared.request.Request.{Request}
use Rattle.otlp_model.specs.declared.request.Request.TheVariants.{Traces, Logs, Metrics}

module _ {I : Type 0} (weigh : I → ℕ) where
  few_in_list : (items : List I) → length items ≤ total 32 weigh items
  few_in_list [] = omega arith
  few_in_list (item ∷ items) = let rest = few_in_list items in omega (arith, rest)

  few_in_scopes : (resource : Resource) (scopes : List (ScopeGroup I)) → length (flat_map (entries_of_scope_group resource) scopes) ≤ total 32 (weight_of_scope_group weigh) scopes
  few_in_scopes resource [] = omega arith
  few_in_scopes resource (scope ∷ scopes) =
      let size : length (entries_of_scope_group resource scope ++ flat_map (entries_of_scope_group resource) scopes)
      ≡ length (entries_of_scope_group resource scope) + length (flat_map (entries_of_scope_group resource) scopes)
      = length-append (entries_of_scope_group resource scope) (flat_map (entries_of_scope_group resource) scopes) in
      let same : length (entries_of_scope_group resource scope) ≡ length scope.items = length-map scope.items (item_entry resource scope.scope) in
      let here : length scope.items ≤ total 32 weigh scope.items = few_in_list scope.items in
      let rest : length (flat_map (entries_of_scope_group resource) scopes) ≤ total 32 (weight_of_scope_group weigh) scopes = few_in_scopes resource scopes in
      omega (arith, size, same, here, rest)

  few_in_groups : (groups : List (ResourceGroup I)) → length (item_entries groups) ≤ total 32 (weight_of_resource_group weigh) groups
  few_in_groups [] = omega arith
  few_in_groups (group ∷ groups) =
      let size : length (entries_of_group group ++ item_entries groups) ≡ length (entries_of_group group) + length (item_entries groups)
      = length-append (entries_of_group group) (item_entries groups) in
      let here : length (entries_of_group group) ≤ total 32 (weight_of_scope_group weigh) group.scopes = few_in_scopes group.resource group.scopes in
      let rest : length (item_entries groups) ≤ total 32 (weight_of_resource_group weigh) groups = few_in_groups groups in
      omega (arith, size, here, rest)

few_items : (request : Request) → length (telemetry request) ≤ weight_of request
few_items (Traces groups) = let same = length-map (item_entries groups) (told_as span) in let few = few_in_groups weight_of_span groups in omega (arith, same, few)
few_items (Logs groups) = let same = length-map (item_entries groups) (told_as log_record) in let few = few_in_groups weight_of_log_record groups in omega (arith, same, few)
few_items (Metrics groups) = let same = length-map (item_entries groups) (told_as metric) in let few = few_in_groups weight_of_metric groups in omega (arith, same, few)

pub items_counted : (request : Request) → weight_of request ≤ weight_limit → min (length (telemetry request)) (2 ^ 63) ≡ length (telemetry request)
items_counted request light = let few = few_items request in min-eq_left (omega (arith, few, light))
