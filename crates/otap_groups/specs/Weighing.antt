-- What rows and requests weigh, where weights of their parts are given.
use Rattle.std.specs.Prelude.{ℕ, ◌+◌, List, length, sum_by, All}
use Rattle.otlp_model.specs.Limits.{part_weight}
use Rattle.otlp_model.specs.Telemetry.{groups_with_items}
use Rattle.otlp_model.specs.declared.groups.Resource.{Resource}
use Rattle.otlp_model.specs.declared.groups.Scope.{Scope}
use Rattle.otlp_model.specs.declared.groups.ScopeGroup.{ScopeGroup}
use Rattle.otlp_model.specs.declared.groups.ResourceGroup.{ResourceGroup}
use Rattle.otlp_model.specs.declared.value.Pair.{Pair}
use Rattle.otlp_model.specs.Weight.{total}
use Rattle.otap_cells.specs.Cells.{Cell}
use Rattle.otap_cells.specs.Limits.{row_unit}
use Rattle.otap_cells.specs.Weights.{cell_weight}

-- ---- the tree weight of groups, by the weights of pairs of resources, of pairs of scopes, and of items

abbrev pub weigh_resource : (Pair → ℕ) → Resource → ℕ
weigh_resource of_pair resource = length resource.schema_url + total part_weight of_pair resource.pairs

abbrev pub weigh_scope : (Pair → ℕ) → Scope → ℕ
weigh_scope of_pair scope = length scope.schema_url + length scope.name + length scope.version + total part_weight of_pair scope.pairs

abbrev pub weigh_scope_group : {I : Type 0} → (Pair → ℕ) → (I → ℕ) → ScopeGroup I → ℕ
weigh_scope_group of_pair of_item group = weigh_scope of_pair group.scope + total part_weight of_item group.items

abbrev pub weigh_resource_group : {I : Type 0} → (Pair → ℕ) → (Pair → ℕ) → (I → ℕ) → ResourceGroup I → ℕ
weigh_resource_group of_resource of_scope of_item group =
    weigh_resource of_resource group.resource + total part_weight (weigh_scope_group of_scope of_item) group.scopes

-- THE TREE WEIGHT of a request's groups, with the weight of a part for each
abbrev pub weigh_group : {I : Type 0} → (Pair → ℕ) → (I → ℕ) → ResourceGroup I → ℕ
weigh_group of_pair of_item = weigh_resource_group of_pair of_pair of_item

abbrev pub weigh_groups : {I : Type 0} → (Pair → ℕ) → (I → ℕ) → List (ResourceGroup I) → ℕ
weigh_groups of_pair of_item = total part_weight (weigh_resource_group of_pair of_pair of_item)

-- ---- the row weight of a request, without making its rows

-- the bytes of an item's row that come from its resource and its scope, and the row itself
abbrev pub front_weight : Resource → Scope → ℕ
front_weight resource scope = row_unit + length resource.schema_url + length scope.name + length scope.version + length scope.schema_url

-- the row weight of a scope group and of a resource group, where each resource, scope and item has further rows or cells of this weight
abbrev pub rows_of_scope : {I : Type 0} → (Scope → ℕ) → (I → ℕ) → Resource → ScopeGroup I → ℕ
rows_of_scope of_scope of_item resource group =
    of_scope group.scope + sum_by (λ item. front_weight resource group.scope + of_item item) group.items

abbrev pub rows_of_resource : {I : Type 0} → (Resource → ℕ) → (Scope → ℕ) → (I → ℕ) → ResourceGroup I → ℕ
rows_of_resource of_resource of_scope of_item group =
    of_resource group.resource + sum_by (rows_of_scope of_scope of_item group.resource) group.scopes

-- THE ROW WEIGHT of a request: groups without items have no rows
unfoldable pub rows_of_groups : {I : Type 0} → (Resource → ℕ) → (Scope → ℕ) → (I → ℕ) → List (ResourceGroup I) → ℕ
rows_of_groups of_resource of_scope of_item groups = sum_by (rows_of_resource of_resource of_scope of_item) (groups_with_items groups)

-- the bytes of cells
abbrev pub cells_weight : List Cell → ℕ
cells_weight cells = sum_by cell_weight cells

-- the row weight of parts, which their ids add nothing to
abbrev pub parts_weight : {C : Type 0} → (C → List Cell) → List C → ℕ
parts_weight cells_of parts = sum_by (λ part. row_unit + cells_weight (cells_of part)) parts

-- each resource, scope and item of the groups can be written
abbrev pub CanWriteScope : {I : Type 0} → (Scope → Type 0) → (I → Type 0) → ScopeGroup I → Type 0
CanWriteScope OfScope OfItem group = OfScope group.scope × All OfItem group.items

abbrev pub CanWriteGroup : {I : Type 0} → (Resource → Type 0) → (Scope → Type 0) → (I → Type 0) → ResourceGroup I → Type 0
CanWriteGroup OfResource OfScope OfItem group = OfResource group.resource × All (CanWriteScope OfScope OfItem) group.scopes
