-- A request as one list of items, each with what it comes from, and the rows of main tables and of others for such lists.
use Rattle.std.specs.Prelude.{ℕ, suc, List, [], ◌∷◌, ◌++◌, Option, Some, map}
use Rattle.std.specs.List.{flat_map}
use Rattle.otlp_model.specs.Telemetry.{groups_with_items}
use Rattle.otlp_model.specs.declared.value.Pair.{Pair}
use Rattle.otlp_model.specs.declared.groups.Resource.{Resource}
use Rattle.otlp_model.specs.declared.groups.Scope.{Scope}
use Rattle.otlp_model.specs.declared.groups.ScopeGroup.{ScopeGroup}
use Rattle.otlp_model.specs.declared.groups.ResourceGroup.{ResourceGroup}
use Rattle.otap_cells.specs.Cells.{Cell}
use Rattle.otap_cells.specs.Scalars.{text_cell, number_cell}
use Rattle.otap_groups.specs.Rows.{MainRow, ChildRow, child_row}

-- an item, its resource and its scope, and the numbers of both among the groups that have items
pub record FlatIn (I : Type 0) : Type 0 where
  pub resource_id : ℕ
  pub scope_id : ℕ
  pub resource : Resource
  pub scope : Scope
  pub item : I

abbrev pub flat_at : {I : Type 0} → ℕ → ℕ → Resource → Scope → I → FlatIn I
flat_at r s resource scope item = record { resource_id = r; scope_id = s; resource = resource; scope = scope; item = item }

-- the next number, where the group with this one had items
abbrev pub past : {A : Type 0} → ℕ → List A → ℕ
past n [] = n
past n (x ∷ xs) = suc n

abbrev pub scopes_past : {I : Type 0} → ℕ → List (ScopeGroup I) → ℕ
scopes_past s [] = s
scopes_past s (group ∷ groups) = scopes_past (past s group.items) groups

abbrev pub flat_scopes : {I : Type 0} → ℕ → ℕ → Resource → List (ScopeGroup I) → List (FlatIn I)
flat_scopes r s resource [] = []
flat_scopes r s resource (group ∷ groups) = map (flat_at r s resource group.scope) group.items ++ flat_scopes r (past s group.items) resource groups

abbrev pub flat_groups : {I : Type 0} → ℕ → ℕ → List (ResourceGroup I) → List (FlatIn I)
flat_groups r s [] = []
flat_groups r s (group ∷ groups) =
    flat_scopes r s group.resource group.scopes
    ++ flat_groups (past r (flat_scopes r s group.resource group.scopes)) (scopes_past s group.scopes) groups

-- THE ITEMS of a request with what they come from. Groups without items have no number
unfoldable pub flat_items : {I : Type 0} → List (ResourceGroup I) → List (FlatIn I)
flat_items groups = flat_groups 0 0 groups

-- the items of groups; the resources and the scope groups that have items
abbrev pub items_of : {I : Type 0} → List (ResourceGroup I) → List I
items_of groups = flat_map (λ group. flat_map (λ scope. scope.items) group.scopes) groups

abbrev pub resources_of : {I : Type 0} → List (ResourceGroup I) → List Resource
resources_of groups = map (λ group. group.resource) (groups_with_items groups)

abbrev pub scopes_of : {I : Type 0} → List (ResourceGroup I) → List Scope
scopes_of groups = map (λ scope. scope.scope) (flat_map (λ group. group.scopes) (groups_with_items groups))

-- the attributes of each resource, and of each scope
abbrev pub resource_pairs : {I : Type 0} → List (ResourceGroup I) → List (List Pair)
resource_pairs groups = map (λ resource. resource.pairs) (resources_of groups)

abbrev pub scope_pairs : {I : Type 0} → List (ResourceGroup I) → List (List Pair)
scope_pairs groups = map (λ scope. scope.pairs) (scopes_of groups)

-- ---- the rows that an exporter writes, with their ids as they are

-- the cells of a resource, and of a scope; a default is null
abbrev pub resource_cells : Resource → List Cell
resource_cells resource = text_cell resource.schema_url ∷ number_cell resource.dropped ∷ []

abbrev pub scope_cells : Scope → List Cell
scope_cells scope = text_cell scope.name ∷ text_cell scope.version ∷ number_cell scope.dropped ∷ []

-- the row of an item that has this number; `cells_of` gives its own cells
abbrev pub numbered_row : {I : Type 0} → (I → List Cell) → ℕ → FlatIn I → MainRow
numbered_row cells_of n f = record {
  id = Some n;
  resource_id = Some f.resource_id;
  resource = resource_cells f.resource;
  scope_id = Some f.scope_id;
  scope = scope_cells f.scope;
  schema_url = text_cell f.scope.schema_url;
  own = cells_of f.item;
}

abbrev pub numbered_rows : {I : Type 0} → (I → List Cell) → ℕ → List (FlatIn I) → List MainRow
numbered_rows cells_of n [] = []
numbered_rows cells_of n (f ∷ fs) = numbered_row cells_of n f ∷ numbered_rows cells_of (suc n) fs

-- a part with the number of its parent
pub record PlacedIn (C : Type 0) : Type 0 where
  pub parent : ℕ
  pub part : C

abbrev pub placed_at : {C : Type 0} → ℕ → C → PlacedIn C
placed_at k part = record { parent = k; part = part }

-- the parts of parents that have the numbers from k on, one parent after the other
abbrev pub placed_from : {C : Type 0} → ℕ → List (List C) → List (PlacedIn C)
placed_from k [] = []
placed_from k (parts ∷ lists) = map (placed_at k) parts ++ placed_from (suc k) lists

unfoldable pub placed : {C : Type 0} → List (List C) → List (PlacedIn C)
placed lists = placed_from 0 lists

-- their rows, numbered from n on by `own`
abbrev pub part_rows : {C : Type 0} → (ℕ → Option ℕ) → (C → List Cell) → ℕ → List (PlacedIn C) → List ChildRow
part_rows own cells_of n [] = []
part_rows own cells_of n (p ∷ ps) = child_row (own n) (Some p.parent) (cells_of p.part) ∷ part_rows own cells_of (suc n) ps
