-- What is left of the items of some groups, from a position among them on: words of private contracts.
use Rattle.std.specs.Prelude.{◌≡◌, ℕ, ◌+◌, ◌≤◌, ◌<◌, List, [], ◌∷◌, ◌++◌, length, map, take, drop}
use Rattle.std.specs.List.{flat_map, slice_index_or, AllZip}
use Rattle.otlp_model.specs.Same.{SameResource, SameScope}
use Rattle.otlp_model.specs.Telemetry.{ItemEntry, item_entry, entries_of_scope_group, item_entries}
use Rattle.otlp_model.specs.declared.groups.Resource.{Resource}
use Rattle.otlp_model.specs.declared.groups.Scope.{Scope}
use Rattle.otlp_model.specs.declared.groups.ScopeGroup.{ScopeGroup}
use Rattle.otlp_model.specs.declared.groups.ResourceGroup.{ResourceGroup}

-- from an item of the first scope group on
abbrev pub left_of_scopes : {I : Type 0} → Resource → List (ScopeGroup I) → ℕ → List (ItemEntry I)
left_of_scopes resource [] item = []
left_of_scopes resource (group ∷ groups) item =
    map (item_entry resource group.scope) (drop item group.items) ++ flat_map (entries_of_scope_group resource) groups

-- from an item of a scope group of the first group on
abbrev pub left_of_groups : {I : Type 0} → List (ResourceGroup I) → ℕ → ℕ → List (ItemEntry I)
left_of_groups [] scope item = []
left_of_groups (group ∷ groups) scope item = left_of_scopes group.resource (drop scope group.scopes) item ++ item_entries groups

unfoldable pub left : {I : Type 0} → List (ResourceGroup I) → ℕ → ℕ → ℕ → List (ItemEntry I)
left groups group scope item = left_of_groups (drop group groups) scope item

-- at the position are these items, of this resource and this scope
pub record IsRun {I : Type 0} (groups : List (ResourceGroup I)) (group place item : ℕ)
    (resource : Resource) (scope : Scope) (items : List I) : Type 0 where
  pub more : List (ItemEntry I)
  pub from : (n : ℕ) → n ≤ length items → left groups group place (item + n) ≡ map (item_entry resource scope) (drop n items) ++ more
  pub some : 0 < length items
  pub inside : group < length groups
  pub whose : (d : ResourceGroup I) → resource ≡ (slice_index_or groups group d).resource

-- the first n items of two runs are the same
pub record StartsSame {I : Type 0} (SameOne : I → I → Type 0) (n : ℕ) (r q : Resource) (s t : Scope) (xs ys : List I) : Type 0 where
  pub resource : SameResource r q
  pub scope : SameScope s t
  pub items : AllZip SameOne (take n xs) (take n ys)
