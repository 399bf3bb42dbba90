-- Numbers of groups and of parents are no greater than there are items and parents.
use Rattle.std.proofs.Common.{◌≡◌, ℕ, suc, ◌+◌, ◌≤◌, List, [], ◌∷◌, ◌++◌, length, map, refl, arith, append_assoc, length-append}
use Rattle.std.specs.List.{flat_map}
use Rattle.std.proofs.lemmas.List.{length-map}
use Rattle.otlp_model.specs.declared.groups.Resource.{Resource}
use Rattle.otlp_model.specs.declared.groups.Scope.{Scope}
use Rattle.otlp_model.specs.declared.groups.ScopeGroup.{ScopeGroup}
use Rattle.otlp_model.specs.declared.groups.ResourceGroup.{ResourceGroup}
use Rattle.otap_groups.specs.Flat.{FlatIn, PlacedIn, flat_items, flat_at, flat_groups, flat_scopes, items_of, past, placed, placed_at, placed_from, scopes_past}
use Rattle.otap_groups.proofs.FlatSteps.{length_flat_scopes, past_most, scopes_past_most}

abbrev pub Bounded : {I : Type 0} → ℕ → List (FlatIn I) → Type 0
Bounded last [] = Unit {0}
Bounded last (f ∷ fs) = (f.resource_id ≤ last) × (f.scope_id ≤ last) × Bounded last fs

abbrev pub BoundedParts : {C : Type 0} → ℕ → List (PlacedIn C) → Type 0
BoundedParts last [] = Unit {0}
BoundedParts last (p ∷ ps) = (p.parent ≤ last) × BoundedParts last ps

module _ {I : Type 0} (last : ℕ) where
  bounded_items : (r s : ℕ) (resource : Resource) (scope : Scope) (items : List I) (rest : List (FlatIn I)) → r + length items ≤ last + 1 → s + length items ≤ last + 1
      → Bounded last rest → Bounded last (map (flat_at r s resource scope) items ++ rest)
  bounded_items r s resource scope [] rest few_r few_s after = after
  bounded_items r s resource scope (item ∷ items) rest few_r few_s after =
      (omega arith, omega arith, bounded_items r s resource scope items rest (omega arith) (omega arith) after)

  bounded_scopes : (r s : ℕ) (resource : Resource) (groups : List (ScopeGroup I)) (rest : List (FlatIn I))
      → r + length (flat_scopes r s resource groups) ≤ last + 1 → s + length (flat_scopes r s resource groups) ≤ last + 1
      → Bounded last rest → Bounded last (flat_scopes r s resource groups ++ rest)
  bounded_scopes r s resource [] rest few_r few_s after = after
  bounded_scopes r s resource (group ∷ groups) rest few_r few_s after =
      let size = length-append (map (flat_at r s resource group.scope) group.items) (flat_scopes r (past s group.items) resource groups) in
      let here = length-map group.items (flat_at r s resource group.scope) in
      let next = past_most s group.items in
      rw (append_assoc (map (flat_at r s resource group.scope) group.items) (flat_scopes r (past s group.items) resource groups) rest)
      (bounded_items r s resource group.scope group.items _ (omega (arith, size, here)) (omega (arith, size, here))
      (bounded_scopes r (past s group.items) resource groups rest (omega (arith, size, here)) (omega (arith, size, here, next)) after))

  bounded_groups : (r s : ℕ) (groups : List (ResourceGroup I)) → r + length (flat_groups r s groups) ≤ last + 1 → s + length (flat_groups r s groups) ≤ last + 1
      → Bounded last (flat_groups r s groups)
  bounded_groups r s [] few_r few_s = tt
  bounded_groups r s (group ∷ groups) few_r few_s =
      let size = length-append (flat_scopes r s group.resource group.scopes)
      (flat_groups (past r (flat_scopes r s group.resource group.scopes)) (scopes_past s group.scopes) groups) in
      let next_r = past_most r (flat_scopes r s group.resource group.scopes) in
      let next_s = scopes_past_most s group.scopes in
      let here = length_flat_scopes r s group.resource group.scopes in
      bounded_scopes r s group.resource group.scopes _ (omega (arith, size)) (omega (arith, size))
      (bounded_groups (past r (flat_scopes r s group.resource group.scopes)) (scopes_past s group.scopes) groups
      (omega (arith, size, next_r)) (omega (arith, size, next_s, here)))

  length_flat_groups : (r s : ℕ) (groups : List (ResourceGroup I)) → length (flat_groups r s groups) ≡ length (items_of groups)
  length_flat_groups r s [] = refl
  length_flat_groups r s (group ∷ groups) =
      let a = length-append (flat_scopes r s group.resource group.scopes)
      (flat_groups (past r (flat_scopes r s group.resource group.scopes)) (scopes_past s group.scopes) groups) in
      let b = length_flat_scopes r s group.resource group.scopes in
      let c = length_flat_groups (past r (flat_scopes r s group.resource group.scopes)) (scopes_past s group.scopes) groups in
      let d = length-append (flat_map (λ (scope : ScopeGroup I). scope.items) group.scopes) (items_of groups) in
      omega (arith, a, b, c, d)

  pub bounded : (groups : List (ResourceGroup I)) → length (items_of groups) ≤ last + 1 → Bounded last (flat_items groups)
  unfolding flat_items
  bounded groups few =
      let size = length_flat_groups 0 0 groups in
      bounded_groups 0 0 groups (omega (arith, size)) (omega (arith, size))

  pub size_of_flat : (groups : List (ResourceGroup I)) → length (flat_items groups) ≡ length (items_of groups)
  unfolding flat_items
  size_of_flat groups = length_flat_groups 0 0 groups

module _ {C : Type 0} (last : ℕ) where
  bounded_parts : (k : ℕ) (parts : List C) (rest : List (PlacedIn C)) → k ≤ last → BoundedParts last rest → BoundedParts last (map (placed_at k) parts ++ rest)
  bounded_parts k [] rest low after = after
  bounded_parts k (part ∷ parts) rest low after = (low, bounded_parts k parts rest low after)

  bounded_lists : (k : ℕ) (lists : List (List C)) → k + length lists ≤ last + 1 → BoundedParts last (placed_from k lists)
  bounded_lists k [] few = tt
  bounded_lists k (parts ∷ lists) few = bounded_parts k parts _ (omega arith) (bounded_lists (suc k) lists (omega arith))

  pub bounded_placed : (lists : List (List C)) → length lists ≤ last + 1 → BoundedParts last (placed lists)
  unfolding placed
  bounded_placed lists few = bounded_lists 0 lists (omega arith)

  length_lists : (k : ℕ) (lists : List (List C)) → length (placed_from k lists) ≡ length (flat_map (λ (parts : List C). parts) lists)
  length_lists k [] = refl
  length_lists k (parts ∷ lists) =
      let a = length-append (map (placed_at k) parts) (placed_from (suc k) lists) in
      let b = length-map parts (placed_at k) in
      let c = length_lists (suc k) lists in
      let d = length-append parts (flat_map (λ (parts : List C). parts) lists) in
      omega (arith, a, b, c, d)

  pub size_of_placed : (lists : List (List C)) → length (placed lists) ≡ length (flat_map (λ (parts : List C). parts) lists)
  unfolding placed
  size_of_placed lists = length_lists 0 lists
