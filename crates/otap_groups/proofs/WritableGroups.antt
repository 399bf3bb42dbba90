-- What can be written holds of each resource, each scope and each item of groups.
use Rattle.std.proofs.Common.{ℕ, ◌*◌, ◌≤◌, inl, inr, Bool, List, [], ◌∷◌, length, map, arith, length-append}
use Rattle.std.specs.Prelude.{All, filter, nat_lt}
use Rattle.std.specs.List.{flat_map}
use Rattle.std.proofs.lemmas.Bool.{cases_Bool}
use Rattle.std.proofs.lemmas.List.{length-map}
use Rattle.std.proofs.lemmas.List.Elements.{All-nil, All-cons, All-head, All-tail, All-filter, All-map, All-weaker}
use Rattle.lists.proofs.Every.{all_flat_map}
use Rattle.otlp_model.specs.declared.groups.Resource.{Resource}
use Rattle.otlp_model.specs.declared.groups.Scope.{Scope}
use Rattle.otlp_model.specs.declared.groups.ScopeGroup.{ScopeGroup}
use Rattle.otlp_model.specs.declared.groups.ResourceGroup.{ResourceGroup}
use Rattle.otlp_model.specs.Profile.{IsProfileResourceGroup, IsProfileScopeGroup}
use Rattle.otlp_model.specs.Telemetry.{groups_with_items, trimmed}
use Rattle.otlp_model.specs.Weight.{total, weight_of_pair, weight_of_resource_group, weight_of_scope_group}
use Rattle.otlp_model.specs.Limits.{weight_limit}
use Rattle.otlp_model.proofs.Totals.{few_parts, parts_can}
use Rattle.otap_groups.specs.Flat.{items_of, resources_of, scopes_of}
use Rattle.otap_groups.specs.Weighing.{CanWriteGroup, CanWriteScope}

-- ---- from groups to their parts

module _ {I : Type 0} (OfResource : Resource → Type 0) (OfScope : Scope → Type 0) (OfItem : I → Type 0) where
  pub all_items_can : (groups : List (ResourceGroup I)) → All (CanWriteGroup OfResource OfScope OfItem) groups → All OfItem (items_of groups)
  all_items_can groups all =
      all_flat_map OfItem (λ (group : ResourceGroup I). flat_map (λ (scope : ScopeGroup I). scope.items) group.scopes) groups
      (All-weaker (CanWriteGroup OfResource OfScope OfItem) (λ (group : ResourceGroup I). All OfItem (flat_map (λ (scope : ScopeGroup I). scope.items) group.scopes))
      (λ group can. all_flat_map OfItem (λ (scope : ScopeGroup I). scope.items) group.scopes
      (All-weaker (CanWriteScope OfScope OfItem) (λ (scope : ScopeGroup I). All OfItem scope.items) (λ scope can. can.1) group.scopes can.1)) groups all)

  trimmed_can : (groups : List (ResourceGroup I)) → All (CanWriteGroup OfResource OfScope OfItem) groups → All (CanWriteGroup OfResource OfScope OfItem) (groups_with_items groups)
  trimmed_can groups all =
      All-filter (λ (group : ResourceGroup I). nat_lt 0 (length group.scopes)) (CanWriteGroup OfResource OfScope OfItem) (map trimmed groups)
      (All-map (CanWriteGroup OfResource OfScope OfItem) trimmed groups
      (All-weaker (CanWriteGroup OfResource OfScope OfItem) (λ (group : ResourceGroup I). CanWriteGroup OfResource OfScope OfItem (trimmed group))
      (λ group can. (can.0, All-filter (λ (scope : ScopeGroup I). nat_lt 0 (length scope.items)) (CanWriteScope OfScope OfItem) group.scopes can.1)) groups all))

  pub all_resources_can : (groups : List (ResourceGroup I)) → All (CanWriteGroup OfResource OfScope OfItem) groups → All OfResource (resources_of groups)
  all_resources_can groups all =
      All-map OfResource (λ (group : ResourceGroup I). group.resource) (groups_with_items groups)
      (All-weaker (CanWriteGroup OfResource OfScope OfItem) (λ (group : ResourceGroup I). OfResource group.resource) (λ group can. can.0)
      (groups_with_items groups) (trimmed_can groups all))

  pub all_scopes_can : (groups : List (ResourceGroup I)) → All (CanWriteGroup OfResource OfScope OfItem) groups → All OfScope (scopes_of groups)
  all_scopes_can groups all =
      All-map OfScope (λ (scope : ScopeGroup I). scope.scope) (flat_map (λ (group : ResourceGroup I). group.scopes) (groups_with_items groups))
      (all_flat_map (λ (scope : ScopeGroup I). OfScope scope.scope) (λ (group : ResourceGroup I). group.scopes) (groups_with_items groups)
      (All-weaker (CanWriteGroup OfResource OfScope OfItem) (λ (group : ResourceGroup I). All (λ (scope : ScopeGroup I). OfScope scope.scope) group.scopes)
      (λ group can. All-weaker (CanWriteScope OfScope OfItem) (λ (scope : ScopeGroup I). OfScope scope.scope) (λ scope can. can.0) group.scopes can.1)
      (groups_with_items groups) (trimmed_can groups all)))

-- ---- groups of a profile request that weigh at most this

module _ {I : Type 0} (IsItem : I → Type 0) (weigh : I → ℕ) (n : ℕ) (OfItem : I → Type 0) (can : (item : I) → IsItem item → weigh item ≤ n → OfItem item) where
  scopes_can : (groups : List (ScopeGroup I)) → All (IsProfileScopeGroup IsItem) groups → total 32 (weight_of_scope_group weigh) groups ≤ n
      → All (CanWriteScope (λ scope. total 32 weight_of_pair scope.pairs ≤ n) OfItem) groups
  scopes_can [] all few = All-nil (CanWriteScope (λ (scope : Scope). total 32 weight_of_pair scope.pairs ≤ n) OfItem)
  scopes_can (group ∷ groups) all few =
      let head : IsProfileScopeGroup IsItem group = All-head (IsProfileScopeGroup IsItem) group groups all in
      All-cons (CanWriteScope (λ (scope : Scope). total 32 weight_of_pair scope.pairs ≤ n) OfItem) group groups
      (omega arith, parts_can IsItem OfItem weigh n can group.items head.items.at (omega arith)) (scopes_can groups (All-tail (IsProfileScopeGroup IsItem) group groups all) (omega arith))

  pub groups_can : (groups : List (ResourceGroup I)) → All (IsProfileResourceGroup IsItem) groups → total 32 (weight_of_resource_group weigh) groups ≤ n
      → All (CanWriteGroup (λ resource. total 32 weight_of_pair resource.pairs ≤ n) (λ scope. total 32 weight_of_pair scope.pairs ≤ n) OfItem) groups
  groups_can [] all few = All-nil (CanWriteGroup (λ (resource : Resource). total 32 weight_of_pair resource.pairs ≤ n) (λ (scope : Scope). total 32 weight_of_pair scope.pairs ≤ n) OfItem)
  groups_can (group ∷ groups) all few =
      let head : IsProfileResourceGroup IsItem group = All-head (IsProfileResourceGroup IsItem) group groups all in
      All-cons (CanWriteGroup (λ (resource : Resource). total 32 weight_of_pair resource.pairs ≤ n) (λ (scope : Scope). total 32 weight_of_pair scope.pairs ≤ n) OfItem) group groups
      (omega arith, scopes_can group.scopes head.scopes.at (omega arith)) (groups_can groups (All-tail (IsProfileResourceGroup IsItem) group groups all) (omega arith))

-- ---- how many there are, where each weighs at least 32

few_kept : {A : Type 0} (p : A → Bool) (xs : List A) → length (filter p xs) ≤ length xs
few_kept p [] = omega arith
few_kept p (x ∷ xs) =
    let more = few_kept p xs in elim (cases_Bool (p x)) [
      | inl t ↦ rw t (omega (arith, more))
      | inr f ↦ rw f (omega (arith, more))
    ]

module _ {I : Type 0} (weigh : I → ℕ) where
  few_in_scopes : (groups : List (ScopeGroup I)) → 32 * length (flat_map (λ (group : ScopeGroup I). group.items) groups) ≤ total 32 (weight_of_scope_group weigh) groups
  few_in_scopes [] = omega arith
  few_in_scopes (group ∷ groups) =
      let a = few_parts weigh group.items in
      let b = few_in_scopes groups in
      let c = length-append group.items (flat_map (λ (group : ScopeGroup I). group.items) groups) in
      omega (arith, a, b, c)

  pub few_items : (groups : List (ResourceGroup I)) → 32 * length (items_of groups) ≤ total 32 (weight_of_resource_group weigh) groups
  few_items [] = omega arith
  few_items (group ∷ groups) =
      let a = few_in_scopes group.scopes in
      let b = few_items groups in
      let c = length-append (flat_map (λ (scope : ScopeGroup I). scope.items) group.scopes) (items_of groups) in
      omega (arith, a, b, c)

  pub few_resources : (groups : List (ResourceGroup I)) → 32 * length (resources_of groups) ≤ total 32 (weight_of_resource_group weigh) groups
  few_resources groups =
      let a = length-map (groups_with_items groups) (λ (group : ResourceGroup I). group.resource) in
      let b = few_kept (λ (group : ResourceGroup I). nat_lt 0 (length group.scopes)) (map trimmed groups) in
      let c = length-map groups (trimmed {I = I}) in
      let d = few_parts (weight_of_resource_group weigh) groups in
      omega (arith, a, b, c, d)

  kept_scopes : (groups : List (ResourceGroup I))
      → 32 * length (flat_map (λ (group : ResourceGroup I). group.scopes) (groups_with_items groups)) ≤ total 32 (weight_of_resource_group weigh) groups
  kept_scopes [] = omega arith
  kept_scopes (group ∷ groups) =
      let more = kept_scopes groups in
      let kept = few_kept (λ (scope : ScopeGroup I). nat_lt 0 (length scope.items)) group.scopes in
      let few = few_parts (weight_of_scope_group weigh) group.scopes in
      let a = length-append (trimmed group).scopes (flat_map (λ (group : ResourceGroup I). group.scopes) (groups_with_items groups)) in
      elim (cases_Bool (nat_lt 0 (length (trimmed group).scopes))) [
        | inl t ↦ rw t (omega (arith, more, kept, few, a))
        | inr f ↦ rw f (omega (arith, more))
      ]

  pub few_scopes : (groups : List (ResourceGroup I)) → 32 * length (scopes_of groups) ≤ total 32 (weight_of_resource_group weigh) groups
  few_scopes groups =
      let a = length-map (flat_map (λ (group : ResourceGroup I). group.scopes) (groups_with_items groups)) (λ (scope : ScopeGroup I). scope.scope) in
      let b = kept_scopes groups in
      omega (arith, a, b)

-- resources and scopes that weigh little enough
abbrev pub IsLightResource : Resource → Type 0
IsLightResource resource = total 32 weight_of_pair resource.pairs ≤ weight_limit

abbrev pub IsLightScope : Scope → Type 0
IsLightScope scope = total 32 weight_of_pair scope.pairs ≤ weight_limit
