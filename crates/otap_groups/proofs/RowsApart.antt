-- What rows weigh, part by part.
use Rattle.std.proofs.Common.{◌≡◌, ℕ, ◌+◌, Bool, true, false, List, [], ◌∷◌, ◌++◌, length, map, refl, ◌∙◌, ap, inl, inr, arith}
use Rattle.std.specs.Prelude.{◌⊎◌, filter, nat_lt, sum_by}
use Rattle.std.specs.List.{flat_map}
use Rattle.std.proofs.lemmas.Bool.{cases_Bool}
use Rattle.std.proofs.lemmas.List.{map-append}
use Rattle.std.proofs.lemmas.List.Sums.{sum_by-cons, sum_by-append}
use Rattle.lists.proofs.Truths.{positive, empty}
use Rattle.otlp_model.specs.Telemetry.{trimmed, groups_with_items}
use Rattle.otlp_model.specs.declared.groups.Resource.{Resource}
use Rattle.otlp_model.specs.declared.groups.Scope.{Scope}
use Rattle.otlp_model.specs.declared.groups.ScopeGroup.{ScopeGroup}
use Rattle.otlp_model.specs.declared.groups.ResourceGroup.{ResourceGroup}
use Rattle.otap_groups.specs.Flat.{items_of, resources_of, scopes_of}
use Rattle.otap_groups.specs.Weighing.{front_weight, rows_of_groups, rows_of_resource, rows_of_scope}

module _ {I : Type 0} (of_resource : Resource → ℕ) (of_scope : Scope → ℕ) (own more : I → ℕ) where
  abbrev has : ScopeGroup I → Bool
  has group = nat_lt 0 (length group.items)

  abbrev both : I → ℕ
  both item = own item + more item

  items_apart : (resource : Resource) (scope : Scope) (items : List I)
      → sum_by (λ item. front_weight resource scope + both item) items ≡ sum_by (λ item. front_weight resource scope + own item) items + sum_by more items
  items_apart resource scope [] = omega arith
  items_apart resource scope (x ∷ xs) =
      let a = sum_by-cons (λ item. front_weight resource scope + both item) x xs in
      let b = sum_by-cons (λ item. front_weight resource scope + own item) x xs in
      let c = sum_by-cons more x xs in
      let d = items_apart resource scope xs in
      omega (arith, a, b, c, d)

  scopes_apart : (resource : Resource) (groups : List (ScopeGroup I))
      → sum_by (rows_of_scope of_scope both resource) groups
      ≡ sum_by of_scope (map (λ (group : ScopeGroup I). group.scope) groups) + sum_by (rows_of_scope (λ scope. 0) own resource) groups
      + sum_by more (flat_map (λ (group : ScopeGroup I). group.items) groups)
  scopes_apart resource [] = omega arith
  scopes_apart resource (group ∷ groups) =
      let a = sum_by-cons (rows_of_scope of_scope both resource) group groups in
      let b = sum_by-cons of_scope group.scope (map (λ (group : ScopeGroup I). group.scope) groups) in
      let c = sum_by-cons (rows_of_scope (λ scope. 0) own resource) group groups in
      let d = sum_by-append more group.items (flat_map (λ (group : ScopeGroup I). group.items) groups) in
      let e = items_apart resource group.scope group.items in
      let f = scopes_apart resource groups in
      omega (arith, a, b, c, d, e, f)

  kept_items : (groups : List (ScopeGroup I)) → flat_map (λ (group : ScopeGroup I). group.items) (filter has groups) ≡ flat_map (λ (group : ScopeGroup I). group.items) groups
  kept_items [] = refl
  kept_items (group ∷ groups) = by group.scope group.items (kept_items groups) where
    by : (scope : Scope) (items : List I) → flat_map (λ (group : ScopeGroup I). group.items) (filter has groups) ≡ flat_map (λ (group : ScopeGroup I). group.items) groups
        → flat_map (λ (group : ScopeGroup I). group.items) (filter has (record { scope = scope; items = items } ∷ groups)) ≡ items ++ flat_map (λ (group : ScopeGroup I). group.items) groups
    by scope [] ih = ih
    by scope (x ∷ xs) ih = rw (positive (length xs)) (ap (λ ys. (x ∷ xs) ++ ys) ih)

  -- the rows of resources, of scopes, of items, and of what is below items
  pub rows_apart : (groups : List (ResourceGroup I)) → rows_of_groups of_resource of_scope both groups
      ≡ sum_by of_resource (resources_of groups) + sum_by of_scope (scopes_of groups) + rows_of_groups (λ resource. 0) (λ scope. 0) own groups + sum_by more (items_of groups)
  unfolding rows_of_groups
  rows_apart [] = omega arith
  rows_apart (group ∷ groups) = by (cases_Bool (nat_lt 0 (length (filter has group.scopes)))) (rows_apart groups)
      (sum_by-append more (flat_map (λ (scope : ScopeGroup I). scope.items) group.scopes) (items_of groups))
      (ap (sum_by more) (kept_items group.scopes)) where
        by : ((nat_lt 0 (length (filter has group.scopes)) ≡ true) ⊎ (nat_lt 0 (length (filter has group.scopes)) ≡ false))
            → sum_by (rows_of_resource of_resource of_scope both) (groups_with_items groups)
            ≡ sum_by of_resource (resources_of groups) + sum_by of_scope (scopes_of groups) + sum_by (rows_of_resource (λ resource. 0) (λ scope. 0) own) (groups_with_items groups)
            + sum_by more (items_of groups)
            → sum_by more (items_of (group ∷ groups)) ≡ sum_by more (flat_map (λ (scope : ScopeGroup I). scope.items) group.scopes) + sum_by more (items_of groups)
            → sum_by more (flat_map (λ (scope : ScopeGroup I). scope.items) (filter has group.scopes)) ≡ sum_by more (flat_map (λ (scope : ScopeGroup I). scope.items) group.scopes)
            → sum_by (rows_of_resource of_resource of_scope both) (groups_with_items (group ∷ groups))
            ≡ sum_by of_resource (resources_of (group ∷ groups)) + sum_by of_scope (scopes_of (group ∷ groups))
            + sum_by (rows_of_resource (λ resource. 0) (λ scope. 0) own) (groups_with_items (group ∷ groups)) + sum_by more (items_of (group ∷ groups))
        by (inl some) ih all kept =
            let a = sum_by-cons (rows_of_resource of_resource of_scope both) (trimmed group) (groups_with_items groups) in
            let b = sum_by-cons of_resource group.resource (resources_of groups) in
            let c = ap (sum_by of_scope) (map-append (λ (scope : ScopeGroup I). scope.scope) (filter has group.scopes) (flat_map (λ (group : ResourceGroup I). group.scopes) (groups_with_items groups)))
            ∙ sum_by-append of_scope (map (λ (scope : ScopeGroup I). scope.scope) (filter has group.scopes)) (scopes_of groups) in
            let d = sum_by-cons (rows_of_resource (λ resource. 0) (λ scope. 0) own) (trimmed group) (groups_with_items groups) in
            let e = scopes_apart group.resource (filter has group.scopes) in
            rw some (omega (arith, ih, all, kept, a, b, c, d, e))
        by (inr none) ih all kept =
            let a : sum_by more (flat_map (λ (scope : ScopeGroup I). scope.items) (filter has group.scopes)) ≡ 0 =
            ap (λ (gs : List (ScopeGroup I)). sum_by more (flat_map (λ (scope : ScopeGroup I). scope.items) gs)) (empty _ none) in
            rw none (omega (arith, ih, all, kept, a))
