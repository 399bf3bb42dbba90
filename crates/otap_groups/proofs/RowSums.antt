-- Sums over the groups that have items.
use Rattle.std.proofs.Common.{◌≡◌, ℕ, ◌+◌, ◌^◌, min, Bool, true, false, List, [], ◌∷◌, length, map, refl, sym, ◌∙◌, ap, inl, inr, arith}
use Rattle.std.specs.Prelude.{◌⊎◌, ◌||◌, filter, nat_lt, sum_by}
use Rattle.std.proofs.lemmas.Bool.{cases_Bool}
use Rattle.std.proofs.lemmas.List.Sums.{sum_by-cons}
use Rattle.lists.proofs.Truths.{or_false}
use Rattle.otlp_model.specs.Telemetry.{trimmed}
use Rattle.otlp_model.specs.declared.groups.Resource.{Resource}
use Rattle.otlp_model.specs.declared.groups.Scope.{Scope}
use Rattle.otlp_model.specs.declared.groups.ScopeGroup.{ScopeGroup}
use Rattle.otlp_model.specs.declared.groups.ResourceGroup.{ResourceGroup}
use Rattle.otap_groups.specs.Weighing.{rows_of_groups, rows_of_resource, rows_of_scope}

summed : {A : Type 0} (f : A → ℕ) (p : A → Bool) (x : A) (xs : List A) → sum_by f (filter p (x ∷ xs)) ≡ sum_by f (filter p (x ∷ [])) + sum_by f (filter p xs)
summed f p x xs = by (cases_Bool (p x)) where
  by : ((p x ≡ true) ⊎ (p x ≡ false)) → sum_by f (filter p (x ∷ xs)) ≡ sum_by f (filter p (x ∷ [])) + sum_by f (filter p xs)
  by (inl passes) = rw (passes, sum_by-cons f x (filter p xs)) (omega arith)
  by (inr fails) = rw fails (omega arith)

-- what a flag says at the end of a loop
pub ends : {A : Type 0} (p : A → Bool) (some : Bool) (left : List A) (all : Bool) → left ≡ [] → (some || nat_lt 0 (length (filter p left))) ≡ all → all ≡ some
ends p some left all over is = sym is ∙ ap (λ xs. some || nat_lt 0 (length (filter p xs))) over ∙ or_false some

module _ {I : Type 0} (of_resource : Resource → ℕ) (of_scope : Scope → ℕ) (of_item : I → ℕ) where
  pub rows_split : (group : ResourceGroup I) (groups : List (ResourceGroup I))
      → rows_of_groups of_resource of_scope of_item (group ∷ groups)
      ≡ rows_of_groups of_resource of_scope of_item (group ∷ []) + rows_of_groups of_resource of_scope of_item groups
  unfolding rows_of_groups
  rows_split group groups = summed (rows_of_resource of_resource of_scope of_item) (λ (group : ResourceGroup I). nat_lt 0 (length group.scopes)) (trimmed group) (map trimmed groups)

  pub rows_some : (group : ResourceGroup I) → nat_lt 0 (length (filter (λ (scope : ScopeGroup I). nat_lt 0 (length scope.items)) group.scopes)) ≡ true
      → rows_of_groups of_resource of_scope of_item (group ∷ [])
      ≡ of_resource group.resource + sum_by (rows_of_scope of_scope of_item group.resource) (filter (λ (scope : ScopeGroup I). nat_lt 0 (length scope.items)) group.scopes)
  unfolding rows_of_groups
  rows_some group has = rw has (omega arith)

  pub rows_none : (group : ResourceGroup I) → nat_lt 0 (length (filter (λ (scope : ScopeGroup I). nat_lt 0 (length scope.items)) group.scopes)) ≡ false
      → rows_of_groups of_resource of_scope of_item (group ∷ []) ≡ 0
  unfolding rows_of_groups
  rows_none group has = rw has refl

  pub rows_over : rows_of_groups of_resource of_scope of_item [] ≡ 0
  unfolding rows_of_groups
  rows_over = refl

  -- a group at the end of its scope groups
  pub group_none : (group : ResourceGroup I) (xs left : List (ScopeGroup I)) (some : Bool) → xs ≡ group.scopes → left ≡ []
      → (some || nat_lt 0 (length (filter (λ (scope : ScopeGroup I). nat_lt 0 (length scope.items)) left)))
      ≡ nat_lt 0 (length (filter (λ (scope : ScopeGroup I). nat_lt 0 (length scope.items)) xs))
      → some ≡ false → rows_of_groups of_resource of_scope of_item (group ∷ []) ≡ 0
  group_none group xs left some is over told none =
      rows_none group (ap (λ ys. nat_lt 0 (length (filter (λ (scope : ScopeGroup I). nat_lt 0 (length scope.items)) ys))) (sym is)
      ∙ ends (λ (scope : ScopeGroup I). nat_lt 0 (length scope.items)) some left _ over told ∙ none)

  pub group_some : (group : ResourceGroup I) (xs left : List (ScopeGroup I)) (some : Bool) (weight own result : ℕ) → xs ≡ group.scopes → left ≡ []
      → (some || nat_lt 0 (length (filter (λ (scope : ScopeGroup I). nat_lt 0 (length scope.items)) left)))
      ≡ nat_lt 0 (length (filter (λ (scope : ScopeGroup I). nat_lt 0 (length scope.items)) xs))
      → some ≡ true
      → min (weight + sum_by (rows_of_scope of_scope of_item group.resource) (filter (λ (scope : ScopeGroup I). nat_lt 0 (length scope.items)) left)) (2 ^ 63)
      ≡ min (sum_by (rows_of_scope of_scope of_item group.resource) (filter (λ (scope : ScopeGroup I). nat_lt 0 (length scope.items)) xs)) (2 ^ 63)
      → own ≡ min (of_resource group.resource) (2 ^ 63) → result ≡ min (weight + own) (2 ^ 63)
      → result ≡ min (rows_of_groups of_resource of_scope of_item (group ∷ [])) (2 ^ 63)
  group_some group xs left some weight own result is over told has so_far one all =
      let sum = rows_some group (ap (λ ys. nat_lt 0 (length (filter (λ (scope : ScopeGroup I). nat_lt 0 (length scope.items)) ys))) (sym is)
      ∙ ends (λ (scope : ScopeGroup I). nat_lt 0 (length scope.items)) some left _ over told ∙ has) in
      let here : sum_by (rows_of_scope of_scope of_item group.resource) (filter (λ (scope : ScopeGroup I). nat_lt 0 (length scope.items)) xs)
      ≡ sum_by (rows_of_scope of_scope of_item group.resource) (filter (λ (scope : ScopeGroup I). nat_lt 0 (length scope.items)) group.scopes) =
      ap (λ ys. sum_by (rows_of_scope of_scope of_item group.resource) (filter (λ (scope : ScopeGroup I). nat_lt 0 (length scope.items)) ys)) is in
      let none : sum_by (rows_of_scope of_scope of_item group.resource) (filter (λ (scope : ScopeGroup I). nat_lt 0 (length scope.items)) left) ≡ 0 =
      ap (λ ys. sum_by (rows_of_scope of_scope of_item group.resource) (filter (λ (scope : ScopeGroup I). nat_lt 0 (length scope.items)) ys)) over in
      omega (arith, sum, here, none, so_far, one, all)
