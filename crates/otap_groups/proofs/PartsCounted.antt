-- A request weighs no less than its items, and has few parts of items where each part weighs something.
use Rattle.std.proofs.Common.{ℕ, ◌+◌, ◌*◌, ◌≤◌, List, [], ◌∷◌, ◌++◌, length, arith}
use Rattle.std.specs.List.{flat_map}
use Rattle.std.proofs.lemmas.List.{length-append}
use Rattle.otlp_model.specs.Weight.{total, weight_of_resource_group, weight_of_scope_group}
use Rattle.otlp_model.specs.declared.groups.ScopeGroup.{ScopeGroup}
use Rattle.otlp_model.specs.declared.groups.ResourceGroup.{ResourceGroup}
use Rattle.otap_groups.specs.Flat.{items_of}

module _ {A C : Type 0} (weigh : A → ℕ) (parts : A → List C) (each : (a : A) → 32 * length (parts a) ≤ weigh a) where
  counted : (xs ys : List A) (n m : ℕ) → 32 * length (flat_map parts xs) ≤ n → 32 * length (flat_map parts ys) ≤ m → 32 * length (flat_map parts (xs ++ ys)) ≤ n + m
  counted [] ys n m few more = omega (arith, few, more)
  counted (x ∷ xs) ys n m few more =
      let a = length-append (parts x) (flat_map parts xs) in
      let b = length-append (parts x) (flat_map parts (xs ++ ys)) in
      let c = counted xs ys (32 * length (flat_map parts xs)) m (omega arith) more in
      omega (arith, a, b, c, few, more)

  in_items : (items : List A) → 32 * length (flat_map parts items) ≤ total 32 weigh items
  in_items [] = omega arith
  in_items (item ∷ items) =
      let a = length-append (parts item) (flat_map parts items) in
      let b = each item in
      let c = in_items items in
      omega (arith, a, b, c)

  in_scopes : (groups : List (ScopeGroup A)) → 32 * length (flat_map parts (flat_map (λ (group : ScopeGroup A). group.items) groups)) ≤ total 32 (weight_of_scope_group weigh) groups
  in_scopes [] = omega arith
  in_scopes (group ∷ groups) =
      let a = counted group.items (flat_map (λ (group : ScopeGroup A). group.items) groups) (total 32 weigh group.items) (total 32 (weight_of_scope_group weigh) groups)
      (in_items group.items) (in_scopes groups) in
      omega (arith, a)

  pub few_parts : (groups : List (ResourceGroup A)) → 32 * length (flat_map parts (items_of groups)) ≤ total 32 (weight_of_resource_group weigh) groups
  few_parts [] = omega arith
  few_parts (group ∷ groups) =
      let a = counted (flat_map (λ (scope : ScopeGroup A). scope.items) group.scopes) (items_of groups) (total 32 (weight_of_scope_group weigh) group.scopes)
      (total 32 (weight_of_resource_group weigh) groups) (in_scopes group.scopes) (few_parts groups) in
      omega (arith, a)
