-- What the groups of rows weigh: no more than those that the rows were written for, in whatever order their parts come.
use Rattle.std.proofs.Common.{◌≡◌, ℕ, ◌+◌, ◌≤◌, Bool, cond, List, [], ◌∷◌, Option, None, Some, length, map, refl, sym, ◌∙◌, arith, inl, inr}
use Rattle.std.specs.Prelude.{filter, nat_lt, sum_by}
use Rattle.std.specs.List.Sorted.{IsPermutation}
use Rattle.std.proofs.lemmas.Bool.{cases_Bool}
use Rattle.std.proofs.lemmas.List.Sums.{sum_by-cons}
use Rattle.std.proofs.lemmas.List.Sorted.{sum_by-IsPermutation}
use Rattle.otlp_model.specs.Telemetry.{groups_with_items, trimmed}
use Rattle.otlp_model.specs.Weight.{total, weight_of_pair, weight_of_resource_group, weight_of_scope_group}
use Rattle.otlp_model.specs.declared.groups.ScopeGroup.{ScopeGroup}
use Rattle.otlp_model.specs.declared.groups.ResourceGroup.{ResourceGroup}
use Rattle.otlp_model.specs.declared.value.Pair.{Pair}
use Rattle.otap_cells.specs.Cells.{Cell}
use Rattle.otap_groups.specs.Children.{child_of_row, children}
use Rattle.otap_groups.specs.Groups.{item_of_row, regrouped, resource_group, scope_group}
use Rattle.otap_groups.specs.Rows.{ChildRow, MainRow, is_child_of, same_resource, same_scope}
use Rattle.otap_groups.specs.Runs.{runs}

-- ---- the order of rows doesn't count

module _ {C : Type 0} (item : Option ℕ → List Cell → C) (weigh : C → ℕ) where
  abbrev adds : ℕ → ChildRow → ℕ
  adds parent row = cond (is_child_of parent row) (32 + weigh (child_of_row item row)) 0

  added : (parent : ℕ) (rows : List ChildRow) → total 32 weigh (map (child_of_row item) (filter (is_child_of parent) rows)) ≡ sum_by (adds parent) rows
  added parent [] = refl
  added parent (row ∷ rows) =
      let more = added parent rows in elim (cases_Bool (is_child_of parent row)) [
        | inl hit ↦ rw (sum_by-cons (adds parent) row rows, hit) (omega (arith, more))
        | inr miss ↦ rw (sum_by-cons (adds parent) row rows, miss) (omega (arith, more))
      ]

  pub reordered_weigh : (xs ys : List ChildRow) → IsPermutation xs ys → (parent : Option ℕ) → total 32 weigh (children item xs parent) ≡ total 32 weigh (children item ys parent)
  reordered_weigh xs ys moved None = refl
  reordered_weigh xs ys moved (Some parent) = added parent xs ∙ sym (sum_by-IsPermutation (adds parent) xs ys moved) ∙ sym (added parent ys)

-- ---- children that are read in two ways weigh the same where each does

module _ {C : Type 0} (weigh : C → ℕ) (item other : Option ℕ → List Cell → C) (same : (id : Option ℕ) (cells : List Cell) → weigh (item id cells) ≡ weigh (other id cells)) where
  rows_weigh : (rows : List ChildRow) → total 32 weigh (map (child_of_row item) rows) ≡ total 32 weigh (map (child_of_row other) rows)
  rows_weigh [] = refl
  rows_weigh (row ∷ rows) = let a = same row.id row.cells in let b = rows_weigh rows in omega (arith, a, b)

  pub children_weigh : (rows : List ChildRow) (parent : Option ℕ) → total 32 weigh (children item rows parent) ≡ total 32 weigh (children other rows parent)
  children_weigh rows None = refl
  children_weigh rows (Some parent) = rows_weigh (filter (is_child_of parent) rows)

-- ---- groups that are found in two ways weigh the same where what is found weighs the same

module _ {I : Type 0} (weigh : I → ℕ) (d d' e e' : Option ℕ → List Pair) (item item' : Option ℕ → List Cell → I)
    (resources : (id : Option ℕ) → total 32 weight_of_pair (d id) ≡ total 32 weight_of_pair (d' id))
    (scopes : (id : Option ℕ) → total 32 weight_of_pair (e id) ≡ total 32 weight_of_pair (e' id))
    (items : (id : Option ℕ) (cells : List Cell) → weigh (item id cells) ≡ weigh (item' id cells)) where
  same_items : (rows : List MainRow) → total 32 weigh (map (item_of_row item) rows) ≡ total 32 weigh (map (item_of_row item') rows)
  same_items [] = refl
  same_items (row ∷ rows) = let a = items row.id row.own in let b = same_items rows in omega (arith, a, b)

  same_scope_group : (rows : List MainRow) → weight_of_scope_group weigh (scope_group e item rows) ≡ weight_of_scope_group weigh (scope_group e' item' rows)
  same_scope_group [] = refl
  same_scope_group (row ∷ rows) = let a = scopes row.scope_id in let b = same_items (row ∷ rows) in omega (arith, a, b)

  same_scopes : (cuts : List (List MainRow))
      → total 32 (weight_of_scope_group weigh) (map (scope_group e item) cuts) ≡ total 32 (weight_of_scope_group weigh) (map (scope_group e' item') cuts)
  same_scopes [] = refl
  same_scopes (rows ∷ cuts) = let a = same_scope_group rows in let b = same_scopes cuts in omega (arith, a, b)

  same_group : (rows : List MainRow) → weight_of_resource_group weigh (resource_group d e item rows) ≡ weight_of_resource_group weigh (resource_group d' e' item' rows)
  unfolding resource_group
  same_group [] = let a = same_scopes (runs same_scope []) in omega (arith, a)
  same_group (row ∷ rows) = let a = resources row.resource_id in let b = same_scopes (runs same_scope (row ∷ rows)) in omega (arith, a, b)

  same_groups : (cuts : List (List MainRow))
      → total 32 (weight_of_resource_group weigh) (map (resource_group d e item) cuts) ≡ total 32 (weight_of_resource_group weigh) (map (resource_group d' e' item') cuts)
  same_groups [] = refl
  same_groups (rows ∷ cuts) = let a = same_group rows in let b = same_groups cuts in omega (arith, a, b)

  pub regrouped_weigh : (rows : List MainRow)
      → total 32 (weight_of_resource_group weigh) (regrouped d e item rows) ≡ total 32 (weight_of_resource_group weigh) (regrouped d' e' item' rows)
  unfolding regrouped
  regrouped_weigh rows = same_groups (runs same_resource rows)

-- ---- groups that have items weigh no more than all

fewer : {A : Type 0} (weigh : A → ℕ) (p : A → Bool) (xs : List A) → total 32 weigh (filter p xs) ≤ total 32 weigh xs
fewer weigh p [] = omega arith
fewer weigh p (x ∷ xs) =
    let more = fewer weigh p xs in elim (cases_Bool (p x)) [
      | inl t ↦ rw t (omega (arith, more))
      | inr f ↦ rw f (omega (arith, more))
    ]

module _ {I : Type 0} (weigh : I → ℕ) where
  all_trimmed : (groups : List (ResourceGroup I)) → total 32 (weight_of_resource_group weigh) (map trimmed groups) ≤ total 32 (weight_of_resource_group weigh) groups
  all_trimmed [] = omega arith
  all_trimmed (group ∷ groups) =
      let a = fewer (weight_of_scope_group weigh) (λ (scope : ScopeGroup I). nat_lt 0 (length scope.items)) group.scopes in
      let b = all_trimmed groups in
      omega (arith, a, b)

  pub kept_weigh : (groups : List (ResourceGroup I)) → total 32 (weight_of_resource_group weigh) (groups_with_items groups) ≤ total 32 (weight_of_resource_group weigh) groups
  kept_weigh groups =
      let a = fewer (weight_of_resource_group weigh) (λ (group : ResourceGroup I). nat_lt 0 (length group.scopes)) (map trimmed groups) in
      let b = all_trimmed groups in
      omega (arith, a, b)
