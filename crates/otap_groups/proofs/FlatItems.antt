-- The items of flat lists, and what holds of them.
use Rattle.std.proofs.Common.{◌≡◌, ℕ, suc, ◌+◌, true, false, inl, inr, List, [], ◌∷◌, ◌++◌, length, map, drop, refl, sym, ◌∙◌, ap, subst, arith, append_assoc, length-append}
use Rattle.std.specs.Prelude.{◌⊎◌, All, filter, nat_lt}
use Rattle.std.proofs.lemmas.Bool.{cases_Bool}
use Rattle.otlp_model.specs.Telemetry.{item_entries, entries_of_group, entries_of_scope_group, item_entry, groups_with_items}
use Rattle.std.specs.List.{flat_map}
use Rattle.std.proofs.lemmas.List.{length-map, map-append}
use Rattle.lists.proofs.Every.{all_unmapped}
use Rattle.lists.proofs.Truths.{empty}
use Rattle.otlp_model.specs.declared.groups.Resource.{Resource}
use Rattle.otlp_model.specs.declared.groups.Scope.{Scope}
use Rattle.otlp_model.specs.declared.groups.ScopeGroup.{ScopeGroup}
use Rattle.otlp_model.specs.declared.groups.ResourceGroup.{ResourceGroup}
use Rattle.otap_groups.specs.declared.flat.Flat.{Flat}
use Rattle.otap_groups.specs.declared.flat.Placed.{Placed}
use Rattle.otap_groups.specs.Flat.{FlatIn, PlacedIn, flat_items, flat_at, flat_groups, flat_scopes, items_of, past, placed, placed_at, placed_from, scopes_of, scopes_past}
use Rattle.otap_groups.specs.Views.{seen_flat, seen_placed}

module _ {I : Type 0} where
  one_scope : (r s : ℕ) (resource : Resource) (scope : Scope) (items : List I) → map (λ (f : FlatIn I). f.item) (map (flat_at r s resource scope) items) ≡ items
  one_scope r s resource scope [] = refl
  one_scope r s resource scope (x ∷ xs) = ap (λ ys. x ∷ ys) (one_scope r s resource scope xs)

  scopes_items : (r s : ℕ) (resource : Resource) (groups : List (ScopeGroup I))
      → map (λ (f : FlatIn I). f.item) (flat_scopes r s resource groups) ≡ flat_map (λ (group : ScopeGroup I). group.items) groups
  scopes_items r s resource [] = refl
  scopes_items r s resource (group ∷ groups) =
      map-append (λ (f : FlatIn I). f.item) (map (flat_at r s resource group.scope) group.items) (flat_scopes r (past s group.items) resource groups)
      ∙ (λ i. one_scope r s resource group.scope group.items i ++ scopes_items r (past s group.items) resource groups i)

  groups_items : (r s : ℕ) (groups : List (ResourceGroup I)) → map (λ (f : FlatIn I). f.item) (flat_groups r s groups) ≡ items_of groups
  groups_items r s [] = refl
  groups_items r s (group ∷ groups) =
      map-append (λ (f : FlatIn I). f.item) (flat_scopes r s group.resource group.scopes)
      (flat_groups (past r (flat_scopes r s group.resource group.scopes)) (scopes_past s group.scopes) groups)
      ∙ (λ i. scopes_items r s group.resource group.scopes i ++ groups_items (past r (flat_scopes r s group.resource group.scopes)) (scopes_past s group.scopes) groups i)

  -- a request's items are those of its flat list
  pub items_of_flat : (groups : List (ResourceGroup I)) → map (λ (f : FlatIn I). f.item) (flat_items groups) ≡ items_of groups
  unfolding flat_items
  items_of_flat groups = groups_items 0 0 groups

  seen_items : (rows : List (Flat I)) → map (λ (f : FlatIn I). f.item) (map seen_flat rows) ≡ map (λ (f : Flat I). f.item.now) rows
  seen_items [] = refl
  seen_items (f ∷ fs) = ap (λ xs. f.item.now ∷ xs) (seen_items fs)

  pub items_of_rows : (rows : List (Flat I)) (groups : List (ResourceGroup I)) → map seen_flat rows ≡ flat_items groups → map (λ (f : Flat I). f.item.now) rows ≡ items_of groups
  items_of_rows rows groups is = sym (seen_items rows) ∙ ap (map (λ (f : FlatIn I). f.item)) is ∙ items_of_flat groups

-- ---- the scopes that have items, one group further

pub scopes_step : {I : Type 0} (group : ResourceGroup I) (groups : List (ResourceGroup I)) → scopes_of (group ∷ groups)
    ≡ map (λ (scope : ScopeGroup I). scope.scope) (filter (λ (scope : ScopeGroup I). nat_lt 0 (length scope.items)) group.scopes) ++ scopes_of groups
scopes_step {I = I} group groups = by (cases_Bool (nat_lt 0 (length (filter (λ (scope : ScopeGroup I). nat_lt 0 (length scope.items)) group.scopes)))) where
  by : ((nat_lt 0 (length (filter (λ (scope : ScopeGroup I). nat_lt 0 (length scope.items)) group.scopes)) ≡ true)
      ⊎ (nat_lt 0 (length (filter (λ (scope : ScopeGroup I). nat_lt 0 (length scope.items)) group.scopes)) ≡ false))
      → scopes_of (group ∷ groups)
      ≡ map (λ (scope : ScopeGroup I). scope.scope) (filter (λ (scope : ScopeGroup I). nat_lt 0 (length scope.items)) group.scopes) ++ scopes_of groups
  by (inl some) = rw some (map-append (λ (scope : ScopeGroup I). scope.scope) (filter (λ (scope : ScopeGroup I). nat_lt 0 (length scope.items)) group.scopes)
      (flat_map (λ (group : ResourceGroup I). group.scopes) (groups_with_items groups)))
  by (inr none) = rw none (sym (ap (λ (gs : List (ScopeGroup I)). map (λ (scope : ScopeGroup I). scope.scope) gs ++ scopes_of groups) (empty _ none)))

pub scopes_added : {I : Type 0} (groups : List (ResourceGroup I)) (k : ℕ) (group : ResourceGroup I) (scopes : List (ScopeGroup I)) (old new whole : List Scope) → drop k groups ≡ group ∷ drop (k + 1) groups
    → scopes ≡ group.scopes → new ≡ old ++ map (λ (scope : ScopeGroup I). scope.scope) (filter (λ (scope : ScopeGroup I). nat_lt 0 (length scope.items)) scopes)
    → old ++ scopes_of (drop k groups) ≡ whole → new ++ scopes_of (drop (k + 1) groups) ≡ whole
scopes_added {I = I} groups k group scopes old new whole is are grew so_far =
    rw (grew ∙ ap (λ (gs : List (ScopeGroup I)). old ++ map (λ (scope : ScopeGroup I). scope.scope) (filter (λ (scope : ScopeGroup I). nat_lt 0 (length scope.items)) gs)) are)
    (append_assoc old _ _ ∙ ap (λ xs. old ++ xs) (sym (ap scopes_of is ∙ scopes_step group (drop (k + 1) groups))) ∙ so_far)

pub all_items : {I : Type 0} (P : I → Type 0) (rows : List (Flat I)) (groups : List (ResourceGroup I)) → map seen_flat rows ≡ flat_items groups → All P (items_of groups)
    → All (λ (f : Flat I). P f.item.now) rows
all_items P rows groups is all = all_unmapped P (λ f. f.item.now) rows (subst (λ xs. All P xs) (sym (items_of_rows rows groups is)) all)

module _ {C : Type 0} where
  one_list : (k : ℕ) (parts : List C) → map (λ (p : PlacedIn C). p.part) (map (placed_at k) parts) ≡ parts
  one_list k [] = refl
  one_list k (x ∷ xs) = ap (λ ys. x ∷ ys) (one_list k xs)

  lists_parts : (k : ℕ) (lists : List (List C)) → map (λ (p : PlacedIn C). p.part) (placed_from k lists) ≡ flat_map (λ (parts : List C). parts) lists
  lists_parts k [] = refl
  lists_parts k (parts ∷ lists) =
      map-append (λ (p : PlacedIn C). p.part) (map (placed_at k) parts) (placed_from (suc k) lists) ∙ (λ i. one_list k parts i ++ lists_parts (suc k) lists i)

  pub parts_of_placed : (lists : List (List C)) → map (λ (p : PlacedIn C). p.part) (placed lists) ≡ flat_map (λ (parts : List C). parts) lists
  unfolding placed
  parts_of_placed lists = lists_parts 0 lists

  seen_parts : (ps : List (Placed C)) → map (λ (p : PlacedIn C). p.part) (map seen_placed ps) ≡ map (λ (p : Placed C). p.part.now) ps
  seen_parts [] = refl
  seen_parts (p ∷ ps) = ap (λ xs. p.part.now ∷ xs) (seen_parts ps)

  pub parts_of_rows : (ps : List (Placed C)) (lists : List (List C)) → map seen_placed ps ≡ placed lists → map (λ (p : Placed C). p.part.now) ps ≡ flat_map (λ (parts : List C). parts) lists
  parts_of_rows ps lists is = sym (seen_parts ps) ∙ ap (map (λ (p : PlacedIn C). p.part)) is ∙ parts_of_placed lists

pub all_parts : {C : Type 0} (P : C → Type 0) (ps : List (Placed C)) (lists : List (List C)) → map seen_placed ps ≡ placed lists → All P (flat_map (λ (parts : List C). parts) lists)
    → All (λ (p : Placed C). P p.part.now) ps
all_parts P ps lists is all = all_unmapped P (λ p. p.part.now) ps (subst (λ xs. All P xs) (sym (parts_of_rows ps lists is)) all)

-- ---- how many items there are

module _ {I : Type 0} where
  scopes_entries : (resource : Resource) (groups : List (ScopeGroup I))
      → length (flat_map (entries_of_scope_group resource) groups) ≡ length (flat_map (λ (group : ScopeGroup I). group.items) groups)
  scopes_entries resource [] = refl
  scopes_entries resource (group ∷ groups) =
      let a = length-append (entries_of_scope_group resource group) (flat_map (entries_of_scope_group resource) groups) in
      let b = length-append group.items (flat_map (λ (group : ScopeGroup I). group.items) groups) in
      let c = length-map group.items (item_entry resource group.scope) in
      let d = scopes_entries resource groups in
      omega (arith, a, b, c, d)

  -- a request has as many entries as it has items
  pub length_entries : (groups : List (ResourceGroup I)) → length (item_entries groups) ≡ length (items_of groups)
  length_entries [] = refl
  length_entries (group ∷ groups) =
      let a = length-append (entries_of_group group) (item_entries groups) in
      let b = length-append (flat_map (λ (scope : ScopeGroup I). scope.items) group.scopes) (items_of groups) in
      let c = scopes_entries group.resource group.scopes in
      let d = length_entries groups in
      omega (arith, a, b, c, d)
