-- The groups of a request in its rows: each has rows, and rows of one group have the same cells.
use Rattle.std.proofs.Common.{◌≡◌, ℕ, zero, suc, ◌+◌, ◌-◌, ◌<◌, Bool, true, List, [], ◌∷◌, ◌++◌, Option, Some, length, map, refl, sym, ◌∙◌, ap, subst, arith, inl, inr, length-append}
use Rattle.std.specs.Prelude.{Contains, filter, nat_lt}
use Rattle.std.specs.List.{AllByRecursion}
use Rattle.std.proofs.lemmas.Bool.Decides.{nat_tests}
use Rattle.std.proofs.lemmas.Bool.{cases_lt, false≢true}
use Rattle.std.proofs.lemmas.List.{length-map, map-append}
use Rattle.std.proofs.lemmas.List.Elements.{Contains-append_left, Contains-append_right}
use Rattle.lists.proofs.Every.{every_append, every_contained, every_weaker}
use Rattle.otlp_model.specs.declared.groups.Resource.{Resource}
use Rattle.otlp_model.specs.declared.groups.Scope.{Scope}
use Rattle.otlp_model.specs.declared.groups.ScopeGroup.{ScopeGroup}
use Rattle.otlp_model.specs.declared.groups.ResourceGroup.{ResourceGroup}
use Rattle.otap_cells.specs.Cells.{Cell}
use Rattle.otap_cells.specs.Ids.{Twice}
use Rattle.otap_groups.specs.Disagree.{DifferBy, Disagree}
use Rattle.otap_groups.specs.Flat.{FlatIn, flat_items, flat_at, flat_groups, flat_scopes, items_of, numbered_rows, past, resource_cells, resources_of, scope_cells, scopes_of, scopes_past}
use Rattle.otap_groups.specs.Rows.{MainRow, cells_are}
use Rattle.otap_groups.proofs.Bounds.{size_of_flat}
use Rattle.otap_groups.proofs.CellTests.{cells_are_themselves}
use Rattle.otap_groups.proofs.FlatItems.{scopes_step}
use Rattle.otap_groups.proofs.Grouping.{none_kept, scopes_past_kept, some_kept}
use Rattle.otap_groups.proofs.RunningIds.{item_ids, running_once, running_there}

-- ---- elements and their places

-- this element is at this place
abbrev At : {A : Type 0} → List A → ℕ → A → Type 0
At [] k y = ⊥
At (x ∷ xs) zero y = x ≡ y
At (x ∷ xs) (suc k) y = At xs k y

at_once : {A : Type 0} (xs : List A) (k : ℕ) (y z : A) → At xs k y → At xs k z → y ≡ z
at_once [] k y z a b = absurd a
at_once (x ∷ xs) zero y z a b = sym a ∙ b
at_once (x ∷ xs) (suc k) y z a b = at_once xs k y z a b

at_front : {A : Type 0} (xs ys : List A) (k : ℕ) (y : A) → At xs k y → At (xs ++ ys) k y
at_front [] ys k y a = absurd a
at_front (x ∷ xs) ys zero y a = a
at_front (x ∷ xs) ys (suc k) y a = at_front xs ys k y a

at_after : {A : Type 0} (xs ys : List A) (k n : ℕ) (y : A) → n ≡ length xs + k → At ys k y → At (xs ++ ys) n y
at_after [] ys k n y is a = subst (λ n. At ys n y) (omega (arith, is)) a
at_after (x ∷ xs) ys k zero y is a = absurd (omega (arith, is))
at_after (x ∷ xs) ys k (suc n) y is a = at_after xs ys k n y (omega (arith, is)) a

not_empty : {A : Type 0} (x : A) (xs : List A) → nat_lt 0 (length (x ∷ xs)) ≡ true
not_empty x xs = grind (arith, nat_tests)

-- ---- own ids: each once, and one for each item

module _ {I : Type 0} (cells_of : I → List Cell) where
  pub own_once : (n : ℕ) (fs : List (FlatIn I)) → Twice (map (λ (row : MainRow). row.id) (numbered_rows cells_of n fs)) → ⊥
  own_once n fs twice = running_once n fs (subst Twice (item_ids cells_of n fs) twice)

  pub item_there : (groups : List (ResourceGroup I)) (p : ℕ) → p < length (items_of groups)
      → Contains (map (λ (row : MainRow). row.id) (numbered_rows cells_of 0 (flat_items groups))) (Some p)
  item_there groups p within =
      subst (λ ids. Contains ids (Some p)) (sym (item_ids cells_of 0 (flat_items groups))) (running_there p (flat_items groups) (let size = size_of_flat 0 groups in omega (arith, size, within)))

-- ---- each group that has items has rows

module _ {I : Type 0} where
  abbrev resource_numbers : List (FlatIn I) → List (Option ℕ)
  resource_numbers fs = map (λ (f : FlatIn I). Some f.resource_id) fs

  abbrev scope_numbers : List (FlatIn I) → List (Option ℕ)
  scope_numbers fs = map (λ (f : FlatIn I). Some f.scope_id) fs

  abbrev has_items : ScopeGroup I → Bool
  has_items group = nat_lt 0 (length group.items)

  abbrev OfResource : ℕ → Resource → FlatIn I → Type 0
  OfResource r resource f = (f.resource_id ≡ r) × (f.resource ≡ resource)

  of_items : (r s : ℕ) (resource : Resource) (scope : Scope) (items : List I) → AllByRecursion (OfResource r resource) (map (flat_at r s resource scope) items)
  of_items r s resource scope [] = tt
  of_items r s resource scope (item ∷ items) = ((refl, refl), of_items r s resource scope items)

  of_scopes : (r s : ℕ) (resource : Resource) (groups : List (ScopeGroup I)) → AllByRecursion (OfResource r resource) (flat_scopes r s resource groups)
  of_scopes r s resource [] = tt
  of_scopes r s resource (group ∷ groups) =
      every_append (OfResource r resource) (map (flat_at r s resource group.scope) group.items) _ (of_items r s resource group.scope group.items) (of_scopes r (past s group.items) resource groups)

  -- the resources of a group and of those after it
  none_more : (group : ResourceGroup I) (groups : List (ResourceGroup I)) (r s : ℕ) → flat_scopes r s group.resource group.scopes ≡ [] → resources_of (group ∷ groups) ≡ resources_of groups
  none_more group groups r s none = rw (none_kept r s group.resource group.scopes (ap length none)) refl

  one_more : (group : ResourceGroup I) (groups : List (ResourceGroup I)) (r s : ℕ) → 0 < length (flat_scopes r s group.resource group.scopes)
      → resources_of (group ∷ groups) ≡ group.resource ∷ resources_of groups
  one_more group groups r s some = rw (some_kept r s group.resource group.scopes some) refl

  resource_from : (r s p : ℕ) (groups : List (ResourceGroup I)) → p < length (resources_of groups) → Contains (resource_numbers (flat_groups r s groups)) (Some (r + p))
  resource_from r s p [] within = absurd (omega arith)
  resource_from r s p (group ∷ groups) within =
      by p (flat_scopes r s group.resource group.scopes) refl within (λ r p within. resource_from r (scopes_past s group.scopes) p groups within) where
        by : (p : ℕ) (fs : List (FlatIn I)) → flat_scopes r s group.resource group.scopes ≡ fs → p < length (resources_of (group ∷ groups))
            → ((r p : ℕ) → p < length (resources_of groups) → Contains (resource_numbers (flat_groups r (scopes_past s group.scopes) groups)) (Some (r + p)))
            → Contains (resource_numbers (fs ++ flat_groups (past r fs) (scopes_past s group.scopes) groups)) (Some (r + p))
        by p [] none within after = after r p (subst (λ xs. p < length xs) (none_more group groups r s none) within)
        by zero (f ∷ fs) some within after =
            let all : AllByRecursion (OfResource r group.resource) (f ∷ fs) = subst (AllByRecursion (OfResource r group.resource)) some (of_scopes r s group.resource group.scopes) in
            (0, omega arith, ap Some (all.0.0 ∙ omega arith))
        by (suc p) (f ∷ fs) some within after =
            let size : length (resources_of (group ∷ groups)) ≡ suc (length (resources_of groups)) = ap length (one_more group groups r s (omega (arith, ap length some))) in
            let more : Contains (resource_numbers (flat_groups (suc r) (scopes_past s group.scopes) groups)) (Some (r + suc p)) =
            subst (λ m. Contains (resource_numbers (flat_groups (suc r) (scopes_past s group.scopes) groups)) (Some m)) (omega arith)
            (after (suc r) p (omega (arith, size, within))) in
            subst (λ xs. Contains xs (Some (r + suc p))) (sym (map-append (λ (f : FlatIn I). Some f.resource_id) (f ∷ fs) (flat_groups (suc r) (scopes_past s group.scopes) groups)))
            (Contains-append_right (resource_numbers (f ∷ fs)) (resource_numbers (flat_groups (suc r) (scopes_past s group.scopes) groups)) (Some (r + suc p)) more)

  scope_in : (r s p : ℕ) (resource : Resource) (groups : List (ScopeGroup I)) → p < length (filter has_items groups) → Contains (scope_numbers (flat_scopes r s resource groups)) (Some (s + p))
  scope_in r s p resource [] within = absurd (omega arith)
  scope_in r s p resource (group ∷ groups) within = by p group.scope group.items within (λ s p within. scope_in r s p resource groups within) where
    by : (p : ℕ) (scope : Scope) (items : List I) → p < length (filter has_items (record { scope = scope; items = items } ∷ groups))
        → ((s p : ℕ) → p < length (filter has_items groups) → Contains (scope_numbers (flat_scopes r s resource groups)) (Some (s + p)))
        → Contains (scope_numbers (map (flat_at r s resource scope) items ++ flat_scopes r (past s items) resource groups)) (Some (s + p))
    by p scope [] within after = after s p within
    by zero scope (item ∷ items) within after = (0, omega arith, ap Some (omega arith))
    by (suc p) scope (item ∷ items) within after =
        let less : suc p < suc (length (filter has_items groups)) = rw (not_empty item items) at within in
        let more : Contains (scope_numbers (flat_scopes r (suc s) resource groups)) (Some (s + suc p)) =
        subst (λ m. Contains (scope_numbers (flat_scopes r (suc s) resource groups)) (Some m)) (omega arith) (after (suc s) p (omega (arith, less))) in
        subst (λ xs. Contains xs (Some (s + suc p))) (sym (map-append (λ (f : FlatIn I). Some f.scope_id) (map (flat_at r s resource scope) (item ∷ items)) (flat_scopes r (suc s) resource groups)))
        (Contains-append_right (scope_numbers (map (flat_at r s resource scope) (item ∷ items))) (scope_numbers (flat_scopes r (suc s) resource groups)) (Some (s + suc p)) more)

  scope_from : (r s p : ℕ) (groups : List (ResourceGroup I)) → p < length (scopes_of groups) → Contains (scope_numbers (flat_groups r s groups)) (Some (s + p))
  scope_from r s p [] within = absurd (omega arith)
  scope_from r s p (group ∷ groups) within =
      let front : List (FlatIn I) = flat_scopes r s group.resource group.scopes in
      let after : List (FlatIn I) = flat_groups (past r front) (scopes_past s group.scopes) groups in
      let kept : List (ScopeGroup I) = filter has_items group.scopes in
      let size = ap length (scopes_step group groups) in
      let both = length-append (map (λ (scope : ScopeGroup I). scope.scope) kept) (scopes_of groups) in
      let here = length-map kept (λ (scope : ScopeGroup I). scope.scope) in
      let at = scopes_past_kept s group.scopes in
      subst (λ xs. Contains xs (Some (s + p))) (sym (map-append (λ (f : FlatIn I). Some f.scope_id) front after))
      (elim (cases_lt p (length kept)) [
        | inl low ↦ Contains-append_left (scope_numbers front) (scope_numbers after) (Some (s + p)) (scope_in r s p group.resource group.scopes low)
        | inr high ↦ Contains-append_right (scope_numbers front) (scope_numbers after) (Some (s + p))
            (subst (λ m. Contains (scope_numbers after) (Some m)) (omega (arith, at, high))
            (scope_from (past r front) (scopes_past s group.scopes) (p - length kept) groups (omega (arith, size, both, here, high, within))))
      ])

  -- ---- the resource and the scope of each row

  abbrev FromResource : List Resource → ℕ → FlatIn I → Type 0
  FromResource xs r f = (k : ℕ) × (f.resource_id ≡ r + k) × At xs k f.resource

  abbrev FromScope : List Scope → ℕ → FlatIn I → Type 0
  FromScope xs s f = (k : ℕ) × (f.scope_id ≡ s + k) × At xs k f.scope

  from_resources : (r s : ℕ) (groups : List (ResourceGroup I)) → AllByRecursion (FromResource (resources_of groups) r) (flat_groups r s groups)
  from_resources r s [] = tt
  from_resources r s (group ∷ groups) = by (flat_scopes r s group.resource group.scopes) refl (λ r. from_resources r (scopes_past s group.scopes) groups) where
    by : (fs : List (FlatIn I)) → flat_scopes r s group.resource group.scopes ≡ fs
        → ((r : ℕ) → AllByRecursion (FromResource (resources_of groups) r) (flat_groups r (scopes_past s group.scopes) groups))
        → AllByRecursion (FromResource (resources_of (group ∷ groups)) r) (fs ++ flat_groups (past r fs) (scopes_past s group.scopes) groups)
    by [] none after =
        subst (λ xs. AllByRecursion (FromResource xs r) (flat_groups r (scopes_past s group.scopes) groups)) (sym (none_more group groups r s none)) (after r)
    by (f ∷ fs) some after =
        subst (λ xs. AllByRecursion (FromResource xs r) ((f ∷ fs) ++ flat_groups (suc r) (scopes_past s group.scopes) groups)) (sym (one_more group groups r s (omega (arith, ap length some))))
        (every_append (FromResource (group.resource ∷ resources_of groups) r) (f ∷ fs) (flat_groups (suc r) (scopes_past s group.scopes) groups)
        (every_weaker (OfResource r group.resource) (FromResource (group.resource ∷ resources_of groups) r) (λ f of. (0, of.0 ∙ omega arith, sym of.1)) (f ∷ fs)
        (subst (AllByRecursion (OfResource r group.resource)) some (of_scopes r s group.resource group.scopes)))
        (every_weaker (FromResource (resources_of groups) (suc r)) (FromResource (group.resource ∷ resources_of groups) r) (λ f from. (suc from.0, from.1 ∙ omega arith, from.2))
        (flat_groups (suc r) (scopes_past s group.scopes) groups) (after (suc r))))

  in_items : (r s : ℕ) (resource : Resource) (scope : Scope) (xs : List Scope) (items : List I) → AllByRecursion (FromScope (scope ∷ xs) s) (map (flat_at r s resource scope) items)
  in_items r s resource scope xs [] = tt
  in_items r s resource scope xs (item ∷ items) = ((0, omega arith, refl), in_items r s resource scope xs items)

  in_scopes : (r s : ℕ) (resource : Resource) (groups : List (ScopeGroup I))
      → AllByRecursion (FromScope (map (λ (scope : ScopeGroup I). scope.scope) (filter has_items groups)) s) (flat_scopes r s resource groups)
  in_scopes r s resource [] = tt
  in_scopes r s resource (group ∷ groups) = by group.scope group.items (λ s. in_scopes r s resource groups) where
    by : (scope : Scope) (items : List I)
        → ((s : ℕ) → AllByRecursion (FromScope (map (λ (scope : ScopeGroup I). scope.scope) (filter has_items groups)) s) (flat_scopes r s resource groups))
        → AllByRecursion (FromScope (map (λ (scope : ScopeGroup I). scope.scope) (filter has_items (record { scope = scope; items = items } ∷ groups))) s)
        (map (flat_at r s resource scope) items ++ flat_scopes r (past s items) resource groups)
    by scope [] after = after s
    by scope (item ∷ items) after =
        let xs : List Scope = map (λ (scope : ScopeGroup I). scope.scope) (filter has_items groups) in
        let are : map (λ (scope : ScopeGroup I). scope.scope) (filter has_items (record { scope = scope; items = item ∷ items } ∷ groups)) ≡ scope ∷ xs = rw (not_empty item items) refl in
        subst (λ ys. AllByRecursion (FromScope ys s) (map (flat_at r s resource scope) (item ∷ items) ++ flat_scopes r (suc s) resource groups)) (sym are)
        (every_append (FromScope (scope ∷ xs) s) (map (flat_at r s resource scope) (item ∷ items)) (flat_scopes r (suc s) resource groups)
        (in_items r s resource scope xs (item ∷ items))
        (every_weaker (FromScope xs (suc s)) (FromScope (scope ∷ xs) s) (λ f from. (suc from.0, from.1 ∙ omega arith, from.2)) (flat_scopes r (suc s) resource groups)
        (after (suc s))))

  from_scopes : (r s : ℕ) (groups : List (ResourceGroup I)) → AllByRecursion (FromScope (scopes_of groups) s) (flat_groups r s groups)
  from_scopes r s [] = tt
  from_scopes r s (group ∷ groups) =
      let front : List (FlatIn I) = flat_scopes r s group.resource group.scopes in
      let after : List (FlatIn I) = flat_groups (past r front) (scopes_past s group.scopes) groups in
      let xs : List Scope = map (λ (scope : ScopeGroup I). scope.scope) (filter has_items group.scopes) in
      let here = length-map (filter has_items group.scopes) (λ (scope : ScopeGroup I). scope.scope) in
      let at = scopes_past_kept s group.scopes in
      subst (λ ys. AllByRecursion (FromScope ys s) (front ++ after)) (sym (scopes_step group groups))
      (every_append (FromScope (xs ++ scopes_of groups) s) front after
      (every_weaker (FromScope xs s) (FromScope (xs ++ scopes_of groups) s) (λ f from. (from.0, from.1, at_front xs (scopes_of groups) from.0 f.scope from.2)) front
      (in_scopes r s group.resource group.scopes))
      (every_weaker (FromScope (scopes_of groups) (scopes_past s group.scopes)) (FromScope (xs ++ scopes_of groups) s)
      (λ f from. (length xs + from.0, from.1 ∙ omega (arith, here, at), at_after xs (scopes_of groups) from.0 (length xs + from.0) f.scope refl from.2)) after
      (from_scopes (past r front) (scopes_past s group.scopes) groups)))

-- ---- the rows

abbrev Comes : {A : Type 0} → (A → List Cell) → List A → Option ℕ → List Cell → Type 0
Comes {A} cells_of xs id cells = (k : ℕ) × (x : A) × (id ≡ Some k) × At xs k x × (cells ≡ cells_of x)

come_alike : {A : Type 0} (cells_of : A → List Cell) (xs : List A) (m : ℕ) (id id' : Option ℕ) (cells cells' : List Cell)
    → Comes cells_of xs id cells → Comes cells_of xs id' cells' → id ≡ Some m → id' ≡ Some m → cells_are cells cells' ≡ true
come_alike cells_of xs m id id' cells cells' a b is is' =
    let one : Some a.0 ≡ Some b.0 = sym a.2 ∙ is ∙ sym is' ∙ b.2 in
    let place : b.0 ≡ a.0 = cc in
    let same = at_once xs a.0 a.1 b.1 a.3 (subst (λ k. At xs k b.1) place b.3) in
    (λ i. cells_are ((a.4 ∙ ap cells_of same) i) (b.4 i)) ∙ cells_are_themselves (cells_of b.1)

none_differ : {A : Type 0} (cells_of : A → List Cell) (xs : List A) (id : MainRow → Option ℕ) (cells : MainRow → List Cell) (rows : List MainRow)
    → AllByRecursion (λ row. Comes cells_of xs (id row) (cells row)) rows → DifferBy id cells rows → ⊥
none_differ cells_of xs id cells rows all d =
    let a = every_contained (λ row. Comes cells_of xs (id row) (cells row)) rows d.a all d.first in
    let b = every_contained (λ row. Comes cells_of xs (id row) (cells row)) rows d.b all d.second in
    absurd (false≢true (sym d.differ ∙ come_alike cells_of xs d.shared (id d.a) (id d.b) (cells d.a) (cells d.b) a b d.of_first d.of_second))

module _ {I : Type 0} (cells_of : I → List Cell) where
  resource_ids_are : (n : ℕ) (fs : List (FlatIn I)) → map (λ (row : MainRow). row.resource_id) (numbered_rows cells_of n fs) ≡ resource_numbers fs
  resource_ids_are n [] = refl
  resource_ids_are n (f ∷ fs) = ap (λ ids. Some f.resource_id ∷ ids) (resource_ids_are (suc n) fs)

  scope_ids_are : (n : ℕ) (fs : List (FlatIn I)) → map (λ (row : MainRow). row.scope_id) (numbered_rows cells_of n fs) ≡ scope_numbers fs
  scope_ids_are n [] = refl
  scope_ids_are n (f ∷ fs) = ap (λ ids. Some f.scope_id ∷ ids) (scope_ids_are (suc n) fs)

  pub resource_there : (groups : List (ResourceGroup I)) (p : ℕ) → p < length (resources_of groups)
      → Contains (map (λ (row : MainRow). row.resource_id) (numbered_rows cells_of 0 (flat_items groups))) (Some p)
  unfolding flat_items
  resource_there groups p within =
      subst (λ ids. Contains ids (Some p)) (sym (resource_ids_are 0 (flat_groups 0 0 groups)))
      (subst (λ m. Contains (resource_numbers (flat_groups 0 0 groups)) (Some m)) (omega arith) (resource_from 0 0 p groups within))

  pub scope_there : (groups : List (ResourceGroup I)) (p : ℕ) → p < length (scopes_of groups)
      → Contains (map (λ (row : MainRow). row.scope_id) (numbered_rows cells_of 0 (flat_items groups))) (Some p)
  unfolding flat_items
  scope_there groups p within =
      subst (λ ids. Contains ids (Some p)) (sym (scope_ids_are 0 (flat_groups 0 0 groups)))
      (subst (λ m. Contains (scope_numbers (flat_groups 0 0 groups)) (Some m)) (omega arith) (scope_from 0 0 p groups within))

  resources_come : (xs : List Resource) (n : ℕ) (fs : List (FlatIn I)) → AllByRecursion (FromResource xs 0) fs
      → AllByRecursion (λ (row : MainRow). Comes resource_cells xs row.resource_id row.resource) (numbered_rows cells_of n fs)
  resources_come xs n [] all = tt
  resources_come xs n (f ∷ fs) all = ((all.0.0, f.resource, ap Some (all.0.1 ∙ omega arith), all.0.2, refl), resources_come xs (suc n) fs all.1)

  scopes_come : (xs : List Scope) (n : ℕ) (fs : List (FlatIn I)) → AllByRecursion (FromScope xs 0) fs
      → AllByRecursion (λ (row : MainRow). Comes scope_cells xs row.scope_id row.scope) (numbered_rows cells_of n fs)
  scopes_come xs n [] all = tt
  scopes_come xs n (f ∷ fs) all = ((all.0.0, f.scope, ap Some (all.0.1 ∙ omega arith), all.0.2, refl), scopes_come xs (suc n) fs all.1)

  -- rows of one id don't differ
  pub rows_agree : (groups : List (ResourceGroup I)) → Disagree (numbered_rows cells_of 0 (flat_items groups)) → ⊥
  unfolding flat_items
  rows_agree groups (inl d) = none_differ resource_cells (resources_of groups) (λ row. row.resource_id) (λ row. row.resource) _ (resources_come (resources_of groups) 0 _ (from_resources 0 0 groups)) d
  rows_agree groups (inr d) = none_differ scope_cells (scopes_of groups) (λ row. row.scope_id) (λ row. row.scope) _ (scopes_come (scopes_of groups) 0 _ (from_scopes 0 0 groups)) d
