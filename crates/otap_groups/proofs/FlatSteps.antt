-- Flat lists of items and of parts, one group further.
use Rattle.std.proofs.Common.{◌≡◌, ℕ, suc, ◌+◌, ◌-◌, ◌≤◌, List, [], ◌∷◌, ◌++◌, length, map, take, drop, refl, sym, ◌∙◌, ap, arith, length-append, append_assoc}
use Rattle.std.specs.List.{flat_map}
use Rattle.std.proofs.lemmas.List.{drop_at, length-map, take_rest, drop-map}
use Rattle.otlp_model.specs.declared.groups.Resource.{Resource}
use Rattle.otlp_model.specs.declared.groups.Scope.{Scope}
use Rattle.otlp_model.specs.declared.groups.ScopeGroup.{ScopeGroup}
use Rattle.otlp_model.specs.declared.groups.ResourceGroup.{ResourceGroup}
use Rattle.otap_groups.specs.Flat.{FlatIn, PlacedIn, flat_items, flat_at, flat_groups, flat_scopes, items_of, past, placed, placed_at, placed_from, scopes_past}
use Rattle.otap_groups.specs.Stored.{Rising, RisingParts}

pub past_map : {A B : Type 0} (f : A → B) (n : ℕ) (xs : List A) → past n (map f xs) ≡ past n xs
past_map f n [] = refl
past_map f n (x ∷ xs) = refl

pub past_most : {A : Type 0} (n : ℕ) (xs : List A) → past n xs ≤ n + length xs
past_most n [] = omega arith
past_most n (x ∷ xs) = omega arith

pub past_least : {A : Type 0} (n : ℕ) (xs : List A) → n ≤ past n xs
past_least n [] = omega arith
past_least n (x ∷ xs) = omega arith

-- what was appended to a list, where it is seen as another one
pub grown : {A B : Type 0} (f : A → B) (old new all : List A) (before : ℕ) (more : List B) → before ≡ length old → all ≡ new → map f new ≡ map f old ++ more
    → map f (take (length all - before) (drop before all)) ≡ more
grown f old new all before more size same is =
    ap (map f) (take_rest all before) ∙ (λ i. map f (drop (size i) (same i))) ∙ sym (drop-map f (length old) new) ∙ ap (drop (length old)) is
    ∙ drop_at (map f old) more (length old) (length-map old f)

-- the next number after what was appended
pub past_grown : {A B : Type 0} (f : A → B) (n : ℕ) (part : List A) (more : List B) → map f part ≡ more → past n part ≡ past n more
past_grown f n part more is = sym (past_map f n part) ∙ ap (past n) is

module _ {I : Type 0} where
  pub length_flat_scopes : (r s : ℕ) (resource : Resource) (groups : List (ScopeGroup I))
      → length (flat_scopes r s resource groups) ≡ length (flat_map (λ (group : ScopeGroup I). group.items) groups)
  length_flat_scopes r s resource [] = refl
  length_flat_scopes r s resource (group ∷ groups) =
      let a = length-append (map (flat_at r s resource group.scope) group.items) (flat_scopes r (past s group.items) resource groups) in
      let b = length-append group.items (flat_map (λ (group : ScopeGroup I). group.items) groups) in
      let c = length-map group.items (flat_at r s resource group.scope) in
      let d = length_flat_scopes r (past s group.items) resource groups in
      omega arith

  pub scopes_past_most : (s : ℕ) (groups : List (ScopeGroup I)) → scopes_past s groups ≤ s + length (flat_map (λ (group : ScopeGroup I). group.items) groups)
  scopes_past_most s [] = omega arith
  scopes_past_most s (group ∷ groups) =
      let a = length-append group.items (flat_map (λ (group : ScopeGroup I). group.items) groups) in
      let b = past_most s group.items in
      let c = scopes_past_most (past s group.items) groups in
      omega arith

  -- one more resource group
  pub group_added : (groups : List (ResourceGroup I)) (k r s : ℕ) (group : ResourceGroup I) (old new whole : List (FlatIn I))
      → drop k groups ≡ group ∷ drop (k + 1) groups → new ≡ old ++ flat_scopes r s group.resource group.scopes
      → old ++ flat_groups r s (drop k groups) ≡ whole
      → new ++ flat_groups (past r (flat_scopes r s group.resource group.scopes)) (scopes_past s group.scopes) (drop (k + 1) groups) ≡ whole
  group_added groups k r s group old new whole is grew so_far =
      rw grew (append_assoc old _ _ ∙ sym (ap (λ gs. old ++ flat_groups r s gs) is) ∙ so_far)

  pub items_left : (groups : List (ResourceGroup I)) (k : ℕ) (group : ResourceGroup I) → drop k groups ≡ group ∷ drop (k + 1) groups
      → length (items_of (drop k groups)) ≡ length (flat_map (λ (scope : ScopeGroup I). scope.items) group.scopes) + length (items_of (drop (k + 1) groups))
  items_left groups k group is =
      ap (λ gs. length (items_of gs)) is ∙ length-append (flat_map (λ (scope : ScopeGroup I). scope.items) group.scopes) (items_of (drop (k + 1) groups))

-- ---- numbers rise

module _ {I : Type 0} where
  pub lower : (r s r' s' : ℕ) (fs : List (FlatIn I)) → r' ≤ r → s' ≤ s → Rising r s fs → Rising r' s' fs
  lower r s r' s' [] a b rising = tt
  lower r s r' s' (f ∷ fs) a b rising =
      let c : r ≤ f.resource_id = rising.0 in
      let d : s ≤ f.scope_id = rising.1 in
      (omega arith, omega arith, rising.2)

  rising_items : (r s : ℕ) (resource : Resource) (scope : Scope) (items : List I) (rest : List (FlatIn I)) → Rising r s rest
      → Rising r s (map (flat_at r s resource scope) items ++ rest)
  rising_items r s resource scope [] rest after = after
  rising_items r s resource scope (item ∷ items) rest after = (omega arith, omega arith, rising_items r s resource scope items rest after)

  pub rising_scopes : (r s : ℕ) (resource : Resource) (groups : List (ScopeGroup I)) (rest : List (FlatIn I)) → Rising r (scopes_past s groups) rest
      → Rising r s (flat_scopes r s resource groups ++ rest)
  rising_scopes r s resource [] rest after = after
  rising_scopes r s resource (group ∷ groups) rest after =
      rw (append_assoc (map (flat_at r s resource group.scope) group.items) (flat_scopes r (past s group.items) resource groups) rest)
      (rising_items r s resource group.scope group.items _
      (lower r (past s group.items) r s _ (omega arith) (past_least s group.items) (rising_scopes r (past s group.items) resource groups rest after)))

  pub rising_groups : (r s : ℕ) (groups : List (ResourceGroup I)) → Rising r s (flat_groups r s groups)
  rising_groups r s [] = tt
  rising_groups r s (group ∷ groups) =
      rising_scopes r s group.resource group.scopes _
      (lower (past r (flat_scopes r s group.resource group.scopes)) (scopes_past s group.scopes) r (scopes_past s group.scopes) _
      (past_least r (flat_scopes r s group.resource group.scopes)) (omega arith)
      (rising_groups (past r (flat_scopes r s group.resource group.scopes)) (scopes_past s group.scopes) groups))

  pub rising_flat : (groups : List (ResourceGroup I)) → Rising 0 0 (flat_items groups)
  unfolding flat_items
  rising_flat groups = rising_groups 0 0 groups

module _ {C : Type 0} where
  rising_parts : (k : ℕ) (parts : List C) (rest : List (PlacedIn C)) → RisingParts k rest → RisingParts k (map (placed_at k) parts ++ rest)
  rising_parts k [] rest after = after
  rising_parts k (part ∷ parts) rest after = (omega arith, rising_parts k parts rest after)

  lower_parts : (k j : ℕ) (ps : List (PlacedIn C)) → j ≤ k → RisingParts k ps → RisingParts j ps
  lower_parts k j [] a rising = tt
  lower_parts k j (p ∷ ps) a rising = let c : k ≤ p.parent = rising.0 in (omega arith, rising.1)

  rising_lists : (k : ℕ) (lists : List (List C)) → RisingParts k (placed_from k lists)
  rising_lists k [] = tt
  rising_lists k (parts ∷ lists) = rising_parts k parts _ (lower_parts (suc k) k _ (omega arith) (rising_lists (suc k) lists))

  pub rising_placed : (lists : List (List C)) → RisingParts 0 (placed lists)
  unfolding placed
  rising_placed lists = rising_lists 0 lists
