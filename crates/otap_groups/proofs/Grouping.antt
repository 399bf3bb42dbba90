-- The rows of a request make its groups that have items.
use Rattle.std.proofs.Common.{◌≡◌, ℕ, suc, ◌+◌, ◌<◌, ◌≤◌, Bool, true, false, ◌&&◌, List, [], ◌∷◌, ◌++◌, Option, Some, length, map, refl, sym, ◌∙◌, ap, subst, arith, append-nil}
use Rattle.std.specs.Prelude.{nat_lt, filter}
use Rattle.std.specs.List.{AllByRecursion, flat_map}
use Rattle.std.proofs.lemmas.Bool.{and_from}
use Rattle.std.proofs.lemmas.List.{length-map, map-append}
use Rattle.lists.proofs.Every.{every_append}
use Rattle.lists.proofs.Truths.{positive, unequal}
use Rattle.otlp_model.specs.Telemetry.{trimmed, groups_with_items}
use Rattle.otlp_model.specs.declared.value.Pair.{Pair}
use Rattle.otlp_model.specs.declared.groups.Resource.{Resource}
use Rattle.otlp_model.specs.declared.groups.Scope.{Scope}
use Rattle.otlp_model.specs.declared.groups.ScopeGroup.{ScopeGroup}
use Rattle.otlp_model.specs.declared.groups.ResourceGroup.{ResourceGroup}
use Rattle.otap_cells.specs.Cells.{Cell}
use Rattle.otap_cells.specs.Scalars.{text_cell}
use Rattle.otap_cells.proofs.ScalarLaws.{text_back, number_back}
use Rattle.otap_groups.specs.Rows.{MainRow, cells_are, cell_is, id_is, same_resource, same_scope}
use Rattle.otap_groups.specs.Runs.{runs}
use Rattle.otap_groups.specs.Children.{Agree, ReadsEach, numbered}
use Rattle.otap_groups.specs.Groups.{item_of_row, regrouped, resource_at, resource_group, resource_of, scope_group, scope_of}
use Rattle.otap_groups.specs.Flat.{FlatIn, flat_items, flat_at, flat_groups, flat_scopes, items_of, numbered_row, numbered_rows, past, resource_cells, resources_of, scope_cells, scopes_of, scopes_past}
use Rattle.otap_groups.specs.Stored.{Rising}
use Rattle.otap_groups.proofs.CellTests.{cell_is_itself, cells_are_themselves, id_is_itself}
use Rattle.otap_groups.proofs.FlatSteps.{length_flat_scopes, rising_groups, rising_scopes}
use Rattle.otap_groups.proofs.Joins.{agree_after, agree_front, reads_after, reads_front}
use Rattle.otap_groups.proofs.RunBlocks.{First, block}

resource_back : (resource : Resource) (pairs : List Pair) → pairs ≡ resource.pairs → resource_of (resource_cells resource) pairs ≡ resource
resource_back resource pairs is = λ i. record { schema_url = text_back resource.schema_url i; dropped = number_back resource.dropped i; pairs = is i }

scope_back : (scope : Scope) (pairs : List Pair) → pairs ≡ scope.pairs → scope_of (scope_cells scope) (text_cell scope.schema_url) pairs ≡ scope
scope_back scope pairs is = λ i. record {
  schema_url = text_back scope.schema_url i;
  name = text_back scope.name i;
  version = text_back scope.version i;
  dropped = number_back scope.dropped i;
  pairs = is i;
}

abbrev has_items : {I : Type 0} → ScopeGroup I → Bool
has_items group = nat_lt 0 (length group.items)

-- ---- rows of one scope, and of one resource

abbrev InScope : ℕ → Scope → MainRow → Type 0
InScope s scope row = (row.scope_id ≡ Some s) × (row.scope ≡ scope_cells scope) × (row.schema_url ≡ text_cell scope.schema_url)

abbrev PastScope : ℕ → MainRow → Type 0
PastScope s row = (t : ℕ) × (row.scope_id ≡ Some t) × (s < t)

abbrev InResource : ℕ → Resource → MainRow → Type 0
InResource r resource row = (row.resource_id ≡ Some r) × (row.resource ≡ resource_cells resource)

abbrev PastResource : ℕ → MainRow → Type 0
PastResource r row = (t : ℕ) × (row.resource_id ≡ Some t) × (r < t)

one_scope_id : (s : ℕ) (scope : Scope) (x y : MainRow) → InScope s scope x → InScope s scope y → same_scope x y ≡ true
one_scope_id s scope x y a b =
    let id : id_is x.scope_id y.scope_id ≡ true = (λ i. id_is (a.0 i) (b.0 i)) ∙ id_is_itself (Some s) in
    let cells : cells_are x.scope y.scope ≡ true = (λ i. cells_are (a.1 i) (b.1 i)) ∙ cells_are_themselves (scope_cells scope) in
    let url : cell_is x.schema_url y.schema_url ≡ true = (λ i. cell_is (a.2 i) (b.2 i)) ∙ cell_is_itself (text_cell scope.schema_url) in
    and_from _ _ id (and_from _ _ cells url)

next_scope_id : (s : ℕ) (scope : Scope) (x y : MainRow) → InScope s scope x → PastScope s y → same_scope x y ≡ false
next_scope_id s scope x y a b =
    let id : id_is x.scope_id y.scope_id ≡ false = (λ i. id_is (a.0 i) (b.1 i)) ∙ unequal s b.0 b.2 in
    ap (λ t. t && (cells_are x.scope y.scope && cell_is x.schema_url y.schema_url)) id

one_resource_id : (r : ℕ) (resource : Resource) (x y : MainRow) → InResource r resource x → InResource r resource y → same_resource x y ≡ true
one_resource_id r resource x y a b =
    let id : id_is x.resource_id y.resource_id ≡ true = (λ i. id_is (a.0 i) (b.0 i)) ∙ id_is_itself (Some r) in
    let cells : cells_are x.resource y.resource ≡ true = (λ i. cells_are (a.1 i) (b.1 i)) ∙ cells_are_themselves (resource_cells resource) in
    and_from _ _ id cells

next_resource_id : (r : ℕ) (resource : Resource) (x y : MainRow) → InResource r resource x → PastResource r y → same_resource x y ≡ false
next_resource_id r resource x y a b =
    let id : id_is x.resource_id y.resource_id ≡ false = (λ i. id_is (a.0 i) (b.1 i)) ∙ unequal r b.0 b.2 in
    ap (λ t. t && cells_are x.resource y.resource) id

scopes_rise : {I : Type 0} (r s : ℕ) (resource : Resource) (groups : List (ScopeGroup I)) → Rising r s (flat_scopes r s resource groups)
scopes_rise r s resource groups = subst (λ fs. Rising r s fs) (append-nil (flat_scopes r s resource groups)) (rising_scopes r s resource groups [] tt)

module _ {I : Type 0} (cells_of : I → List Cell) where
  numbered_append : (n : ℕ) (fs gs : List (FlatIn I)) → numbered_rows cells_of n (fs ++ gs) ≡ numbered_rows cells_of n fs ++ numbered_rows cells_of (n + length fs) gs
  numbered_append n [] gs = ap (λ m. numbered_rows cells_of m gs) (omega arith)
  numbered_append n (f ∷ fs) gs =
      ap (λ rows. numbered_row cells_of n f ∷ rows)
      (numbered_append (suc n) fs gs ∙ ap (λ m. numbered_rows cells_of (suc n) fs ++ numbered_rows cells_of m gs) (omega arith))

  in_scope : (n r s : ℕ) (resource : Resource) (scope : Scope) (items : List I)
      → AllByRecursion (InScope s scope) (numbered_rows cells_of n (map (flat_at r s resource scope) items))
  in_scope n r s resource scope [] = tt
  in_scope n r s resource scope (item ∷ items) = ((refl, refl, refl), in_scope (suc n) r s resource scope items)

  one_resource : (n r s : ℕ) (resource : Resource) (scope : Scope) (items : List I)
      → AllByRecursion (InResource r resource) (numbered_rows cells_of n (map (flat_at r s resource scope) items))
  one_resource n r s resource scope [] = tt
  one_resource n r s resource scope (item ∷ items) = ((refl, refl), one_resource (suc n) r s resource scope items)

  in_resource : (n r s : ℕ) (resource : Resource) (groups : List (ScopeGroup I))
      → AllByRecursion (InResource r resource) (numbered_rows cells_of n (flat_scopes r s resource groups))
  in_resource n r s resource [] = tt
  in_resource n r s resource (group ∷ groups) =
      rw (numbered_append n (map (flat_at r s resource group.scope) group.items) (flat_scopes r (past s group.items) resource groups))
      (every_append (InResource r resource) _ _ (one_resource n r s resource group.scope group.items)
      (in_resource (n + length (map (flat_at r s resource group.scope) group.items)) r (past s group.items) resource groups))

  past_scope : (n r s : ℕ) (fs : List (FlatIn I)) → Rising r (suc s) fs → First (PastScope s) (numbered_rows cells_of n fs)
  past_scope n r s [] rising = tt
  past_scope n r s (f ∷ fs) rising = (f.scope_id, refl, let low : suc s ≤ f.scope_id = rising.1 in omega arith)

  past_resource : (n r s : ℕ) (fs : List (FlatIn I)) → Rising (suc r) s fs → First (PastResource r) (numbered_rows cells_of n fs)
  past_resource n r s [] rising = tt
  past_resource n r s (f ∷ fs) rising = (f.resource_id, refl, let low : suc r ≤ f.resource_id = rising.0 in omega arith)

first_from : {A : Type 0} (P Q : A → Type 0) (xs : List A) → ((x : A) → P x → Q x) → First P xs → First Q xs
first_from P Q [] weaker first = tt
first_from P Q (x ∷ xs) weaker first = weaker x first

-- ---- which groups have items

module _ {I : Type 0} where
  pub scopes_past_kept : (s : ℕ) (groups : List (ScopeGroup I)) → scopes_past s groups ≡ s + length (filter has_items groups)
  scopes_past_kept s [] = omega arith
  scopes_past_kept s (group ∷ groups) = by group.scope group.items (λ s. scopes_past_kept s groups) where
    by : (scope : Scope) (items : List I) → ((s : ℕ) → scopes_past s groups ≡ s + length (filter has_items groups))
        → scopes_past s (record { scope = scope; items = items } ∷ groups) ≡ s + length (filter has_items (record { scope = scope; items = items } ∷ groups))
    by scope [] ih = ih s
    by scope (item ∷ items) ih = rw (positive (length items)) (let e = ih (suc s) in omega (arith, e))

  pub none_kept : (r s : ℕ) (resource : Resource) (groups : List (ScopeGroup I)) → length (flat_scopes r s resource groups) ≡ 0 → filter has_items groups ≡ []
  none_kept r s resource [] empty = refl
  none_kept r s resource (group ∷ groups) empty = by group.scope group.items (λ s. none_kept r s resource groups) empty where
    by : (scope : Scope) (items : List I) → ((s : ℕ) → length (flat_scopes r s resource groups) ≡ 0 → filter has_items groups ≡ [])
        → length (flat_scopes r s resource (record { scope = scope; items = items } ∷ groups)) ≡ 0 → filter has_items (record { scope = scope; items = items } ∷ groups) ≡ []
    by scope [] ih empty = ih s empty
    by scope (item ∷ items) ih empty = absurd (omega arith)

  pub some_kept : (r s : ℕ) (resource : Resource) (groups : List (ScopeGroup I)) → 0 < length (flat_scopes r s resource groups) → nat_lt 0 (length (filter has_items groups)) ≡ true
  some_kept r s resource [] some = absurd (omega arith)
  some_kept r s resource (group ∷ groups) some = by group.scope group.items (λ s. some_kept r s resource groups) some where
    by : (scope : Scope) (items : List I) → ((s : ℕ) → 0 < length (flat_scopes r s resource groups) → nat_lt 0 (length (filter has_items groups)) ≡ true)
        → 0 < length (flat_scopes r s resource (record { scope = scope; items = items } ∷ groups))
        → nat_lt 0 (length (filter has_items (record { scope = scope; items = items } ∷ groups))) ≡ true
    by scope [] ih some = ih s some
    by scope (item ∷ items) ih some = rw (positive (length items)) (positive (length (filter has_items groups)))

-- ---- back to the groups

module _ {I : Type 0} (cells_of : I → List Cell) (resources scopes : Option ℕ → List Pair) (item : Option ℕ → List Cell → I) where
  items_back : (n r s : ℕ) (resource : Resource) (scope : Scope) (items : List I) → ReadsEach numbered cells_of item n items
      → map (item_of_row item) (numbered_rows cells_of n (map (flat_at r s resource scope) items)) ≡ items
  items_back n r s resource scope [] reads = refl
  items_back n r s resource scope (x ∷ xs) reads = λ i. reads.0 i ∷ items_back (suc n) r s resource scope xs reads.1 i

  one_scope : (n r s : ℕ) (resource : Resource) (scope : Scope) (items : List I) (groups : List (ScopeGroup I))
      → ReadsEach numbered cells_of item n (items ++ flat_map (λ (group : ScopeGroup I). group.items) groups)
      → Agree scopes s (map (λ (group : ScopeGroup I). group.scope.pairs) (filter has_items (record { scope = scope; items = items } ∷ groups)))
      → ((n s : ℕ) → ReadsEach numbered cells_of item n (flat_map (λ (group : ScopeGroup I). group.items) groups)
      → Agree scopes s (map (λ (group : ScopeGroup I). group.scope.pairs) (filter has_items groups))
      → map (scope_group scopes item) (runs same_scope (numbered_rows cells_of n (flat_scopes r s resource groups))) ≡ filter has_items groups)
      → map (scope_group scopes item) (runs same_scope (numbered_rows cells_of n (flat_scopes r s resource (record { scope = scope; items = items } ∷ groups))))
      ≡ filter has_items (record { scope = scope; items = items } ∷ groups)
  one_scope n r s resource scope [] groups reads agree ih = ih n s reads agree
  one_scope n r s resource scope (x ∷ xs) groups reads agree ih =
      let here : nat_lt 0 (length (x ∷ xs)) ≡ true = positive (length xs) in
      let agrees = rw here at agree in
      let size : n + length (map (flat_at r s resource scope) (x ∷ xs)) ≡ n + length (x ∷ xs) = ap (λ m. n + m) (length-map (x ∷ xs) (flat_at r s resource scope)) in
      let rows : numbered_rows cells_of n (flat_scopes r s resource (record { scope = scope; items = x ∷ xs } ∷ groups))
      ≡ numbered_rows cells_of n (map (flat_at r s resource scope) (x ∷ xs)) ++ numbered_rows cells_of (n + length (x ∷ xs)) (flat_scopes r (suc s) resource groups) =
      numbered_append cells_of n (map (flat_at r s resource scope) (x ∷ xs)) (flat_scopes r (suc s) resource groups)
      ∙ ap (λ m. numbered_rows cells_of n (map (flat_at r s resource scope) (x ∷ xs)) ++ numbered_rows cells_of m (flat_scopes r (suc s) resource groups)) size in
      let rising : Rising r (suc s) (flat_scopes r (suc s) resource groups) = scopes_rise r (suc s) resource groups in
      let cut = block same_scope (InScope s scope) (one_scope_id s scope) _ _ (numbered_rows cells_of (n + length (x ∷ xs)) (flat_scopes r (suc s) resource groups))
      (in_scope cells_of n r s resource scope (x ∷ xs))
      (first_from (PastScope s) (λ y. (x : MainRow) → InScope s scope x → same_scope x y ≡ false) _ (λ y later x of_scope. next_scope_id s scope x y of_scope later)
      (past_scope cells_of (n + length (x ∷ xs)) r s _ rising)) in
      let rest = ih (n + length (x ∷ xs)) (suc s) (reads_after numbered cells_of item n (x ∷ xs) _ reads) agrees.1 in
      let items = items_back n r s resource scope (x ∷ xs) (reads_front numbered cells_of item n (x ∷ xs) _ reads) in
      rw here (ap (λ rows. map (scope_group scopes item) (runs same_scope rows)) rows ∙ ap (map (scope_group scopes item)) cut
      ∙ (λ i. record { scope = scope_back scope (scopes (Some s)) agrees.0 i; items = items i } ∷ rest i))

  scopes_back : (n r s : ℕ) (resource : Resource) (groups : List (ScopeGroup I))
      → ReadsEach numbered cells_of item n (flat_map (λ (group : ScopeGroup I). group.items) groups)
      → Agree scopes s (map (λ (group : ScopeGroup I). group.scope.pairs) (filter has_items groups))
      → map (scope_group scopes item) (runs same_scope (numbered_rows cells_of n (flat_scopes r s resource groups))) ≡ filter has_items groups
  unfolding runs
  scopes_back n r s resource [] reads agree = refl
  scopes_back n r s resource (group ∷ groups) reads agree =
      one_scope n r s resource group.scope group.items groups reads agree (λ n s reads agree. scopes_back n r s resource groups reads agree)

  -- a group in which no scope group has items
  skipped : (group : ResourceGroup I) (groups : List (ResourceGroup I)) → filter has_items group.scopes ≡ [] → groups_with_items (group ∷ groups) ≡ groups_with_items groups
  skipped group groups none =
      let here : nat_lt 0 (length (filter has_items group.scopes)) ≡ false = ap (λ (ks : List (ScopeGroup I)). nat_lt 0 (length ks)) none in
      rw here refl

  kept : (group : ResourceGroup I) (groups : List (ResourceGroup I)) → nat_lt 0 (length (filter has_items group.scopes)) ≡ true
      → groups_with_items (group ∷ groups) ≡ trimmed group ∷ groups_with_items groups
  kept group groups some = rw some refl

  abbrev resource_pairs : List (ResourceGroup I) → List (List Pair)
  resource_pairs groups = map (λ (group : ResourceGroup I). group.resource.pairs) groups

  abbrev scope_pairs : List (ScopeGroup I) → List (List Pair)
  scope_pairs groups = map (λ (group : ScopeGroup I). group.scope.pairs) groups

  abbrev all_scopes : List (ResourceGroup I) → List (ScopeGroup I)
  all_scopes groups = flat_map (λ (group : ResourceGroup I). group.scopes) groups

  abbrev Back : List (ResourceGroup I) → ℕ → ℕ → ℕ → Type 0
  Back groups n r s = ReadsEach numbered cells_of item n (items_of groups) → Agree resources r (resource_pairs (groups_with_items groups))
      → Agree scopes s (scope_pairs (all_scopes (groups_with_items groups)))
      → map (resource_group resources scopes item) (runs same_resource (numbered_rows cells_of n (flat_groups r s groups))) ≡ groups_with_items groups

  one_group : (n r s : ℕ) (group : ResourceGroup I) (groups : List (ResourceGroup I)) (fs : List (FlatIn I)) → flat_scopes r s group.resource group.scopes ≡ fs
      → ReadsEach numbered cells_of item n (flat_map (λ (scope : ScopeGroup I). scope.items) group.scopes ++ items_of groups)
      → Agree resources r (resource_pairs (groups_with_items (group ∷ groups)))
      → Agree scopes s (scope_pairs (all_scopes (groups_with_items (group ∷ groups))))
      → ((n r s : ℕ) → Back groups n r s)
      → map (resource_group resources scopes item) (runs same_resource (numbered_rows cells_of n (fs ++ flat_groups (past r fs) (scopes_past s group.scopes) groups)))
      ≡ groups_with_items (group ∷ groups)
  unfolding resource_group
  one_group n r s group groups [] is reads of_resources of_scopes ih =
      let none = none_kept r s group.resource group.scopes (ap length is) in
      let same = skipped group groups none in
      let few : length (filter has_items group.scopes) ≡ 0 = ap length none in
      let at : scopes_past s group.scopes ≡ s = let e = scopes_past_kept s group.scopes in omega (arith, e, few) in
      let size : length (flat_map (λ (scope : ScopeGroup I). scope.items) group.scopes) ≡ 0 = sym (length_flat_scopes r s group.resource group.scopes) ∙ ap length is in
      let place : n + length (flat_map (λ (scope : ScopeGroup I). scope.items) group.scopes) ≡ n = omega (arith, size) in
      ap (λ t. map (resource_group resources scopes item) (runs same_resource (numbered_rows cells_of n (flat_groups r t groups)))) at
      ∙ ih n r s (subst (λ m. ReadsEach numbered cells_of item m (items_of groups)) place (reads_after numbered cells_of item n _ (items_of groups) reads))
      (subst (λ gs. Agree resources r (resource_pairs gs)) same of_resources) (subst (λ gs. Agree scopes s (scope_pairs (all_scopes gs))) same of_scopes)
      ∙ sym same
  one_group n r s group groups (f ∷ fs) is reads of_resources of_scopes ih =
      let some = some_kept r s group.resource group.scopes (subst (λ (fs : List (FlatIn I)). 0 < length fs) (sym is) (omega arith)) in
      let same = kept group groups some in
      let size : length (f ∷ fs) ≡ length (flat_map (λ (scope : ScopeGroup I). scope.items) group.scopes) = sym (ap length is) ∙ length_flat_scopes r s group.resource group.scopes in
      let place : n + length (flat_map (λ (scope : ScopeGroup I). scope.items) group.scopes) ≡ n + length (f ∷ fs) = omega (arith, size) in
      let resources_here : Agree resources r (group.resource.pairs ∷ resource_pairs (groups_with_items groups)) = subst (λ gs. Agree resources r (resource_pairs gs)) same of_resources in
      let scopes_here : Agree scopes s (scope_pairs (filter has_items group.scopes) ++ scope_pairs (all_scopes (groups_with_items groups))) =
      subst (λ ps. Agree scopes s ps) (map-append (λ (group : ScopeGroup I). group.scope.pairs) (filter has_items group.scopes) (all_scopes (groups_with_items groups)))
      (subst (λ gs. Agree scopes s (scope_pairs (all_scopes gs))) same of_scopes) in
      let at : s + length (scope_pairs (filter has_items group.scopes)) ≡ scopes_past s group.scopes =
      ap (λ m. s + m) (length-map (filter has_items group.scopes) (λ (group : ScopeGroup I). group.scope.pairs)) ∙ sym (scopes_past_kept s group.scopes) in
      let inside : AllByRecursion (InResource r group.resource) (numbered_rows cells_of n (f ∷ fs)) =
      subst (λ fs. AllByRecursion (InResource r group.resource) (numbered_rows cells_of n fs)) is (in_resource cells_of n r s group.resource group.scopes) in
      let scopes_are : map (scope_group scopes item) (runs same_scope (numbered_rows cells_of n (f ∷ fs))) ≡ filter has_items group.scopes =
      subst (λ fs. map (scope_group scopes item) (runs same_scope (numbered_rows cells_of n fs)) ≡ filter has_items group.scopes) is
      (scopes_back n r s group.resource group.scopes (reads_front numbered cells_of item n _ (items_of groups) reads) (agree_front scopes s _ _ scopes_here)) in
      let cut = block same_resource (InResource r group.resource) (one_resource_id r group.resource) (numbered_row cells_of n f) (numbered_rows cells_of (suc n) fs)
      (numbered_rows cells_of (n + length (f ∷ fs)) (flat_groups (suc r) (scopes_past s group.scopes) groups)) inside
      (first_from (PastResource r) (λ y. (x : MainRow) → InResource r group.resource x → same_resource x y ≡ false) _
      (λ y later x of_resource. next_resource_id r group.resource x y of_resource later)
      (past_resource cells_of (n + length (f ∷ fs)) r (scopes_past s group.scopes) _ (rising_groups (suc r) (scopes_past s group.scopes) groups))) in
      let rest = ih (n + length (f ∷ fs)) (suc r) (scopes_past s group.scopes)
      (subst (λ m. ReadsEach numbered cells_of item m (items_of groups)) place (reads_after numbered cells_of item n _ (items_of groups) reads))
      resources_here.1 (subst (λ m. Agree scopes m (scope_pairs (all_scopes (groups_with_items groups)))) at (agree_after scopes s _ _ scopes_here)) in
      let resource : resource_at resources (numbered_row cells_of n f) ≡ group.resource =
      (λ i. resource_of (inside.0.1 i) (resources (inside.0.0 i))) ∙ resource_back group.resource (resources (Some r)) resources_here.0 in
      ap (λ rows. map (resource_group resources scopes item) (runs same_resource rows)) (numbered_append cells_of n (f ∷ fs) (flat_groups (suc r) (scopes_past s group.scopes) groups))
      ∙ ap (map (resource_group resources scopes item)) cut
      ∙ (λ i. record { resource = resource i; scopes = scopes_are i } ∷ rest i)
      ∙ sym same

  groups_from : (n r s : ℕ) (groups : List (ResourceGroup I)) → Back groups n r s
  unfolding runs
  groups_from n r s [] reads of_resources of_scopes = refl
  groups_from n r s (group ∷ groups) reads of_resources of_scopes =
      one_group n r s group groups (flat_scopes r s group.resource group.scopes) refl reads of_resources of_scopes (λ n r s. groups_from n r s groups)

  map_map : {A B C : Type 0} (f : B → C) (g : A → B) (xs : List A) → map f (map g xs) ≡ map (λ x. f (g x)) xs
  map_map f g [] = refl
  map_map f g (x ∷ xs) = ap (λ ys. f (g x) ∷ ys) (map_map f g xs)

  pub groups_back : (groups : List (ResourceGroup I)) → ReadsEach numbered cells_of item 0 (items_of groups)
      → Agree resources 0 (map (λ (resource : Resource). resource.pairs) (resources_of groups))
      → Agree scopes 0 (map (λ (scope : Scope). scope.pairs) (scopes_of groups))
      → regrouped resources scopes item (numbered_rows cells_of 0 (flat_items groups)) ≡ groups_with_items groups
  unfolding regrouped flat_items
  groups_back groups reads of_resources of_scopes =
      groups_from 0 0 0 groups reads
      (subst (λ ps. Agree resources 0 ps) (map_map (λ (resource : Resource). resource.pairs) (λ (group : ResourceGroup I). group.resource) (groups_with_items groups)) of_resources)
      (subst (λ ps. Agree scopes 0 ps) (map_map (λ (scope : Scope). scope.pairs) (λ (group : ScopeGroup I). group.scope) (all_scopes (groups_with_items groups))) of_scopes)
