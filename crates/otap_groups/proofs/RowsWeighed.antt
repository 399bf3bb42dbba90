-- What the rows of a request weigh.
use Rattle.std.proofs.Common.{◌≡◌, ℕ, suc, ◌+◌, ◌-◌, Bool, true, false, List, [], ◌∷◌, Option, None, Some, length, map, drop, refl, sym, ◌∙◌, ap, inl, inr, arith}
use Rattle.std.specs.Prelude.{◌⊎◌, filter, nat_lt, sum_by}
use Rattle.std.specs.List.{slice_index_or}
use Rattle.std.proofs.lemmas.Bool.{cases_Bool, false≢true}
use Rattle.std.proofs.lemmas.List.Sums.{sum_by-cons, sum_by-append}
use Rattle.lists.proofs.Truths.{positive}
use Rattle.otlp_model.specs.Telemetry.{trimmed, groups_with_items}
use Rattle.otlp_model.specs.declared.groups.Resource.{Resource}
use Rattle.otlp_model.specs.declared.groups.Scope.{Scope}
use Rattle.otlp_model.specs.declared.groups.ScopeGroup.{ScopeGroup}
use Rattle.otlp_model.specs.declared.groups.ResourceGroup.{ResourceGroup}
use Rattle.otap_cells.specs.declared.payload.Kind.{Kind}
use Rattle.otap_cells.specs.declared.profile.Coding.{Coding}
use Rattle.otap_cells.specs.Cells.{Cell, null}
use Rattle.otap_cells.specs.Scalars.{text_cell, number_cell}
use Rattle.otap_cells.specs.Columns.{coding_at}
use Rattle.otap_cells.specs.Continuing.{again_of}
use Rattle.otap_cells.specs.Weights.{cell_weight, weight_of_row, weight_of_table}
use Rattle.otap_groups.specs.Flat.{FlatIn, PlacedIn, flat_items, flat_at, flat_groups, flat_scopes, past, placed, placed_at, placed_from, scopes_past}
use Rattle.otap_groups.specs.Stored.{id_cell, main_table, part_table, stored_part, stored_parts, stored_row, stored_rows}
use Rattle.otap_groups.specs.Weighing.{cells_weight, front_weight, parts_weight, rows_of_groups, rows_of_resource, rows_of_scope}
use Rattle.otap_cells.proofs.ScalarLaws.{text_weighs, number_weighs}

seven : (a b c d e f g h i : Cell) (cells : List Cell)
    → cells_weight (a ∷ b ∷ c ∷ d ∷ e ∷ f ∷ g ∷ h ∷ i ∷ cells)
    ≡ cell_weight a + cell_weight b + cell_weight c + cell_weight d + cell_weight e + cell_weight f + cell_weight g + cell_weight h + cell_weight i + cells_weight cells
seven a b c d e f g h i cells =
    let w9 = sum_by-cons cell_weight i cells in
    let w8 = sum_by-cons cell_weight h (i ∷ cells) in
    let w7 = sum_by-cons cell_weight g (h ∷ i ∷ cells) in
    let w6 = sum_by-cons cell_weight f (g ∷ h ∷ i ∷ cells) in
    let w5 = sum_by-cons cell_weight e (f ∷ g ∷ h ∷ i ∷ cells) in
    let w4 = sum_by-cons cell_weight d (e ∷ f ∷ g ∷ h ∷ i ∷ cells) in
    let w3 = sum_by-cons cell_weight c (d ∷ e ∷ f ∷ g ∷ h ∷ i ∷ cells) in
    let w2 = sum_by-cons cell_weight b (c ∷ d ∷ e ∷ f ∷ g ∷ h ∷ i ∷ cells) in
    let w1 = sum_by-cons cell_weight a (b ∷ c ∷ d ∷ e ∷ f ∷ g ∷ h ∷ i ∷ cells) in
    omega (arith, w1, w2, w3, w4, w5, w6, w7, w8, w9)

module _ {I : Type 0} (cells_of : I → List Cell) where
  one_row : (step r s : ℕ) (f : FlatIn I) → weight_of_row (stored_row cells_of step r s f) ≡ front_weight f.resource f.scope + cells_weight (cells_of f.item)
  one_row step r s f =
      let sum = seven (id_cell step) (id_cell (f.resource_id - r)) (text_cell f.resource.schema_url) (number_cell f.resource.dropped) (id_cell (f.scope_id - s))
      (text_cell f.scope.name) (text_cell f.scope.version) (number_cell f.scope.dropped) (text_cell f.scope.schema_url) (cells_of f.item) in
      let a = text_weighs f.resource.schema_url in
      let b = number_weighs f.resource.dropped in
      let c = text_weighs f.scope.name in
      let d = text_weighs f.scope.version in
      let e = number_weighs f.scope.dropped in
      let g = text_weighs f.scope.schema_url in
      omega (arith, sum, a, b, c, d, e, g)

  abbrev weigh : FlatIn I → ℕ
  weigh f = front_weight f.resource f.scope + cells_weight (cells_of f.item)

  all_rows : (step r s : ℕ) (fs : List (FlatIn I)) → sum_by weight_of_row (stored_rows cells_of step r s fs) ≡ sum_by weigh fs
  all_rows step r s [] = refl
  all_rows step r s (f ∷ fs) =
      let a = sum_by-cons weight_of_row (stored_row cells_of step r s f) (stored_rows cells_of 1 f.resource_id f.scope_id fs) in
      let b = sum_by-cons weigh f fs in
      let c = one_row step r s f in
      let d = all_rows 1 f.resource_id f.scope_id fs in
      omega (arith, a, b, c, d)

  one_scope : (r s : ℕ) (resource : Resource) (scope : Scope) (items : List I)
      → sum_by weigh (map (flat_at r s resource scope) items) ≡ sum_by (λ item. front_weight resource scope + cells_weight (cells_of item)) items
  one_scope r s resource scope [] = refl
  one_scope r s resource scope (item ∷ items) =
      let a = sum_by-cons weigh (flat_at r s resource scope item) (map (flat_at r s resource scope) items) in
      let b = sum_by-cons (λ item. front_weight resource scope + cells_weight (cells_of item)) item items in
      let c = one_scope r s resource scope items in
      omega (arith, a, b, c)

  abbrev own : I → ℕ
  own item = cells_weight (cells_of item)

  scopes_weigh : (r s : ℕ) (resource : Resource) (groups : List (ScopeGroup I))
      → sum_by weigh (flat_scopes r s resource groups) ≡ sum_by (rows_of_scope (λ scope. 0) own resource) (filter (λ (group : ScopeGroup I). nat_lt 0 (length group.items)) groups)
  scopes_weigh r s resource [] = refl
  scopes_weigh r s resource (group ∷ groups) = by group.scope group.items (λ s. scopes_weigh r s resource groups) where
    by : (scope : Scope) (items : List I)
        → ((s : ℕ) → sum_by weigh (flat_scopes r s resource groups) ≡ sum_by (rows_of_scope (λ scope. 0) own resource) (filter (λ (group : ScopeGroup I). nat_lt 0 (length group.items)) groups))
        → sum_by weigh (flat_scopes r s resource (record { scope = scope; items = items } ∷ groups))
        ≡ sum_by (rows_of_scope (λ scope. 0) own resource) (filter (λ (group : ScopeGroup I). nat_lt 0 (length group.items)) (record { scope = scope; items = items } ∷ groups))
    by scope [] ih = ih s
    by scope (x ∷ xs) ih =
        let some : nat_lt 0 (length (x ∷ xs)) ≡ true = positive (length xs) in
        let a = sum_by-append weigh (map (flat_at r s resource scope) (x ∷ xs)) (flat_scopes r (suc s) resource groups) in
        let b = one_scope r s resource scope (x ∷ xs) in
        let c = ih (suc s) in
        let d = sum_by-cons (rows_of_scope (λ scope. 0) own resource) (record { scope = scope; items = x ∷ xs })
        (filter (λ (group : ScopeGroup I). nat_lt 0 (length group.items)) groups) in
        rw some (omega (arith, a, b, c, d))

  none_left : (r s : ℕ) (resource : Resource) (groups : List (ScopeGroup I)) → nat_lt 0 (length (filter (λ (group : ScopeGroup I). nat_lt 0 (length group.items)) groups)) ≡ false
      → sum_by weigh (flat_scopes r s resource groups) ≡ 0
  none_left r s resource groups none = scopes_weigh r s resource groups ∙ ap (sum_by (rows_of_scope (λ scope. 0) own resource)) (empty _ none) where
    empty : (gs : List (ScopeGroup I)) → nat_lt 0 (length gs) ≡ false → gs ≡ []
    empty [] h = refl
    empty (g ∷ gs) h = absurd (false≢true (sym h ∙ positive (length gs)))

  groups_weigh : (r s : ℕ) (groups : List (ResourceGroup I))
      → sum_by weigh (flat_groups r s groups) ≡ sum_by (rows_of_resource (λ resource. 0) (λ scope. 0) own) (groups_with_items groups)
  groups_weigh r s [] = refl
  groups_weigh r s (group ∷ groups) =
      by (cases_Bool (nat_lt 0 (length (filter (λ (group : ScopeGroup I). nat_lt 0 (length group.items)) group.scopes))))
      (groups_weigh (past r (flat_scopes r s group.resource group.scopes)) (scopes_past s group.scopes) groups)
      (sum_by-append weigh (flat_scopes r s group.resource group.scopes) (flat_groups (past r (flat_scopes r s group.resource group.scopes)) (scopes_past s group.scopes) groups)) where
        by : ((nat_lt 0 (length (filter (λ (group : ScopeGroup I). nat_lt 0 (length group.items)) group.scopes)) ≡ true)
            ⊎ (nat_lt 0 (length (filter (λ (group : ScopeGroup I). nat_lt 0 (length group.items)) group.scopes)) ≡ false))
            → sum_by weigh (flat_groups (past r (flat_scopes r s group.resource group.scopes)) (scopes_past s group.scopes) groups)
            ≡ sum_by (rows_of_resource (λ resource. 0) (λ scope. 0) own) (groups_with_items groups)
            → sum_by weigh (flat_groups r s (group ∷ groups))
            ≡ sum_by weigh (flat_scopes r s group.resource group.scopes)
            + sum_by weigh (flat_groups (past r (flat_scopes r s group.resource group.scopes)) (scopes_past s group.scopes) groups)
            → sum_by weigh (flat_groups r s (group ∷ groups)) ≡ sum_by (rows_of_resource (λ resource. 0) (λ scope. 0) own) (groups_with_items (group ∷ groups))
        by (inl some) ih split =
            let a = scopes_weigh r s group.resource group.scopes in
            let b = sum_by-cons (rows_of_resource (λ resource. 0) (λ scope. 0) own) (trimmed group) (groups_with_items groups) in
            rw some (omega (arith, split, a, b, ih))
        by (inr none) ih split =
            let a = none_left r s group.resource group.scopes none in
            rw none (omega (arith, split, a, ih))

  pub main_weighs : (kind : Kind) (groups : List (ResourceGroup I)) → weight_of_table (main_table kind cells_of groups) ≡ rows_of_groups (λ resource. 0) (λ scope. 0) own groups
  unfolding main_table flat_items rows_of_groups
  main_weighs kind groups = all_rows 0 0 0 (flat_groups 0 0 groups) ∙ groups_weigh 0 0 groups

module _ {C : Type 0} (how : Coding) (test : List Cell → List Cell → Bool) (cells_of : C → List Cell) where
  abbrev part_weight : C → ℕ
  part_weight part = 32 + cells_weight (cells_of part)

  stored_weighs : (step parent : ℕ) (before : Option (List Cell)) (ps : List (PlacedIn C))
      → sum_by weight_of_row (stored_parts how test cells_of step parent before ps) ≡ sum_by (λ (p : PlacedIn C). part_weight p.part) ps
  stored_weighs step parent before [] = refl
  stored_weighs step parent before (p ∷ ps) =
      let a = sum_by-cons weight_of_row (stored_part how test cells_of step parent before p) (stored_parts how test cells_of 1 p.parent (Some (cells_of p.part)) ps) in
      let b = sum_by-cons (λ (p : PlacedIn C). part_weight p.part) p ps in
      let c = stored_weighs 1 p.parent (Some (cells_of p.part)) ps in
      let d = sum_by-cons cell_weight (id_cell step) (drop 1 (stored_part how test cells_of step parent before p)) in
      let e = sum_by-cons cell_weight (slice_index_or (stored_part how test cells_of step parent before p) 1 null) (cells_of p.part) in
      omega (arith, a, b, c, d, e)

  one_list : (k : ℕ) (parts : List C) → sum_by (λ (p : PlacedIn C). part_weight p.part) (map (placed_at k) parts) ≡ sum_by part_weight parts
  one_list k [] = refl
  one_list k (part ∷ parts) =
      let a = sum_by-cons (λ (p : PlacedIn C). part_weight p.part) (placed_at k part) (map (placed_at k) parts) in
      let b = sum_by-cons part_weight part parts in
      let c = one_list k parts in
      omega (arith, a, b, c)

  lists_weigh : (k : ℕ) (lists : List (List C)) → sum_by (λ (p : PlacedIn C). part_weight p.part) (placed_from k lists) ≡ sum_by (parts_weight cells_of) lists
  lists_weigh k [] = refl
  lists_weigh k (parts ∷ lists) =
      let a = sum_by-append (λ (p : PlacedIn C). part_weight p.part) (map (placed_at k) parts) (placed_from (suc k) lists) in
      let b = one_list k parts in
      let c = lists_weigh (suc k) lists in
      let d = sum_by-cons (parts_weight cells_of) parts lists in
      omega (arith, a, b, c, d)

pub parts_weigh : {C : Type 0} (kind : Kind) (cells_of : C → List Cell) (lists : List (List C))
    → weight_of_table (part_table kind cells_of lists) ≡ sum_by (parts_weight cells_of) lists
unfolding part_table placed
parts_weigh kind cells_of lists =
    stored_weighs (coding_at kind 1) (again_of kind) cells_of 0 0 None (placed_from 0 lists) ∙ lists_weigh (coding_at kind 1) (again_of kind) cells_of 0 lists
