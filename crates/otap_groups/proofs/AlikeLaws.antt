-- Requests that are found in two ways say the same where the ways are alike.
use Rattle.std.proofs.Common.{ℕ, List, [], ◌∷◌, Option, None, Some, map, refl}
use Rattle.std.specs.Prelude.{filter}
use Rattle.std.specs.List.{AllZip, flat_map}
use Rattle.lists.proofs.Zipped.{zipped_append}
use Rattle.otlp_model.specs.Same.{SameEntry, SameItem, SameOften, SameResource, SameScope}
use Rattle.otlp_model.proofs.Often.{same_often_from}
use Rattle.otlp_model.specs.Telemetry.{ItemEntry, Item, item_entries, entries_of_scope_group, item_entry, told_as}
use Rattle.otlp_model.specs.declared.value.Pair.{Pair}
use Rattle.otlp_model.specs.declared.groups.Resource.{Resource}
use Rattle.otlp_model.specs.declared.groups.Scope.{Scope}
use Rattle.otap_cells.specs.Cells.{Cell}
use Rattle.otap_groups.specs.Rows.{ChildRow, MainRow, is_child_of, same_resource, same_scope}
use Rattle.otap_groups.specs.Runs.{runs}
use Rattle.otap_groups.specs.Children.{child_of_row, children}
use Rattle.otap_groups.specs.Groups.{item_of_row, regrouped, resource_group, resource_of_run, scope_group, scope_of_run}

-- children whose parts are alike are alike one by one
module _ {C D : Type 0} (R : C → D → Type 0) (item : Option ℕ → List Cell → C) (other : Option ℕ → List Cell → D)
    (alike : (id : Option ℕ) (cells : List Cell) → R (item id cells) (other id cells)) where
  alike_rows : (rows : List ChildRow) → AllZip R (map (child_of_row item) rows) (map (child_of_row other) rows)
  alike_rows [] = tt
  alike_rows (row ∷ rows) = (alike row.id row.cells, alike_rows rows)

  pub alike_children : (rows : List ChildRow) (parent : Option ℕ) → AllZip R (children item rows parent) (children other rows parent)
  alike_children rows None = tt
  alike_children rows (Some parent) = alike_rows (filter (is_child_of parent) rows)

-- groups whose items, and whose pairs of resources and scopes, are alike
module _ {I : Type 0} (SameOne : I → I → Type 0) (d d' e e' : Option ℕ → List Pair) (item item' : Option ℕ → List Cell → I)
    (resources : (id : Option ℕ) → SameOften (d id) (d' id)) (scopes : (id : Option ℕ) → SameOften (e id) (e' id))
    (items : (id : Option ℕ) (cells : List Cell) → SameOne (item id cells) (item' id cells)) where
  alike_resource : (rows : List MainRow) → SameResource (resource_of_run d rows) (resource_of_run d' rows)
  alike_resource [] = record { scalars = refl; pairs = same_often_from [] [] (λ pair. refl) }
  alike_resource (row ∷ rows) = record { scalars = refl; pairs = resources row.resource_id }

  alike_scope : (rows : List MainRow) → SameScope (scope_of_run e rows) (scope_of_run e' rows)
  alike_scope [] = record { scalars = refl; pairs = same_often_from [] [] (λ pair. refl) }
  alike_scope (row ∷ rows) = record { scalars = refl; pairs = scopes row.scope_id }

  alike_items : (a a' : Resource) (b b' : Scope) → SameResource a a' → SameScope b b' → (rows : List MainRow)
      → AllZip (SameEntry SameOne) (map (item_entry a b) (map (item_of_row item) rows)) (map (item_entry a' b') (map (item_of_row item') rows))
  alike_items a a' b b' same_a same_b [] = tt
  alike_items a a' b b' same_a same_b (row ∷ rows) =
      (record { resource = same_a; scope = same_b; item = items row.id row.own }, alike_items a a' b b' same_a same_b rows)

  alike_scopes : (a a' : Resource) → SameResource a a' → (cuts : List (List MainRow))
      → AllZip (SameEntry SameOne) (flat_map (entries_of_scope_group a) (map (scope_group e item) cuts)) (flat_map (entries_of_scope_group a') (map (scope_group e' item') cuts))
  alike_scopes a a' same_a [] = tt
  alike_scopes a a' same_a (rows ∷ cuts) =
      zipped_append (SameEntry SameOne) _ _ _ _ (alike_items a a' (scope_of_run e rows) (scope_of_run e' rows) same_a (alike_scope rows) rows) (alike_scopes a a' same_a cuts)

  alike_groups : (cuts : List (List MainRow))
      → AllZip (SameEntry SameOne) (item_entries (map (resource_group d e item) cuts)) (item_entries (map (resource_group d' e' item') cuts))
  unfolding resource_group
  alike_groups [] = tt
  alike_groups (rows ∷ cuts) =
      zipped_append (SameEntry SameOne) _ _ _ _ (alike_scopes (resource_of_run d rows) (resource_of_run d' rows) (alike_resource rows) (runs same_scope rows)) (alike_groups cuts)

  pub alike_regrouped : (rows : List MainRow) → AllZip (SameEntry SameOne) (item_entries (regrouped d e item rows)) (item_entries (regrouped d' e' item' rows))
  unfolding regrouped
  alike_regrouped rows = alike_groups (runs same_resource rows)

-- entries that are alike say the same
pub alike_told : {I : Type 0} (SameOne : I → I → Type 0) (kind : I → Item) → ((a b : I) → SameOne a b → SameItem (kind a) (kind b)) → (xs ys : List (ItemEntry I))
    → AllZip (SameEntry SameOne) xs ys → AllZip (SameEntry SameItem) (map (told_as kind) xs) (map (told_as kind) ys)
alike_told SameOne kind same [] [] alike = tt
alike_told SameOne kind same [] (y ∷ ys) alike = absurd alike
alike_told SameOne kind same (x ∷ xs) [] alike = absurd alike
alike_told SameOne kind same (x ∷ xs) (y ∷ ys) alike =
    (record { resource = alike.0.resource; scope = alike.0.scope; item = same x.item y.item alike.0.item }, alike_told SameOne kind same xs ys alike.1)
