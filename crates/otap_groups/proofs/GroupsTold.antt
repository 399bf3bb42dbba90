-- The groups of rows say the same, in whatever order the pairs of a parent are found.
use Rattle.std.proofs.Common.{ℕ, List, Option, map, subst}
use Rattle.otlp_model.specs.Same.{SameItem, SameOften, SameTelemetry}
use Rattle.otlp_model.specs.Telemetry.{Item, item_entries, groups_with_items, told_as}
use Rattle.otlp_model.specs.declared.groups.Resource.{Resource}
use Rattle.otlp_model.specs.declared.groups.Scope.{Scope}
use Rattle.otlp_model.specs.declared.groups.ResourceGroup.{ResourceGroup}
use Rattle.otlp_model.specs.declared.value.Pair.{Pair}
use Rattle.otap_cells.specs.Cells.{Cell}
use Rattle.otap_groups.specs.Children.{Agree, ReadsEach, numbered}
use Rattle.otap_groups.specs.Flat.{flat_items, items_of, numbered_rows, resources_of, scopes_of}
use Rattle.otap_groups.specs.Groups.{regrouped}
use Rattle.otap_groups.proofs.AlikeLaws.{alike_regrouped, alike_told}
use Rattle.otap_groups.proofs.Grouping.{groups_back}

pub groups_told : {I : Type 0} (kind : I → Item) (cells_of : I → List Cell) (resources found_resources scopes found_scopes : Option ℕ → List Pair)
    (item found_item : Option ℕ → List Cell → I) (groups : List (ResourceGroup I))
    → ReadsEach numbered cells_of item 0 (items_of groups)
    → Agree resources 0 (map (λ (resource : Resource). resource.pairs) (resources_of groups))
    → Agree scopes 0 (map (λ (scope : Scope). scope.pairs) (scopes_of groups))
    → ((id : Option ℕ) → SameOften (resources id) (found_resources id)) → ((id : Option ℕ) → SameOften (scopes id) (found_scopes id))
    → ((id : Option ℕ) (cells : List Cell) → SameItem (kind (item id cells)) (kind (found_item id cells)))
    → SameTelemetry (map (told_as kind) (item_entries (groups_with_items groups)))
    (map (told_as kind) (item_entries (regrouped found_resources found_scopes found_item (numbered_rows cells_of 0 (flat_items groups)))))
groups_told {I} kind cells_of d d' e e' item item' groups reads of_resources of_scopes resources scopes items =
    subst (λ (gs : List (ResourceGroup I)). SameTelemetry (map (told_as kind) (item_entries gs)) (map (told_as kind) (item_entries (regrouped d' e' item' (numbered_rows cells_of 0 (flat_items groups))))))
    (groups_back cells_of d e item groups reads of_resources of_scopes)
    (alike_told (λ a b. SameItem (kind a) (kind b)) kind (λ a b same. same) _ _
    (alike_regrouped (λ a b. SameItem (kind a) (kind b)) d d' e e' item item' resources scopes items (numbered_rows cells_of 0 (flat_items groups))))
