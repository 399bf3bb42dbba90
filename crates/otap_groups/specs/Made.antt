-- What main rows make, with the reader of their items and the lookups of their pairs: the request, and its parts by the places of rows.
use Rattle.std.specs.Prelude.{ℕ, List, map}
use Rattle.otlp_model.specs.Limits.{part_weight}
use Rattle.otlp_model.specs.Weight.{total}
use Rattle.otlp_model.specs.declared.value.Pair.{Pair}
use Rattle.otlp_model.specs.declared.groups.Resource.{Resource}
use Rattle.otlp_model.specs.declared.groups.Scope.{Scope}
use Rattle.otlp_model.specs.declared.groups.ScopeGroup.{ScopeGroup}
use Rattle.otlp_model.specs.declared.groups.ResourceGroup.{ResourceGroup}
use Rattle.otap_cells.specs.declared.rows.Rows as tables
use Rattle.otap_groups.specs.declared.groups.Main.{Main}
use Rattle.otap_groups.specs.declared.reading.Lookup as lookups
use Rattle.otap_groups.specs.declared.reading.RowReader as readers
use Rattle.otap_groups.specs.Groups.{item_of_row, regrouped, resource_at, resource_group, scope_at, scope_group}
use Rattle.otap_groups.specs.Inside.{rows_between}
use Rattle.otap_groups.specs.Rows.{row_at, same_scope}
use Rattle.otap_groups.specs.Runs.{runs}
use Rattle.otap_groups.specs.Weighing.{weigh_resource_group}

module _ {R S P I : Type 0} {table : tables.Ghosts R} {reader : readers.Ghosts S I} {lookup : lookups.Ghosts P Pair}
    (main : Main R S P I table reader lookup) where
  -- THE REQUEST of main rows
  abbrev pub groups_of : List (ResourceGroup I)
  groups_of = regrouped (lookup.finds main.resources) (lookup.finds main.scopes) (reader.item main.items) main.front

  -- its tree weight, with the weight of a part for each group
  abbrev pub groups_weight : ℕ
  groups_weight = total part_weight (weigh_resource_group lookup.weigh lookup.weigh reader.weigh) groups_of

  -- ---- of the rows from a place up to another

  abbrev pub group_of : ℕ → ℕ → ResourceGroup I
  group_of from to = resource_group (lookup.finds main.resources) (lookup.finds main.scopes) (reader.item main.items) (rows_between main.front from to)

  abbrev pub scope_groups_of : ℕ → ℕ → List (ScopeGroup I)
  scope_groups_of from to = map (scope_group (lookup.finds main.scopes) (reader.item main.items)) (runs same_scope (rows_between main.front from to))

  abbrev pub scope_group_of : ℕ → ℕ → ScopeGroup I
  scope_group_of from to = scope_group (lookup.finds main.scopes) (reader.item main.items) (rows_between main.front from to)

  abbrev pub items_between : ℕ → ℕ → List I
  items_between from to = map (item_of_row (reader.item main.items)) (rows_between main.front from to)

  -- ---- of the row at a place

  abbrev pub resource_of_row : ℕ → Resource
  resource_of_row place = resource_at (lookup.finds main.resources) (row_at main.front place)

  abbrev pub scope_of_row : ℕ → Scope
  scope_of_row place = scope_at (lookup.finds main.scopes) (row_at main.front place)
