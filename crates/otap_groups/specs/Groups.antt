-- The request that rows make: an item for each main row, in groups that are longest runs of rows whose cells of
-- `resource`, and of `scope` and `schema_url`, are equal.
use Rattle.std.specs.Prelude.{ℕ, List, [], ◌∷◌, Option, codes, map}
use Rattle.otlp_model.specs.declared.value.Pair.{Pair}
use Rattle.otlp_model.specs.declared.groups.Resource.{Resource}
use Rattle.otlp_model.specs.declared.groups.Scope.{Scope}
use Rattle.otlp_model.specs.declared.groups.ScopeGroup.{ScopeGroup}
use Rattle.otlp_model.specs.declared.groups.ResourceGroup.{ResourceGroup}
use Rattle.otap_cells.specs.ByName.{cell_of}
use Rattle.otap_cells.specs.Cells.{Cell, null, bytes_in, nat_in}
use Rattle.otap_cells.specs.Columns.{own_resources, own_scopes}
use Rattle.otap_groups.specs.Rows.{MainRow, same_resource, same_scope}
use Rattle.otap_groups.specs.Runs.{runs}

-- the resource that cells of `resource` and pairs make; null reads as the default
abbrev pub resource_of : List Cell → List Pair → Resource
resource_of cells pairs = record {
  schema_url = bytes_in (cell_of own_resources (codes "resource.schema_url") cells);
  dropped = nat_in (cell_of own_resources (codes "resource.dropped_attributes_count") cells);
  pairs = pairs;
}

-- the scope that cells of `scope`, the schema url beside it and pairs make
abbrev pub scope_of : List Cell → Cell → List Pair → Scope
scope_of cells url pairs = record {
  schema_url = bytes_in url;
  name = bytes_in (cell_of own_scopes (codes "scope.name") cells);
  version = bytes_in (cell_of own_scopes (codes "scope.version") cells);
  dropped = nat_in (cell_of own_scopes (codes "scope.dropped_attributes_count") cells);
  pairs = pairs;
}

-- the resource and the scope of a row, with the pairs that are found for its ids
abbrev pub resource_at : (Option ℕ → List Pair) → MainRow → Resource
resource_at pairs row = resource_of row.resource (pairs row.resource_id)

abbrev pub scope_at : (Option ℕ → List Pair) → MainRow → Scope
scope_at pairs row = scope_of row.scope row.schema_url (pairs row.scope_id)

-- what a run of rows comes from is what its first row comes from
abbrev pub resource_of_run : (Option ℕ → List Pair) → List MainRow → Resource
resource_of_run pairs [] = resource_of [] []
resource_of_run pairs (row ∷ rows) = resource_at pairs row

abbrev pub scope_of_run : (Option ℕ → List Pair) → List MainRow → Scope
scope_of_run pairs [] = scope_of [] null []
scope_of_run pairs (row ∷ rows) = scope_at pairs row

-- the item of a row, by its id, under which the tables below have its parts, and by its own cells
abbrev pub item_of_row : {I : Type 0} → (Option ℕ → List Cell → I) → MainRow → I
item_of_row item row = item row.id row.own

abbrev pub scope_group : {I : Type 0} → (Option ℕ → List Pair) → (Option ℕ → List Cell → I) → List MainRow → ScopeGroup I
scope_group scopes item rows = record { scope = scope_of_run scopes rows; items = map (item_of_row item) rows }

unfoldable pub resource_group : {I : Type 0} → (Option ℕ → List Pair) → (Option ℕ → List Pair) → (Option ℕ → List Cell → I) → List MainRow → ResourceGroup I
resource_group resources scopes item rows = record {
  resource = resource_of_run resources rows;
  scopes = map (scope_group scopes item) (runs same_scope rows);
}

-- THE GROUPS of main rows, where pairs of resources and of scopes and the items are found in these ways
unfoldable pub regrouped : {I : Type 0} → (Option ℕ → List Pair) → (Option ℕ → List Pair) → (Option ℕ → List Cell → I) → List MainRow → List (ResourceGroup I)
regrouped resources scopes item rows = map (resource_group resources scopes item) (runs same_resource rows)
