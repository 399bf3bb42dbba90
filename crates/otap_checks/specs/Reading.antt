-- The rows of tables, with the ids that their columns give, and what rests on them.
use Rattle.std.specs.Prelude.{◌≡◌, ℕ, true, List, [], Option, map, drop, ◌⊎◌}
use Rattle.otap_cells.specs.Columns.{is_id_at}
use Rattle.otap_cells.specs.GivenIds.{HasIds, ids_in}
use Rattle.otap_cells.specs.Tables.{Table}
use Rattle.otap_cells.specs.Places.{first_of_part, main_id, part_id, part_parent, resource_id, scope_id}
use Rattle.otap_groups.specs.Rows.{MainRow, ChildRow, main_rows, child_rows}
use Rattle.otap_groups.specs.Disagree.{DifferBy}

-- each column of ids has ids
abbrev pub HasAllIds : Table → Type 0
HasAllIds t = (column : ℕ) → is_id_at t.kind column ≡ true → (ids : List (Option ℕ)) × HasIds t column ids

-- the rows of a main table; of parts, with their ids and parents
abbrev pub main_rows_in : Table → List MainRow
main_rows_in t = main_rows (ids_in t main_id) (ids_in t resource_id) (ids_in t scope_id) t.rows

abbrev pub part_rows_in : Table → List ChildRow
part_rows_in t = child_rows (ids_in t part_id) (ids_in t part_parent) (map (drop first_of_part) t.rows)

-- rows of one resource id differ in another cell of `resource`
pub record ResourcesDiffer (t : Table) : Type 0 where
  pub ids : List (Option ℕ)
  pub are : HasIds t resource_id ids
  pub differ : DifferBy (λ row. row.resource_id) (λ row. row.resource) (main_rows [] ids [] t.rows)

-- rows of one scope id differ in another cell of `scope`
pub record ScopesDiffer (t : Table) : Type 0 where
  pub ids : List (Option ℕ)
  pub are : HasIds t scope_id ids
  pub differ : DifferBy (λ row. row.scope_id) (λ row. row.scope) (main_rows [] [] ids t.rows)

-- rows of one resource id, or of one scope id, differ
abbrev pub Disagrees : Table → Type 0
Disagrees t = ResourcesDiffer t ⊎ ScopesDiffer t
