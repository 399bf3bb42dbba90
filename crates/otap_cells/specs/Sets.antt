-- Sets of tables: what a batch holds.
use Rattle.std.specs.Prelude.{◌≡◌, Option, Some, None, if◌then◌else◌, nat_eq, List, [], ◌∷◌, map, All}
use Rattle.std.specs.List.{IsDistinct}
use Rattle.otap_cells.specs.declared.payload.Kind.{Kind}
use Rattle.otap_cells.specs.Payload.{number_of, is_kind}
use Rattle.otap_cells.specs.Cells.{Cell}
use Rattle.otap_cells.specs.Tables.{Table}

-- the first table of the kind
abbrev pub named : {R : Type 0} → Kind → List (Kind × R) → Option R
named kind [] = None
named kind (pair ∷ pairs) = if is_kind pair.0 kind then Some pair.1 else named kind pairs

-- each table is paired with its kind, and a kind occurs at most once
pub record IsSet {R : Type 0} (table : R → Table) (pairs : List (Kind × R)) : Type 0 where
  pub beside : All (λ pair. (table pair.1).kind ≡ pair.0) pairs
  pub once : IsDistinct nat_eq (map (λ pair. number_of pair.0) pairs)

-- the rows of a table, none where it is missing
abbrev pub rows_of : {R : Type 0} → (R → Table) → Option R → List (List Cell)
rows_of table None = []
rows_of table (Some rows) = (table rows).rows

-- the tables of a set
abbrev pub tables_in : {R : Type 0} → (R → Table) → List (Kind × R) → List Table
tables_in table pairs = map (λ pair. table pair.1) pairs

-- the rows of the table of the kind; a table that isn't there has none
abbrev pub rows_named : Kind → List Table → List (List Cell)
rows_named kind [] = []
rows_named kind (t ∷ ts) = if is_kind t.kind kind then t.rows else rows_named kind ts
