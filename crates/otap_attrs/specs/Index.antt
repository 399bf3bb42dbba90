-- The pairs of a parent in a table of attributes, and an index that finds them.
use Rattle.std.specs.Prelude.{◌≡◌, ℕ, true, List, [], Option, map, drop, min}
use Rattle.otlp_model.specs.Limits.{count_cap}
use Rattle.otlp_model.specs.Weight.{weight_of_pair}
use Rattle.otlp_model.specs.declared.value.Pair.{Pair}
use Rattle.otap_cells.specs.Cells.{Cell}
use Rattle.otap_cells.specs.Continuing.{has_attributes}
use Rattle.otap_cells.specs.GivenIds.{ids_in}
use Rattle.otap_cells.specs.Tables.{Table}
use Rattle.otap_cells.specs.Places.{attribute_parent, first_of_pair}
use Rattle.otap_groups.specs.declared.entry.ChildEntry.{ChildEntry}
use Rattle.otap_groups.specs.Children.{children}
use Rattle.otap_groups.specs.Found.{found}
use Rattle.otap_groups.specs.Rows.{ChildRow, child_rows}
use Rattle.otap_attrs.specs.Values.{pair_in}

-- the rows of attributes, with the parents that are read from their ids
abbrev pub attribute_rows_in : Table → List ChildRow
attribute_rows_in t = child_rows [] (ids_in t attribute_parent) (map (drop first_of_pair) t.rows)

-- THE PAIRS of a parent, in the order of their rows
abbrev pub pairs_in : Table → Option ℕ → List Pair
pairs_in t = children (λ id cells. pair_in cells) (attribute_rows_in t)

-- what an index keeps: the rows that name a parent, and of each row what its pair weighs
pub record IndexIn : Type 0 where
  pub entries : List ChildEntry
  pub weights : List ℕ

-- the tree weight of the pair of a row, or 2^63 where it is more
abbrev pub pair_weight_in : List Cell → ℕ
pair_weight_in row = min (weight_of_pair (pair_in (drop first_of_pair row))) count_cap

-- AN INDEX OF A TABLE of attributes: it finds the pairs of each parent
pub record IsIndexOf (t : Table) (index : IndexIn) : Type 0 where
  pub attributes : has_attributes t.kind ≡ true
  pub finds : (parent : Option ℕ) → found (λ id cells. pair_in cells) [] (map (drop first_of_pair) t.rows) index.entries parent ≡ pairs_in t parent
  pub weights : index.weights ≡ map pair_weight_in t.rows
