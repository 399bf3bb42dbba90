use Rattle.std.proofs.Common.{◌≤◌, ◌^◌, min, take}
use Rattle.otap_cells.specs.Sets.{tables_in}
use Rattle.otap_cells.specs.Weights.{weight_of_tables}
use Rattle.otap_cells.proofs.weight.is_light.Given as goal

abbrev pub invariant-tables : goal.invariant-tables
invariant-tables g l = min (weight_of_tables (tables_in g.R.Rows.table (take l.rows-index l.rows-items))) (2 ^ 63) ≤ l.total
