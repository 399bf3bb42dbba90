use Rattle.std.proofs.Common.{◌≡◌, ◌^◌, min, take}
use Rattle.std.specs.Prelude.{sum_by}
use Rattle.otap_cells.specs.Tables.{column_in}
use Rattle.otap_cells.specs.Weights.{cell_weight}
use Rattle.otap_cells.proofs.weight.column_weight.Given as goal

abbrev pub invariant-rows : goal.invariant-rows
invariant-rows g l = l.total ≡ min (sum_by cell_weight (take l.row (column_in (g.R.Rows.table l.rows).rows l.column))) (2 ^ 63)
