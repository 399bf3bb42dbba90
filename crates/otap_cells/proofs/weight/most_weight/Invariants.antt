use Rattle.std.proofs.Common.{◌≤◌, ◌+◌, ◌*◌, ◌^◌, min, map, length}
use Rattle.std.specs.List.{range_with_len}
use Rattle.otap_cells.specs.Tables.{column_in}
use Rattle.otap_cells.proofs.Adding.{column_weights}
use Rattle.otap_cells.proofs.weight.most_weight.Given as goal

abbrev pub invariant-columns : goal.invariant-columns
invariant-columns g l =
    min (32 * length (g.R.Rows.table l.rows).rows + column_weights (map (column_in (g.R.Rows.table l.rows).rows) (range_with_len 0 l.column))) (2 ^ 63) ≤ l.total
