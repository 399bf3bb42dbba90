use Rattle.std.proofs.Common.{◌≡◌, take}
use Rattle.otap_cells.specs.ColumnIds.{stored_in}
use Rattle.otap_cells.proofs.column_ids.stored_numbers.Given as goal

abbrev pub invariant-rows : goal.invariant-rows
invariant-rows g l = l.found.items ≡ take l.row (stored_in (g.R.Rows.table l.rows) l.column)
