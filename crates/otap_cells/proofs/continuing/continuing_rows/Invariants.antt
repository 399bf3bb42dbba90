use Rattle.std.proofs.Common.{◌≡◌, take}
use Rattle.otap_cells.specs.Continuing.{continues_in}
use Rattle.otap_cells.proofs.continuing.continuing_rows.Given as goal

abbrev pub invariant-rows : goal.invariant-rows
invariant-rows g l = l.found.items ≡ take l.row (continues_in (g.R.Rows.table l.rows))
