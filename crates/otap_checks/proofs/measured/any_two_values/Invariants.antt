use Rattle.std.proofs.Common.{ℕ, ◌+◌, ◌<◌}
use Rattle.otap_cells.specs.Tables.{cell_in}
use Rattle.otap_checks.specs.Measured.{IsThere}
use Rattle.otap_checks.proofs.measured.any_two_values.Given as goal

abbrev pub invariant-rows : goal.invariant-rows
invariant-rows g l = (k : ℕ) → k < l.row → IsThere (cell_in (g.R.Rows.table l.rows).rows l.column k) → IsThere (cell_in (g.R.Rows.table l.rows).rows (l.column + 1) k) → ⊥
