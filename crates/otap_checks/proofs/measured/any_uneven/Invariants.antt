use Rattle.std.proofs.Common.{◌≡◌, ℕ, ◌<◌, false}
use Rattle.std.specs.Prelude.{◌==◌}
use Rattle.otap_cells.specs.Tables.{cell_in}
use Rattle.otap_checks.specs.Measured.{element_count}
use Rattle.otap_checks.proofs.measured.any_uneven.Given as goal

abbrev pub invariant-rows : goal.invariant-rows
invariant-rows g l = (k : ℕ) → k < l.row → (element_count (cell_in (g.R.Rows.table l.rows).rows l.first k) == element_count (cell_in (g.R.Rows.table l.rows).rows l.second k)) ≡ false → ⊥
