use Rattle.std.proofs.Common.{◌≡◌, ℕ, ◌<◌, false}
use Rattle.otap_groups.specs.Rows.{id_at}
use Rattle.otap_checks.specs.Ruled.{HoldsId}
use Rattle.otap_checks.specs.Shapes.{fits_of}
use Rattle.otap_checks.specs.Shapes.{type_at}
use Rattle.otap_checks.proofs.shapes.finds_other.Given as goal

abbrev pub invariant-rows : goal.invariant-rows
invariant-rows g l = (k : ℕ) → k < l.row → fits_of l.sort (type_at (g.R.Rows.table l.rows) k) ≡ false → HoldsId l.named (id_at l.ids k) → ⊥
