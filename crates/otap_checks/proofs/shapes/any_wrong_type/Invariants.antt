use Rattle.std.proofs.Common.{◌≡◌, ℕ, ◌<◌, false}
use Rattle.otap_checks.specs.Shapes.{is_type, type_at}
use Rattle.otap_checks.proofs.shapes.any_wrong_type.Given as goal

abbrev pub invariant-rows : goal.invariant-rows
invariant-rows g l = (k : ℕ) → k < l.row → is_type (type_at (g.R.Rows.table l.rows) k) ≡ false → ⊥
