use Rattle.std.proofs.Common.{ℕ, ◌<◌, get_or, drop, []}
use Rattle.otap_attrs.specs.declared.refusal.RowRefusal.{RowRefusal}
use Rattle.otap_attrs.specs.Values.{BadValue}
use Rattle.otap_attrs.proofs.index.check_values.Given as goal

abbrev pub invariant-rows : goal.invariant-rows
invariant-rows g l = (k : ℕ) → k < l.row → (why : RowRefusal) → BadValue (drop 2 (get_or (g.R.Rows.table l.rows).rows k [])) why → ⊥
