use Rattle.std.proofs.Common.{◌≡◌, ℕ, ◌<◌, ◌≤◌, get_or, length, Some, None}
use Rattle.std.specs.Prelude.{Contains}
use Rattle.otap_attrs.proofs.orphans.finds_all.Given as goal

abbrev pub invariant-parents : goal.invariant-parents
invariant-parents l = record {
  within : l.at ≤ length l.ids;
  there : (k n : ℕ) → k < l.parent-index → get_or l.parents k None ≡ Some n → Contains l.ids (Some n);
}
