use Rattle.std.proofs.Common.{◌≡◌, ℕ, ◌<◌, get_or, Some, None}
use Rattle.std.specs.Prelude.{Contains}
use Rattle.otap_attrs.proofs.orphans.lacks_one.Given as goal

abbrev pub invariant-parents : goal.invariant-parents
invariant-parents l = (k n : ℕ) → k < l.parent-index → get_or l.parents k None ≡ Some n → Contains l.sorted n
