use Rattle.std.proofs.Common.{◌≡◌, ℕ, ◌-◌, ◌≤◌, [], length, get_or, vec_len}
use Rattle.otap_cells.proofs.logical.widen.Given as goal

abbrev pub invariant-columns : goal.invariant-columns
invariant-columns l = record {
  grows : length l.initial.columns.items ≤ length l.columns.items;
  few : length l.columns.items ≤ l.width;
  same : (column : ℕ) → get_or l.columns.items column [] ≡ get_or l.initial.columns.items column [];
}

abbrev pub decreases-columns : goal.decreases-columns
decreases-columns l = l.width - vec_len l.columns
