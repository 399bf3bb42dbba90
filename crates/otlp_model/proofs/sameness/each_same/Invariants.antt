use Rattle.std.proofs.Common.{◌≡◌, ℕ, ◌<◌, length, get_or}
use Rattle.otlp_model.proofs.sameness.each_same.Given as goal

abbrev pub invariant-loop-i : goal.invariant-loop-i
invariant-loop-i g l = record {
  same_length : length l.a ≡ length l.b;
  so_far : (k : ℕ) (d e : g.row.P.Denot) → k < l.i → g.P.Alike.alike (get_or l.a k d) (get_or l.b k e);
}
