use Rattle.std.proofs.Common.{◌≡◌, length, take}
use Rattle.otlp_model.proofs.histograms.same_quantiles.Given as goal

abbrev pub invariant-loop-i : goal.invariant-loop-i
invariant-loop-i l = record {
  same_length : length l.a ≡ length l.b;
  so_far : take l.i l.a ≡ take l.i l.b;
}
