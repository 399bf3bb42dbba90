use Rattle.std.proofs.Common.{◌≡◌, length, take}
use Rattle.otlp_model.proofs.sameness.+same.Given as goal

abbrev pub invariant-same_values-loop-i : goal.invariant-same_values-loop-i
invariant-same_values-loop-i l = record {
  same_length : length l.a ≡ length l.b;
  so_far : take l.i l.a ≡ take l.i l.b;
}

abbrev pub invariant-pairs_in_order-loop-i : goal.invariant-pairs_in_order-loop-i
invariant-pairs_in_order-loop-i l = record {
  same_length : length l.a ≡ length l.b;
  so_far : take l.i l.a ≡ take l.i l.b;
}
