use Rattle.std.proofs.Common.{◌≡◌, ◌^◌, min, take, sum}
use Rattle.otlp_model.proofs.limits.sum_capped.Given as goal

abbrev pub invariant-loop-weight : goal.invariant-loop-weight
invariant-loop-weight l = l.total ≡ min (sum (take l.weight-index l.weights)) (2 ^ 63)
