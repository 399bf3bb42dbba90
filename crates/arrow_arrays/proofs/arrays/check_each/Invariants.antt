use Rattle.std.proofs.Common.{◌≡◌, drop}
use Rattle.arrow_arrays.specs.Arrays.{arrays_check}
use Rattle.arrow_arrays.proofs.arrays.check_each.Given as goal

-- the arrays so far have no fault
abbrev pub invariant-loop-array : goal.invariant-loop-array
invariant-loop-array l = arrays_check l.batch (drop l.array-index l.arrays) ≡ arrays_check l.batch l.arrays
