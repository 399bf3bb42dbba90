use Rattle.arrow_arrays.proofs.arrays.+view_within.Given as goal

abbrev pub decreases-view_within : goal.decreases-view_within
decreases-view_within l = l.depth
