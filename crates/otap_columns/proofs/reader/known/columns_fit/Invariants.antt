use Rattle.std.proofs.Common.{◌≡◌, true}
use Rattle.arrow_buffers.specs.Below.{all_below}
use Rattle.otap_columns.specs.Known.{fits_at}
use Rattle.otap_columns.proofs.reader.known.columns_fit.Given as goal

abbrev pub invariant-arrays : goal.invariant-arrays
invariant-arrays l = all_below (fits_at l.kind l.arrays) l.place ≡ true
