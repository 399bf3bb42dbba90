use Rattle.std.proofs.Common.{◌≡◌, true}
use Rattle.std.specs.Prelude.{slice_get}
use Rattle.arrow_buffers.specs.Below.{all_below}
use Rattle.otap_columns.specs.Substreams.{field_fits_if}
use Rattle.otap_columns.proofs.reader.indexes.fit.Given as goal

abbrev pub invariant-arrays : goal.invariant-arrays
invariant-arrays l = all_below (λ place. field_fits_if (record { arrays = l.arrays; dictionaries = l.dictionaries }) l.batch place (slice_get l.arrays place)) l.place ≡ true
