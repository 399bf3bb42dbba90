use Rattle.std.proofs.Common.{◌≡◌, ℕ, false, length, sym, arith}
use Rattle.std.specs.Prelude.{slice_get}
use Rattle.arrow_buffers.proofs.EachBelow.{all_below-fails}
use Rattle.otap_columns.specs.Substreams.{field_fits_if, indexes_fit}
use Rattle.otap_columns.proofs.reader.indexes.fit.Goals as goal

pub returns-then-not-fit_at : goal.returns-then-not-fit_at
unfolding indexes_fit
returns-then-not-fit_at c =
    let test = λ (place : ℕ). field_fits_if (record { arrays = c.args.arrays.now; dictionaries = c.args.dictionaries.now }) c.args.batch.now place (slice_get c.args.arrays.now place) in
    let here : test c.arrays.place ≡ false = cc in
    sym (all_below-fails test (length c.args.arrays.now) c.arrays.place here (omega arith))
