use Rattle.std.proofs.Common.{◌≡◌, ◌<◌, true, false, length, sym, ◌∙◌, arith}
use Rattle.arrow_buffers.proofs.EachBelow.{all_below-fails}
use Rattle.otap_columns.specs.Known.{fits_at, columns_fit}
use Rattle.otap_columns.proofs.Finding.{known_len, known_at, known_column-below, all_below-one_more}
use Rattle.otap_columns.proofs.reader.known.columns_fit.Goals as goal

pub bounds-known-place : goal.bounds-known-place
bounds-known-place c = omega (arith, known_len c.args.kind c.args.arrays.now c.args.known.now c.requires)

pub fits_column-requires : goal.fits_column-requires
fits_column-requires c =
    let below : c.arrays.place < length c.args.arrays.now = omega arith in
    λ x is. known_column-below c.args.kind c.args.arrays.now c.arrays.place x (sym (known_at c.args.kind c.args.arrays.now c.args.known.now c.requires c.arrays.place below) ∙ is)

pub returns-then-not-fits_column : goal.returns-then-not-fits_column
unfolding columns_fit
returns-then-not-fits_column c =
    let below : c.arrays.place < length c.args.arrays.now = omega arith in
    let known = known_at c.args.kind c.args.arrays.now c.args.known.now c.requires c.arrays.place below in
    let test = fits_at c.args.kind c.args.arrays.now in
    let here : test c.arrays.place ≡ false = cc known in
    sym (all_below-fails test (length c.args.arrays.now) c.arrays.place here below)

pub arrays-preserved : goal.arrays-preserved
arrays-preserved c =
    let below : c.arrays.place < length c.args.arrays.now = omega arith in
    let known = known_at c.args.kind c.args.arrays.now c.args.known.now c.requires c.arrays.place below in
    let test = fits_at c.args.kind c.args.arrays.now in
    let here : test c.arrays.place ≡ true = cc known in
    all_below-one_more test c.arrays.place c.arrays.invariant here
