use Rattle.std.proofs.Common.{◌∙◌, ap, arith}
use Rattle.std.proofs.lemmas.Result.{err_from_is_err_and}
use Rattle.arrow_arrays.specs.Cells.{array_check}
use Rattle.arrow_arrays.specs.Arrays.{arrays_check}
use Rattle.arrow_arrays.proofs.Walking.{check_step, check_fails, check_ends}
use Rattle.arrow_arrays.proofs.arrays.check_each.Goals as goal

pub returns-in_err-check : goal.returns-in_err-check
returns-in_err-check c =
    let p = err_from_is_err_and c.from_residual.result c.from_residual.ensures.1 in
    let batch = c.args.batch.now in
    let arrays = c.args.arrays.now in
    rw (p.1, p.2) (check_fails batch arrays c.loop-array.array-index c.array-item.result c.in_err-check.field-0.0 (arrays_check batch arrays)
    (omega arith) c.array-item.is (c.in_err-check.ensures.exact ∙ ap (array_check batch) c.place.ensures) c.loop-array.invariant)

pub loop-array-preserved : goal.loop-array-preserved
loop-array-preserved c =
    let batch = c.args.batch.now in
    let arrays = c.args.arrays.now in
    check_step batch arrays c.loop-array.array-index c.array-item.result (arrays_check batch arrays)
    (omega arith) c.array-item.is (c.in_ok-check.ensures.exact ∙ ap (array_check batch) c.place.ensures) c.loop-array.invariant

pub returns : goal.returns
returns c =
    let batch = c.args.batch.now in
    let arrays = c.args.arrays.now in
    check_ends batch arrays c.loop-array.array-index (arrays_check batch arrays) (omega arith) c.loop-array.invariant
