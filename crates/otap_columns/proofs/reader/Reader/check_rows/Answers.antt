use Rattle.std.proofs.Common.{◌≡◌, List, ap, subst}
use Rattle.std.proofs.lemmas.Result.{err_from_is_err_and}
use Rattle.arrow_arrays.specs.declared.spec.ArraySpec.{ArraySpec}
use Rattle.arrow_arrays.specs.Arrays.{HasFault}
use Rattle.otap_columns.specs.Views.{ReaderIn}
use Rattle.otap_columns.proofs.reader.Reader.check_rows.Goals as goal

pub returns-in_err-check-clause-err : goal.returns-in_err-check-clause-err
returns-in_err-check-clause-err c =
    let arrays : c.self.inside.arrays ≡ c.args.self.now.substream.arrays = ap (λ (r : ReaderIn). r.substream.arrays) c.self.view_is in
    let p = err_from_is_err_and c.from_residual.result c.from_residual.ensures.1 in
    rw (p.1, p.2) (subst (λ (a : List ArraySpec). HasFault c.args.batch.now a c.in_err-check.field-0.0) arrays c.in_err-check.ensures.fault)
