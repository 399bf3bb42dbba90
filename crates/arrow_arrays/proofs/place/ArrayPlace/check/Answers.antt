use Rattle.std.proofs.Common.{◌≡◌, ◌∙◌, Result, ap, arith}
use Rattle.lists.specs.Results.{◌>>=◌}
use Rattle.arrow_buffers.specs.declared.fault.BufferFault.{BufferFault}
use Rattle.arrow_arrays.specs.declared.view.ArrayView.{ArrayView}
use Rattle.arrow_arrays.specs.Cells.{array_check, content_check}
use Rattle.arrow_arrays.proofs.FaultsNamed.{none_when_ok, named_when_err}
use Rattle.arrow_arrays.proofs.place.ArrayPlace.check.Goals as goal

pub returns-in_err-array-clause-fault : goal.returns-in_err-array-clause-fault
unfolding array_check
returns-in_err-array-clause-fault c =
    let same : c.from_residual.result ≡ array_check c.args.batch.now c.args.self = grind arith in
    named_when_err c.args.batch.now c.args.self c.from_residual.result same

pub returns-clause-none : goal.returns-clause-none
unfolding array_check
returns-clause-none c =
    let same : c.check_content.result ≡ array_check c.args.batch.now c.args.self
    = c.check_content.ensures ∙ ap (λ (r : Result ArrayView BufferFault). r >>= content_check c.args.self.layout) c.in_ok-array.ensures in
    none_when_ok c.args.batch.now c.args.self c.check_content.result same

pub returns-clause-fault : goal.returns-clause-fault
unfolding array_check
returns-clause-fault c =
    let same : c.check_content.result ≡ array_check c.args.batch.now c.args.self
    = c.check_content.ensures ∙ ap (λ (r : Result ArrayView BufferFault). r >>= content_check c.args.self.layout) c.in_ok-array.ensures in
    named_when_err c.args.batch.now c.args.self c.check_content.result same
