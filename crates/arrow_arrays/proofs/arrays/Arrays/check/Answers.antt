use Rattle.std.proofs.Common.{◌≡◌, arith}
use Rattle.arrow_arrays.specs.Arrays.{arrays_check}
use Rattle.arrow_arrays.proofs.Checked.{none_on}
use Rattle.arrow_arrays.proofs.arrays.Arrays.check.Goals as goal

pub returns-clause-none : goal.returns-clause-none
returns-clause-none c =
    let same : c.check_each.result ≡ arrays_check c.args.batch.now c.args.self.now = grind arith in
    none_on c.args.batch.now c.args.self.now c.check_each.result same
