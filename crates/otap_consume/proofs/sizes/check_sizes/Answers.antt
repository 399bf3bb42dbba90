use Rattle.std.proofs.Common.{arith}
use Rattle.otap_consume.proofs.SizeSteps.{too_many_rows}
use Rattle.otap_consume.proofs.sizes.check_sizes.Goals as goal

pub returns-then-count_rows-clause-past : goal.returns-then-count_rows-clause-past
returns-then-count_rows-clause-past g c = too_many_rows c.args.set.now c.count_rows.result c.count_rows.ensures.count (omega (arith, c.if-count_rows.true))
