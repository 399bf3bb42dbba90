use Rattle.std.proofs.Common.{arith}
use Rattle.otap_columns.proofs.SeenOn.{null_beyond}
use Rattle.otap_columns.proofs.writer.cells.set_rows.Goals as goal

pub returns-else-reach-rows-clause-null : goal.returns-else-reach-rows-clause-null
returns-else-reach-rows-clause-null c = λ row le. null_beyond c.args.table.now.rows c.args.column row (omega (arith, le, c.rows-rows.ensures.count))
