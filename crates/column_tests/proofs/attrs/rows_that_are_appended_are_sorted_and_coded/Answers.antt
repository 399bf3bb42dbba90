use Rattle.std.proofs.Common.{arith}
use Rattle.otap_attrs.proofs.AttributeRows.{log_width}
use Rattle.column_tests.proofs.attrs.rows_that_are_appended_are_sorted_and_coded.Goals as goal

pub cell-requires-clause-column : goal.cell-requires-clause-column
cell-requires-clause-column g c = omega (arith, log_width c.in_ok-table.table.kind c.in_ok-table.ensures)

pub cell-requires-then-rows-eq3-clause-column : goal.cell-requires-then-rows-eq3-clause-column
cell-requires-then-rows-eq3-clause-column g c = omega (arith, log_width c.in_ok-table.table.kind c.in_ok-table.ensures)
