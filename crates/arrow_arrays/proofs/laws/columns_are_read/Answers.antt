use Rattle.arrow_arrays.proofs.ColumnLaws.{column_checks, column_cells}
use Rattle.arrow_arrays.proofs.laws.columns_are_read.Goals as goal

pub returns-clause-check : goal.returns-clause-check
returns-clause-check c = column_checks

pub returns-clause-cells : goal.returns-clause-cells
returns-clause-cells c = column_cells
