use Rattle.arrow_buffers.proofs.CellLaws.{bit-cell, fixed-cell, var-cell, list-cell}
use Rattle.arrow_buffers.proofs.laws.views_read_the_cells.Goals as goal

pub returns-clause-bit : goal.returns-clause-bit
returns-clause-bit c = bit-cell

pub returns-clause-fixed : goal.returns-clause-fixed
returns-clause-fixed c = fixed-cell

pub returns-clause-var : goal.returns-clause-var
returns-clause-var c = var-cell

pub returns-clause-list : goal.returns-clause-list
returns-clause-list c = list-cell
