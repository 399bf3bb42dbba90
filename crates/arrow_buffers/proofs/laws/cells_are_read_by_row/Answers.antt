use Rattle.arrow_buffers.proofs.CellLaws.{row-law}
use Rattle.arrow_buffers.proofs.Growing.{length-cells_of}
use Rattle.arrow_buffers.proofs.laws.cells_are_read_by_row.Goals as goal

pub returns-clause-count : goal.returns-clause-count
returns-clause-count c = length-cells_of

pub returns-clause-row : goal.returns-clause-row
returns-clause-row c = row-law
