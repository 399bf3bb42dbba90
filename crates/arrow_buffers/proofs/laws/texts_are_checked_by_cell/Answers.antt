use Rattle.arrow_buffers.proofs.CellLaws.{texts-law}
use Rattle.arrow_buffers.proofs.laws.texts_are_checked_by_cell.Goals as goal

pub returns : goal.returns
returns c = texts-law
