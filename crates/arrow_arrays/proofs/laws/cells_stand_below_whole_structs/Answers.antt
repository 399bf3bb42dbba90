use Rattle.arrow_arrays.proofs.Raised.{whole_cells}
use Rattle.arrow_arrays.proofs.laws.cells_stand_below_whole_structs.Goals as goal

pub returns : goal.returns
returns c = whole_cells
