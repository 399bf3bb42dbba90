use Rattle.otap_cells.proofs.Apart.{same_names}
use Rattle.otap_cells.proofs.laws.names_tell_columns_apart.Goals as goal

pub returns : goal.returns
returns c = same_names
