use Rattle.otap_groups.proofs.Joins.{agrees}
use Rattle.otap_groups.proofs.laws.parts_come_back.Goals as goal

pub returns : goal.returns
returns g c own cells_of item lists reads = agrees own cells_of item lists reads
