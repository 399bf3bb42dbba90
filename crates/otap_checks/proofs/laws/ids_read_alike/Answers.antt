use Rattle.otap_checks.proofs.ReadAlike.{id_defect_told}
use Rattle.otap_checks.proofs.laws.ids_read_alike.Goals as goal

pub returns : goal.returns
returns c = id_defect_told
