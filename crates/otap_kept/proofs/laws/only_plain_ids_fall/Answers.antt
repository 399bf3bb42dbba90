use Rattle.otap_kept.proofs.DeltaIds.{delta_ordered}
use Rattle.otap_kept.proofs.laws.only_plain_ids_fall.Goals as goal

pub returns : goal.returns
returns c = delta_ordered
