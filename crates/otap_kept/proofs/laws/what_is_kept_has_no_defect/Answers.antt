use Rattle.otap_kept.proofs.FineSignals.{none_wrong}
use Rattle.otap_kept.proofs.laws.what_is_kept_has_no_defect.Goals as goal

pub returns : goal.returns
returns c = none_wrong
