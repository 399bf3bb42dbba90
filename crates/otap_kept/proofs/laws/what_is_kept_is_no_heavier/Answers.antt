use Rattle.otap_kept.proofs.AllSignals.{all_light}
use Rattle.otap_kept.proofs.laws.what_is_kept_is_no_heavier.Goals as goal

pub returns : goal.returns
returns c = all_light
