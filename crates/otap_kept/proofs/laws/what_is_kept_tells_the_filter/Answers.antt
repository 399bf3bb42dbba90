use Rattle.otap_kept.proofs.AllSignals.{all_tell}
use Rattle.otap_kept.proofs.laws.what_is_kept_tells_the_filter.Goals as goal

pub returns : goal.returns
returns c = all_tell
