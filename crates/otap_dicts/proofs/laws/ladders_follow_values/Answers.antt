use Rattle.otap_dicts.proofs.Observing.{observed-push}
use Rattle.otap_dicts.proofs.laws.ladders_follow_values.Goals as goal

pub returns : goal.returns
returns c = observed-push
