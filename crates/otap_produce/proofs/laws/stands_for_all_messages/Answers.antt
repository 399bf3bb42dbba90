use Rattle.otap_produce.proofs.Deciding.{stands_with}
use Rattle.otap_produce.proofs.laws.stands_for_all_messages.Goals as goal

pub returns : goal.returns
returns c = stands_with
