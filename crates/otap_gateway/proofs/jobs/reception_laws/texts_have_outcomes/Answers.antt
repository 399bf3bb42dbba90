use Rattle.otap_gateway.proofs.AllReplies.{receive_back, show_back}
use Rattle.otap_gateway.proofs.jobs.reception_laws.texts_have_outcomes.Goals as goal

pub returns-clause-receive : goal.returns-clause-receive
returns-clause-receive c = receive_back

pub returns-clause-show : goal.returns-clause-show
returns-clause-show c = show_back
