use Rattle.otap_gateway.proofs.AllReplies.{receive_given, show_given, show_alike}
use Rattle.otap_gateway.proofs.jobs.reception_laws.outcomes_give_the_texts.Goals as goal

pub returns-clause-receive : goal.returns-clause-receive
returns-clause-receive c = receive_given

pub returns-clause-show : goal.returns-clause-show
returns-clause-show c = show_given

pub returns-clause-show_alike : goal.returns-clause-show_alike
returns-clause-show_alike c = show_alike
