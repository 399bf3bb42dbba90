use Rattle.otap_gateway.proofs.AllReplies.{from_the_stage_on}
use Rattle.otap_gateway.proofs.jobs.reception_laws.status_says_the_line.Goals as goal

pub returns : goal.returns
returns c = from_the_stage_on
