use Rattle.otap_capture.proofs.Events.{event_or_not}
use Rattle.otap_capture.proofs.event_laws.event_or_refused.Goals as goal

pub returns : goal.returns
returns c = event_or_not
