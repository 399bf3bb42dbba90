use Rattle.otap_capture.proofs.Events.{event_once, not_refused}
use Rattle.otap_capture.proofs.event_laws.one_event.Goals as goal

pub returns-clause-one : goal.returns-clause-one
returns-clause-one c = event_once

pub returns-clause-not_refused : goal.returns-clause-not_refused
returns-clause-not_refused c = not_refused
