use Rattle.otap_capture.proofs.StatusDefects.{status_or_not, status_or_refused}
use Rattle.otap_capture.proofs.status_laws.status_or_refused.Goals as goal

pub returns-clause-read : goal.returns-clause-read
returns-clause-read c = status_or_refused

pub returns-clause-either : goal.returns-clause-either
returns-clause-either c = status_or_not
