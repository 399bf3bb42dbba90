use Rattle.otap_capture.proofs.BatchDefects.{read_or_refused, read_or_not}
use Rattle.otap_capture.proofs.batch_laws.read_or_refused.Goals as goal

pub returns-clause-read : goal.returns-clause-read
returns-clause-read c = read_or_refused

pub returns-clause-either : goal.returns-clause-either
returns-clause-either c = read_or_not
