use Rattle.otap_signals.specs.BySignal.{meaning_by, rows_by}
use Rattle.otap_gateway.proofs.AcceptedRequests.{accepted_by}
use Rattle.otap_gateway.proofs.EncodedFrames.{all_arrive}
use Rattle.otap_gateway.proofs.jobs.resending_laws.done_is_accepted.Goals as goal

pub returns : goal.returns
returns c signal window before id code number run may =
    accepted_by (rows_by signal) (meaning_by signal) window before id code number
    (all_arrive signal (c.what_is_sent_arrives.ensures.some signal) (c.what_is_sent_arrives.ensures.all signal))
    (c.nothing_is_lost.ensures (rows_by signal) window before run) run may
