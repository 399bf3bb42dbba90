use Rattle.otap_gateway.proofs.EncodedFrames.{all_arrive}
use Rattle.otap_gateway.proofs.ResentBytes.{resent_back}
use Rattle.otap_gateway.proofs.jobs.resending_laws.what_is_resent_is_read.Goals as goal

pub returns : goal.returns
returns c signal =
    resent_back signal c.written_is_read.ensures.message c.written_is_read.ensures.reset
    (all_arrive signal (c.what_is_sent_arrives.ensures.some signal) (c.what_is_sent_arrives.ensures.all signal))
