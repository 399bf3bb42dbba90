use Rattle.otap_gateway.proofs.AllReplies.{all_given}
use Rattle.otap_gateway.proofs.jobs.reception_laws.captures_have_texts.Goals as goal

pub returns : goal.returns
returns c signal bytes frames end real capture =
    all_given c.some_outcome.ensures signal frames (c.received_some_outcome.ensures.capture signal bytes frames end real capture)
