use Rattle.otap_gateway.proofs.AllReplies.{encode_back}
use Rattle.otap_gateway.proofs.jobs.sending_laws.encoded_texts_have_outcomes.Goals as goal

pub returns : goal.returns
returns c = encode_back
