use Rattle.otap_kept.specs.Texts.{text_under}
use Rattle.otap_gateway.specs.Owners.{signal_of, whose_of}
use Rattle.otap_gateway.proofs.AllReplies.{filter_back}
use Rattle.otap_gateway.proofs.FilteredBytes.{received}
use Rattle.otap_gateway.proofs.jobs.filtering_laws.filtered_texts_have_outcomes.Goals as goal

pub returns : goal.returns
returns c owner key text frames replies each =
    let some = filter_back owner key text frames replies each in
    record { given = some.0; gave = some.1; texts = some.2; received = received (signal_of owner) (whose_of owner) (text_under key text) frames some.0 some.1 }
