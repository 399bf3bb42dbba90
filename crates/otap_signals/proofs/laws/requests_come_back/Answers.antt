use Rattle.otlp_model.specs.declared.request.Request.{Request}
use Rattle.otap_signals.specs.BySignal.{RequestComesBack}
use Rattle.otap_signals.specs.Signals.{IsWritten}
use Rattle.otap_signals.proofs.EachSignal.{each_request}
use Rattle.otap_signals.proofs.laws.requests_come_back.Goals as goal

pub returns : goal.returns
returns c =
    each_request (λ (request : Request). IsWritten request → RequestComesBack request) c.tables_come_back.ensures c.tables_come_back-2.ensures c.tables_come_back-3.ensures
