use Rattle.std.proofs.Common.{◌≡◌, List, ap}
use Rattle.std.specs.Prelude.{All}
use Rattle.otlp_model.specs.declared.request.Request.TheVariants as requests
use Rattle.otlp_model.specs.declared.request.Signal.{Signal}
use Rattle.otap_cells.specs.GivenIds.{ReadAs}
use Rattle.otap_cells.specs.Tables.{Table}
use Rattle.otap_checks.specs.Reading.{HasAllIds}
use Rattle.otap_signals.specs.BySignal.{request_in}
use Rattle.otap_signals.proofs.EachSignal.{each_signal}
use Rattle.otap_signals.proofs.laws.requests_read_alike.Goals as goal

pub returns : goal.returns
returns c =
    each_signal (λ (signal : Signal). (tables others : List Table) → ReadAs tables others → All HasAllIds others → request_in signal tables ≡ request_in signal others)
    (λ tables others read given. ap requests.Traces (c.requests_read_alike.ensures tables others read given))
    (λ tables others read given. ap requests.Logs (c.requests_read_alike-2.ensures tables others read given))
    (λ tables others read given. ap requests.Metrics (c.requests_read_alike-3.ensures tables others read given))
