-- The law for all signals.
use Rattle.std.proofs.Common.{◌≡◌, true, List}
use Rattle.otlp_model.specs.declared.request.Signal.{Signal}
use Rattle.otlp_model.specs.declared.request.Signal.TheVariants as signal
use Rattle.otlp_model.specs.declared.value.Pair.{Pair}
use Rattle.otap_cells.specs.Tables.{Table}
use Rattle.otap_kept.specs.declared.whose.Whose.{Whose}
use Rattle.otap_kept.specs.Clean.{AreCleanAndLight}
use Rattle.otap_kept.specs.Filtered.{IsNoHeavier, MeansFilter}
use Rattle.otap_kept.specs.Kept.{is_ordered}
use Rattle.otap_kept.proofs.LogsKept.{logs_light, logs_tell}
use Rattle.otap_kept.proofs.MetricsKept.{metrics_light, metrics_tell}
use Rattle.otap_kept.proofs.SpansKept.{spans_light, spans_tell}

pub all_tell : (of : Signal) (by : Whose) (pair : Pair) (tables : List Table) → AreCleanAndLight of tables → is_ordered of by pair tables ≡ true
    → MeansFilter of by pair tables
all_tell signal.Logs by pair tables accepted ordered = logs_tell by pair tables accepted ordered
all_tell signal.Traces by pair tables accepted ordered = spans_tell by pair tables accepted ordered
all_tell signal.Metrics by pair tables accepted ordered = metrics_tell by pair tables accepted ordered

pub all_light : (of : Signal) (by : Whose) (pair : Pair) (tables : List Table) → AreCleanAndLight of tables → is_ordered of by pair tables ≡ true
    → IsNoHeavier of by pair tables
all_light signal.Logs by pair tables accepted ordered = logs_light by pair tables accepted ordered
all_light signal.Traces by pair tables accepted ordered = spans_light by pair tables accepted ordered
all_light signal.Metrics by pair tables accepted ordered = metrics_light by pair tables accepted ordered
