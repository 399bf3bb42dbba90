-- What has the attributes that a filter looks at.
use Rattle.std.specs.Prelude.{ℕ, List, codes}
use Rattle.otap_kept.specs.declared.whose.Whose.{Whose}
use Rattle.otap_kept.specs.declared.whose.Whose.TheVariants as whose
use Rattle.otlp_model.specs.declared.request.Signal.{Signal}
use Rattle.otlp_model.specs.declared.request.Signal.TheVariants as signals
use Rattle.otap_gateway.specs.declared.jobs.owner.Owner.{Owner}
use Rattle.otap_gateway.specs.declared.jobs.owner.Owner.TheVariants as owner

-- the signal of its batches
abbrev pub signal_of : Owner → Signal
signal_of owner.Span = signals.Traces
signal_of owner.SpanResource = signals.Traces
signal_of owner.LogRecord = signals.Logs
signal_of owner.LogResource = signals.Logs
signal_of owner.MetricResource = signals.Metrics

-- whether it is an item or its resource
abbrev pub whose_of : Owner → Whose
whose_of owner.Span = whose.Item
whose_of owner.SpanResource = whose.Resource
whose_of owner.LogRecord = whose.Item
whose_of owner.LogResource = whose.Resource
whose_of owner.MetricResource = whose.Resource

abbrev pub whose_word : Whose → List ℕ
whose_word whose.Item = codes "item"
whose_word whose.Resource = codes "resource"
