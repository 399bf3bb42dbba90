-- Which points and exemplars can be written: a condition of writing and of weighing their rows.
use Rattle.std.specs.Prelude.{◌≤◌, All}
use Rattle.otlp_model.specs.Limits.{weight_limit, part_weight}
use Rattle.otlp_model.specs.Profile.{IsTraceId, IsSpanId}
use Rattle.otlp_model.specs.Weight.{total, weight_of_pair}
use Rattle.otlp_model.specs.declared.histograms.HistPoint.{HistPoint}
use Rattle.otlp_model.specs.declared.histograms.SumPoint.{SumPoint}
use Rattle.otlp_model.specs.declared.metrics.Exemplar.{Exemplar}
use Rattle.otlp_model.specs.declared.metrics.Point.{Point}

-- ids have their lengths, and the attributes of each weigh no more than the limit
pub record CanWriteExemplar (exemplar : Exemplar) : Type 0 where
  pub trace_id : IsTraceId exemplar.trace_id
  pub span_id : IsSpanId exemplar.span_id
  pub pairs : total part_weight weight_of_pair exemplar.pairs ≤ weight_limit

pub record CanWritePoint (point : Point) : Type 0 where
  pub pairs : total part_weight weight_of_pair point.pairs ≤ weight_limit
  pub exemplars : All CanWriteExemplar point.exemplars

pub record CanWriteHistPoint (point : HistPoint) : Type 0 where
  pub pairs : total part_weight weight_of_pair point.pairs ≤ weight_limit
  pub exemplars : All CanWriteExemplar point.exemplars

pub record CanWriteSumPoint (point : SumPoint) : Type 0 where
  pub pairs : total part_weight weight_of_pair point.pairs ≤ weight_limit
