-- Words of private contracts: what of a request of spans can be written.
use Rattle.std.specs.Prelude.{◌≤◌, All}
use Rattle.otlp_model.specs.Limits.{weight_limit, part_weight}
use Rattle.otlp_model.specs.Profile.{IsTraceId, IsSpanId}
use Rattle.otlp_model.specs.Weight.{total, weight_of_pair}
use Rattle.otlp_model.specs.declared.spans.Event.{Event}
use Rattle.otlp_model.specs.declared.spans.Link.{Link}
use Rattle.otlp_model.specs.declared.spans.Span.{Span}

-- what can be written: ids have their lengths, and the attributes of each weigh no more than the limit
pub record CanWriteEvent (event : Event) : Type 0 where
  pub pairs : total part_weight weight_of_pair event.pairs ≤ weight_limit

pub record CanWriteLink (link : Link) : Type 0 where
  pub trace_id : IsTraceId link.trace_id
  pub span_id : IsSpanId link.span_id
  pub pairs : total part_weight weight_of_pair link.pairs ≤ weight_limit

pub record CanWriteSpan (span : Span) : Type 0 where
  pub trace_id : IsTraceId span.trace_id
  pub span_id : IsSpanId span.span_id
  pub parent_span_id : IsSpanId span.parent_span_id
  pub pairs : total part_weight weight_of_pair span.pairs ≤ weight_limit
  pub events : All CanWriteEvent span.events
  pub links : All CanWriteLink span.links
