use Rattle.std.proofs.Common.{◌∙◌, ◌^◌, List, ap}
use Rattle.std.specs.Prelude.{min}
use Rattle.otlp_model.specs.Weight.{weight_of}
use Rattle.otlp_model.specs.declared.spans.Span.{Span}
use Rattle.otlp_model.specs.declared.groups.ResourceGroup.{ResourceGroup}
use Rattle.otlp_model.specs.declared.request.Request.TheVariants.{Traces}
use Rattle.otap_spans.proofs.requests.weight_with.Goals as goal

pub returns : goal.returns
returns g c = c.weight.ensures ∙ ap (λ (groups : List (ResourceGroup Span)). min (weight_of (Traces groups)) (2 ^ 63)) c.in_ok-main.ensures
