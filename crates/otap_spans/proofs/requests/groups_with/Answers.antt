use Rattle.std.proofs.Common.{List, ap}
use Rattle.std.proofs.lemmas.Result.{err_from_is_err_and}
use Rattle.otlp_model.specs.Weight.{weight_of}
use Rattle.otlp_model.specs.declared.groups.ResourceGroup.{ResourceGroup}
use Rattle.otlp_model.specs.declared.spans.Span.{Span}
use Rattle.otlp_model.specs.declared.request.Request.TheVariants.{Traces}
use Rattle.otap_checks.proofs.CleanRefusals.{refused_so}
use Rattle.otap_checks.specs.Refusing.{Nothing}
use Rattle.otap_spans.proofs.requests.groups_with.Goals as goal

pub returns-in_err-made-clause-refused : goal.returns-in_err-made-clause-refused
returns-in_err-made-clause-refused g c =
    let p = err_from_is_err_and c.from_residual-in_err-made.result c.from_residual-in_err-made.ensures.1 in
    rw (p.1, p.2) (refused_so Nothing _ _ c.in_err-made.field-0.0
    (ap (λ (groups : List (ResourceGroup Span)). weight_of (Traces groups)) c.in_ok-main.ensures) (λ kind wrong is. is) c.in_err-made.ensures.refused)
