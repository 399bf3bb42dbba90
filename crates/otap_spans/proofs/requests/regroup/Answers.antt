use Rattle.std.proofs.Common.{◌∙◌, refl, sym}
use Rattle.std.proofs.lemmas.Result.{err_from_is_err_and}
use Rattle.otap_checks.proofs.CleanRefusals.{refused_so}
use Rattle.otap_spans.specs.Requests.{WrongSpans}
use Rattle.otap_spans.proofs.SpansRegrouped.{no_spans}
use Rattle.otap_spans.proofs.requests.regroup.Goals as goal

pub returns-in_default-clause-groups : goal.returns-in_default-clause-groups
returns-in_default-clause-groups g c = c.new.ensures ∙ sym (no_spans c.args.set.now c.in_default.ensures.table)

pub returns-in_err-made-clause-refused : goal.returns-in_err-made-clause-refused
returns-in_err-made-clause-refused g c =
    let p = err_from_is_err_and c.from_residual-in_err-made.result c.from_residual-in_err-made.ensures.1 in
    rw (p.1, p.2) (refused_so (WrongSpans c.args.set.now) _ _ c.in_err-made.field-0.0
    refl c.in_ok-known.ensures.clean c.in_err-made.ensures.refused)
