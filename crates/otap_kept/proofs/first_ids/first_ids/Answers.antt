use Rattle.std.proofs.Common.{◌≡◌, ◌∙◌, None, subst, sym}
use Rattle.otap_cells.specs.Ids.{Twice}
use Rattle.otap_kept.specs.Numbering.{runs_after}
use Rattle.otap_kept.proofs.IdRuns.{runs_ordered, runs_unordered}
use Rattle.otap_kept.proofs.first_ids.first_ids.Goals as goal

pub returns-then-comes_back-clause-unordered : goal.returns-then-comes_back-clause-unordered
returns-then-comes_back-clause-unordered c =
    runs_unordered c.args.ids.now (subst Twice (c.deref.ensures.value ∙ c.in_ok-runs.ensures) (c.in_ok-comes_back.ensures.yes c.if-comes_back.true))

pub returns-clause-ordered : goal.returns-clause-ordered
returns-clause-ordered c =
    let is : c.deref.result.now ≡ runs_after None c.args.ids.now = c.deref.ensures.value ∙ c.in_ok-runs.ensures in
    let first = runs_ordered c.args.ids.now (λ twice. c.in_ok-comes_back.ensures.no c.if-comes_back.false (subst Twice (sym is) twice)) in
    (c.in_ok-runs.ensures ∙ first.0, first.1)
