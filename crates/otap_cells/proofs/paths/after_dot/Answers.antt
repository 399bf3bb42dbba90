use Rattle.std.proofs.Common.{◌∷◌, ◌++◌, ◌∙◌, ap, None, Some}
use Rattle.std.proofs.lemmas.Bool.Decides.{Decides-eqb}
use Rattle.std.proofs.lemmas.Slice.Eq.{strip_prefix_is}
use Rattle.otap_cells.proofs.paths.after_dot.Goals as goal

pub returns-in_err-rest : goal.returns-in_err-rest
returns-in_err-rest c = rw c.from_residual.ensures (λ rest. strip_prefix_is Decides-eqb _ _ None c.in_err-rest.ensures.cases (46 ∷ rest))

pub returns-then-dot-eq46 : goal.returns-then-dot-eq46
returns-then-dot-eq46 c =
    strip_prefix_is Decides-eqb _ _ (Some c.in_ok-rest.rest) c.in_ok-rest.ensures.cases
    ∙ ap (λ rest. c.args.name.now ++ rest) (c.in_ok-dot.ensures.cases.0 ∙ ap (λ dot. dot ∷ c.in_ok-dot.inner.now) c.if-dot-eq46.true)
