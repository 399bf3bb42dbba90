use Rattle.std.proofs.Common.{sym}
use Rattle.otap_checks.proofs.KnownSteps.{in_any_case}
use Rattle.otap_checks.proofs.known.read_parents.Goals as goal

pub returns-clause-weights : goal.returns-clause-weights
returns-clause-weights g c =
    in_any_case c.ids_of.result _ (c.in_ok-keep_weights.ensures (g.R.Rows.table c.args.rows.now) (sym c.kind.ensures) c.in_ok-facts.ensures.weights)
