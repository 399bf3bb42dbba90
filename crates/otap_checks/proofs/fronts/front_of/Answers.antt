use Rattle.std.proofs.Common.{◌∙◌}
use Rattle.otap_checks.proofs.TableIds.{main_rows_are}
use Rattle.otap_checks.proofs.fronts.front_of.Goals as goal

pub returns-clause-rows : goal.returns-clause-rows
returns-clause-rows g c =
    c.new.ensures.rows
    ∙ main_rows_are (g.R.Rows.table c.args.rows.now) _ _ _ (rw (c.of.ensures, c.kind-kind.ensures) (c.requires.known 0 c.requires.main.id).are)
    (rw (c.of-2.ensures, c.kind-kind.ensures) (c.requires.known 1 c.requires.main.resource_id).are) (rw (c.of-3.ensures, c.kind-kind.ensures) (c.requires.known 4 c.requires.main.scope_id).are)
