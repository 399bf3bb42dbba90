use Rattle.std.proofs.Common.{rules}
use Rattle.otap_groups.specs.Rows.{row_at}
use Rattle.otap_groups.specs.Inside.{id_by}
use Rattle.otap_groups.proofs.FrontRows.{collected}
use Rattle.otap_groups.proofs.PartSteps.{pushed}
use Rattle.otap_groups.proofs.front.FrontColumns.ids_by.Goals as goal

pub rows-preserved : goal.rows-preserved
rows-preserved g c =
    pushed (id_by c.args.level) (row_at c.args.self.now) c.rows.place c.len-to.result _ _ _ _ c.rows-test.true
    c.id_by.ensures c.in_ok-push.ensures.items c.rows.invariant

pub returns : goal.returns
returns g c = collected (id_by c.args.level) c.args.self.now c.rows.ids.items c.rows.place c.len-to.result (search rules) c.len-to.ensures c.rows.invariant
