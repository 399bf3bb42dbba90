use Rattle.std.proofs.Common.{◌∙◌, sym, ap}
use Rattle.otap_groups.specs.Rows.{MainRow}
use Rattle.otap_groups.proofs.FrontRows.{seen_row}
use Rattle.otap_groups.proofs.front.FrontColumns.id.Goals as goal

pub returns : goal.returns
returns g c = c.id_at.ensures ∙ sym (ap (λ (r : MainRow). r.id) (seen_row _ _ _ _ _ c.args.place c.self.view_is c.requires))
