use Rattle.std.proofs.Common.{rules}
use Rattle.otap_groups.proofs.FrontRows.{seen_row}
use Rattle.otap_groups.proofs.front.FrontColumns.id_by.Goals as goal

pub returns-in-Resource : goal.returns-in-Resource
returns-in-Resource g c = rw (seen_row _ _ _ _ _ c.args.place c.self.view_is c.requires) (search rules)

pub returns-in-Scope : goal.returns-in-Scope
returns-in-Scope g c = rw (seen_row _ _ _ _ _ c.args.place c.self.view_is c.requires) (search rules)
