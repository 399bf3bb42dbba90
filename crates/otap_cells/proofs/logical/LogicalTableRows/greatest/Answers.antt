use Rattle.std.proofs.Common.{refl}
use Rattle.otap_cells.proofs.Columnwise.{shows_greatest}
use Rattle.otap_cells.proofs.logical.LogicalTableRows.greatest.Goals as goal

pub returns : goal.returns
returns c = shows_greatest _ _ _ _ c.self.view_is _ c.requires _ refl
