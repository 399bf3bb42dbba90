use Rattle.otap_cells.proofs.Columnwise.{same_kind}
use Rattle.otap_cells.proofs.logical.LogicalTableRows.kind.Goals as goal

pub returns : goal.returns
returns c = same_kind _ _ _ _ c.self.view_is
