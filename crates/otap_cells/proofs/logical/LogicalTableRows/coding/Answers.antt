use Rattle.otap_cells.proofs.ByPlace.{id_within}
use Rattle.otap_cells.proofs.Columnwise.{id_here, shows_coding}
use Rattle.otap_cells.proofs.logical.LogicalTableRows.coding.Goals as goal

pub coding_of-requires : goal.coding_of-requires
coding_of-requires c = id_within _ _ (id_here _ _ _ _ c.self.view_is _ c.requires)

pub returns : goal.returns
returns c = shows_coding _ _ _ _ c.self.view_is _ c.requires _ c.coding_of.ensures
