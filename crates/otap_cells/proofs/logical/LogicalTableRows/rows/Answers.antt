use Rattle.otap_cells.proofs.Columnwise.{same_count, is_sound}
use Rattle.otap_cells.proofs.logical.LogicalTableRows.rows.Goals as goal

pub returns-clause-count : goal.returns-clause-count
returns-clause-count c = same_count _ _ _ _ c.self.view_is

pub returns-clause-sound : goal.returns-clause-sound
returns-clause-sound c = is_sound _ _ _ _ c.self.view_is c.self.invariant
