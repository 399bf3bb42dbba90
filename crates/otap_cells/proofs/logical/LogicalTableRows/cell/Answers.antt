use Rattle.std.proofs.Common.{◌<◌, length, arith}
use Rattle.otap_cells.proofs.Columnwise.{in_columns, shows_kept, shows, holds}
use Rattle.otap_cells.proofs.logical.LogicalTableRows.cell.Goals as goal

pub index-requires : goal.index-requires
index-requires c =
    let there : c.args.column < length c.self.inside.columns.items
    = in_columns _ _ _ _ c.self.view_is c.self.invariant _ c.requires.column (omega arith) in
    omega (arith, c.self.inside.columns.ok.0)

pub returns-clause-value : goal.returns-clause-value
returns-clause-value c =
    shows _ _ _ _ c.self.view_is _ _ _
    (shows_kept _ _ _ _ c.self.view_is c.self.invariant _ _ c.requires.column c.requires.row _ _ _ c.index.ensures c.get.ensures)
    c.requires.column c.requires.row

pub returns-clause-fits : goal.returns-clause-fits
returns-clause-fits c =
    holds _ _ _ _ c.self.view_is c.self.invariant _ _ _
    (shows_kept _ _ _ _ c.self.view_is c.self.invariant _ _ c.requires.column c.requires.row _ _ _ c.index.ensures c.get.ensures)
