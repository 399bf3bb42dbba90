use Rattle.std.proofs.Common.{◌<◌, ◌-◌, length, get_or, refl, sym, ◌∙◌, arith}
use Rattle.otap_cells.specs.Cells.{null}
use Rattle.otap_cells.proofs.Columnwise.{in_columns, shows_kept, shows}
use Rattle.otap_cells.proofs.logical.LogicalTable.is_again.Goals as goal

pub index-requires : goal.index-requires
index-requires c =
    let there : c.args.column < length c.self.inside.columns.items
    = in_columns _ _ _ _ c.self.view_is c.self.invariant _ c.requires.column (omega arith) in
    omega (arith, c.self.inside.columns.ok.0)

pub returns : goal.returns
returns c same =
    let before : c.args.row - 1 < length c.args.self.now.rows = omega (arith, c.requires.row) in
    let here = shows _ _ _ _ c.self.view_is _ _ _
    (shows_kept _ _ _ _ c.self.view_is c.self.invariant c.args.column c.args.row c.requires.column c.requires.row _ _ (get_or c.index.result.now c.args.row null) c.index.ensures refl)
    c.requires.column c.requires.row in
    let above = shows _ _ _ _ c.self.view_is _ _ _
    (shows_kept _ _ _ _ c.self.view_is c.self.invariant c.args.column (c.args.row - 1) c.requires.column before _ _ (get_or c.index.result.now (c.args.row - 1) null) c.index.ensures refl)
    c.requires.column before in
    sym here ∙ c.is_again.ensures same ∙ above
