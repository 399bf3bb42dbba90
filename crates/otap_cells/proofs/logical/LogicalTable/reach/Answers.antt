use Rattle.std.proofs.Common.{◌≡◌, ◌<◌, [], length, get_or, ap, arith, ◌∙◌}
use Rattle.std.proofs.lemmas.List.{get_or_default, get_or_past}
use Rattle.otap_cells.proofs.Columnwise.{null_past}
use Rattle.otap_cells.proofs.logical.LogicalTable.reach.Goals as goal

pub returns-then-column-len : goal.returns-then-column-len
returns-then-column-len c row past =
    let none : get_or c.self.inside.columns.items c.args.column [] ≡ []
    = get_or_past c.self.inside.columns.items c.args.column [] (omega (arith, c.len.ensures)) in
    null_past _ _ _ _ c.self.view_is c.args.column row (rw none (omega arith))

pub returns : goal.returns
returns c row past =
    let there : c.args.column < length c.self.inside.columns.items = omega (arith, c.len.ensures) in
    let here : length c.index.result.now ≡ length (get_or c.self.inside.columns.items c.args.column [])
    = ap length (c.index.ensures ∙ get_or_default c.self.inside.columns.items c.args.column _ [] there) in
    null_past _ _ _ _ c.self.view_is c.args.column row (omega (arith, c.reach.ensures))
