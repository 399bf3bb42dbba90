use Rattle.std.proofs.Common.{arith}
use Rattle.otap_groups.proofs.FrontRows.{seen_cells, seen_long}
use Rattle.otap_groups.proofs.front.FrontColumns.same_cells.Goals as goal

pub same_cells-requires-clause-a : goal.same_cells-requires-clause-a
same_cells-requires-clause-a g c = omega (arith, c.requires.a, seen_long _ _ _ _ _ c.self.view_is)

pub same_cells-requires-clause-b : goal.same_cells-requires-clause-b
same_cells-requires-clause-b g c = omega (arith, c.requires.b, seen_long _ _ _ _ _ c.self.view_is)

pub returns : goal.returns
returns g c =
    let first = seen_cells _ _ _ _ _ c.args.level c.args.a c.self.view_is c.requires.a in
    let second = seen_cells _ _ _ _ _ c.args.level c.args.b c.self.view_is c.requires.b in
    rw (first, second) c.same_cells.ensures
