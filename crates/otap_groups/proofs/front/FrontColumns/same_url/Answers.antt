use Rattle.std.proofs.Common.{arith, rules}
use Rattle.otap_groups.proofs.FrontRows.{seen_long, seen_row}
use Rattle.otap_groups.proofs.front.FrontColumns.same_url.Goals as goal

pub same_cell-requires-clause-a : goal.same_cell-requires-clause-a
same_cell-requires-clause-a g c = omega (arith, c.requires.a, seen_long _ _ _ _ _ c.self.view_is)

pub same_cell-requires-clause-b : goal.same_cell-requires-clause-b
same_cell-requires-clause-b g c = omega (arith, c.requires.b, seen_long _ _ _ _ _ c.self.view_is)

pub returns : goal.returns
returns g c = rw (seen_row _ _ _ _ _ c.args.a c.self.view_is c.requires.a, seen_row _ _ _ _ _ c.args.b c.self.view_is c.requires.b) (search rules)
