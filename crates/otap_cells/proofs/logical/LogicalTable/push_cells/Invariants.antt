use Rattle.std.proofs.Common.{◌≡◌, [], ◌∷◌, ◌++◌, map}
use Rattle.otap_cells.specs.Cells.{seen}
use Rattle.otap_cells.proofs.Rowwise.{filled}
use Rattle.otap_cells.proofs.logical.LogicalTable.push_cells.Given as goal

abbrev pub invariant-cells : goal.invariant-cells
invariant-cells l = l.self ≡ record l.fn.self { rows = l.fn.self.rows ++ filled (map seen l.cells) l.column ∷ [] }
