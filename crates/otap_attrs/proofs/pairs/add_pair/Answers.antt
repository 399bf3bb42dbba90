use Rattle.std.proofs.Common.{◌≡◌, ◌++◌, ◌∷◌, [], List, subst}
use Rattle.std.specs.Prelude.{OnOk}
use Rattle.otap_cells.specs.Cells.{Cell}
use Rattle.otap_attrs.proofs.AttributeCells.{row_said}
use Rattle.otap_attrs.proofs.pairs.add_pair.Goals as goal

pub returns-clause-ok : goal.returns-clause-ok
returns-clause-ok c =
    subst (λ (row : List Cell). OnOk c.add_attribute.result (c.add_attribute.new.table ≡ record c.args.table.now { rows = c.args.table.now.rows ++ row ∷ [] }))
    (row_said c.args.parent c.args.pair.now _ c.attribute_of.ensures.says) c.add_attribute.ensures.ok
