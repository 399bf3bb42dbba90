use Rattle.std.proofs.Common.{◌≡◌, true, ap, ◌∙◌, arith}
use Rattle.otap_cells.specs.Continuing.{has_attributes, seen_attribute}
use Rattle.otap_cells.proofs.AttributeColumns.{attribute_width}
use Rattle.otap_attrs.proofs.AttributeCells.{parent_fits, value_within}
use Rattle.otap_attrs.proofs.WrittenAgain.{again_written}
use Rattle.otap_attrs.proofs.pairs.add_again.Goals as goal

pub set-requires-clause-column : goal.set-requires-clause-column
set-requires-clause-column c =
    let is : has_attributes c.push_row.new.self.kind ≡ true = ap has_attributes c.push_row.ensures.kind ∙ c.requires.kind in
    omega (arith, attribute_width c.push_row.new.self.kind is)

pub set-requires-clause-base : goal.set-requires-clause-base
set-requires-clause-base c =
    parent_fits c.push_row.new.self.kind (ap has_attributes c.push_row.ensures.kind ∙ c.requires.kind) _ c.parent_cell.ensures.fits

pub set_again-requires-clause-column : goal.set_again-requires-clause-column
set_again-requires-clause-column c =
    let is : has_attributes c.set.new.self.kind ≡ true = ap has_attributes (c.set.ensures.kind ∙ c.push_row.ensures.kind) ∙ c.requires.kind in
    omega (arith, attribute_width c.set.new.self.kind is)

pub set_again-requires-clause-rows : goal.set_again-requires-clause-rows
set_again-requires-clause-rows c = omega (arith, c.set.ensures.count, c.in_ok-push_row.ensures.count, c.requires.same.named.some)

pub set_again-requires-2-clause-column : goal.set_again-requires-2-clause-column
set_again-requires-2-clause-column c =
    let is : has_attributes c.set_again.new.self.kind ≡ true = ap has_attributes (c.set_again.ensures.kind ∙ c.set.ensures.kind ∙ c.push_row.ensures.kind) ∙ c.requires.kind in
    omega (arith, attribute_width c.set_again.new.self.kind is)

pub set_again-requires-2-clause-rows : goal.set_again-requires-2-clause-rows
set_again-requires-2-clause-rows c = omega (arith, c.set_again.ensures.count, c.set.ensures.count, c.in_ok-push_row.ensures.count, c.requires.same.named.some)

pub set_again-requires-3-clause-column : goal.set_again-requires-3-clause-column
set_again-requires-3-clause-column c =
    let is : has_attributes c.set_again-2.new.self.kind ≡ true
    = ap has_attributes (c.set_again-2.ensures.kind ∙ c.set_again.ensures.kind ∙ c.set.ensures.kind ∙ c.push_row.ensures.kind) ∙ c.requires.kind in
    omega (arith, attribute_width c.set_again-2.new.self.kind is, value_within c.args.says.now.kind, c.value_column.ensures)

pub set_again-requires-3-clause-rows : goal.set_again-requires-3-clause-rows
set_again-requires-3-clause-rows c = omega (arith, c.set_again-2.ensures.count, c.set_again.ensures.count, c.set.ensures.count, c.in_ok-push_row.ensures.count, c.requires.same.named.some)

pub returns-clause-ok : goal.returns-clause-ok
returns-clause-ok c =
    again_written c.args.table.now c.push_row.new.self c.set.new.self c.set_again.new.self c.set_again-2.new.self c.args.parent (seen_attribute c.args.says.now) _ c.requires.kind
    c.in_ok-push_row.ensures.ok c.in_ok-set.ensures.ok c.parent_cell.ensures.value c.in_ok-set_again.ensures.ok c.in_ok-set_again-2.ensures.ok c.requires.same.named
    c.set_again-3.new.self _ c.in_ok-set_again-3.ensures.ok c.value_column.ensures c.requires.same.value
