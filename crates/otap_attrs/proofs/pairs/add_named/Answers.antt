use Rattle.std.proofs.Common.{◌≡◌, true, ap, sym, subst, ◌∙◌, arith}
use Rattle.otap_cells.specs.Cells.{Cell, IsCellOf}
use Rattle.otap_cells.specs.Columns.{base_at}
use Rattle.otap_cells.specs.Continuing.{has_attributes, seen_attribute}
use Rattle.otap_cells.proofs.AttributeColumns.{attribute_width}
use Rattle.otap_attrs.specs.Inside.{said_cell}
use Rattle.otap_attrs.proofs.AttributeCells.{parent_fits, value_fits, value_within}
use Rattle.otap_attrs.proofs.WrittenAgain.{named_written}
use Rattle.otap_attrs.proofs.pairs.add_named.Goals as goal

pub set-requires-clause-column : goal.set-requires-clause-column
set-requires-clause-column c =
    let is : has_attributes c.push_row.new.self.kind ≡ true = ap has_attributes c.push_row.ensures.kind ∙ c.requires.kind in
    omega (arith, attribute_width c.push_row.new.self.kind is)

pub set-requires-clause-base : goal.set-requires-clause-base
set-requires-clause-base c =
    parent_fits c.push_row.new.self.kind (ap has_attributes c.push_row.ensures.kind ∙ c.requires.kind) _ c.parent_cell.ensures.fits

pub set_again-requires-clause-column : goal.set_again-requires-clause-column
set_again-requires-clause-column c =
    let is : has_attributes c.set.new.self.kind ≡ true = ap has_attributes (c.set.ensures.kind ∙ c.push_row.ensures.kind) ∙ c.requires.kind in
    omega (arith, attribute_width c.set.new.self.kind is)

pub set_again-requires-clause-rows : goal.set_again-requires-clause-rows
set_again-requires-clause-rows c = omega (arith, c.set.ensures.count, c.in_ok-push_row.ensures.count, c.requires.named.some)

pub set_again-requires-2-clause-column : goal.set_again-requires-2-clause-column
set_again-requires-2-clause-column c =
    let is : has_attributes c.set_again.new.self.kind ≡ true = ap has_attributes (c.set_again.ensures.kind ∙ c.set.ensures.kind ∙ c.push_row.ensures.kind) ∙ c.requires.kind in
    omega (arith, attribute_width c.set_again.new.self.kind is)

pub set_again-requires-2-clause-rows : goal.set_again-requires-2-clause-rows
set_again-requires-2-clause-rows c = omega (arith, c.set_again.ensures.count, c.set.ensures.count, c.in_ok-push_row.ensures.count, c.requires.named.some)

pub fill-requires-clause-column : goal.fill-requires-clause-column
fill-requires-clause-column c =
    let is : has_attributes c.set_again-2.new.self.kind ≡ true
    = ap has_attributes (c.set_again-2.ensures.kind ∙ c.set_again.ensures.kind ∙ c.set.ensures.kind ∙ c.push_row.ensures.kind) ∙ c.requires.kind in
    omega (arith, attribute_width c.set_again-2.new.self.kind is, value_within c.args.says.now.kind, c.value_column.ensures)

pub fill-requires-clause-row : goal.fill-requires-clause-row
fill-requires-clause-row c = omega (arith, c.set_again-2.ensures.count, c.set_again.ensures.count, c.set.ensures.count, c.in_ok-push_row.ensures.count)

pub fill-requires-clause-base : goal.fill-requires-clause-base
fill-requires-clause-base c =
    let is : has_attributes c.set_again-2.new.self.kind ≡ true
    = ap has_attributes (c.set_again-2.ensures.kind ∙ c.set_again.ensures.kind ∙ c.set.ensures.kind ∙ c.push_row.ensures.kind) ∙ c.requires.kind in
    subst (λ (cell : Cell). IsCellOf (base_at c.set_again-2.new.self.kind c.value_column.result) cell) (sym c.value_cell.ensures)
    (subst (λ column. IsCellOf (base_at c.set_again-2.new.self.kind column) (said_cell (seen_attribute c.args.says.now))) (sym c.value_column.ensures)
    (value_fits c.set_again-2.new.self.kind is _ c.requires.fits))

pub returns-clause-ok : goal.returns-clause-ok
returns-clause-ok c =
    named_written c.args.table.now c.push_row.new.self c.set.new.self c.set_again.new.self c.set_again-2.new.self c.args.parent (seen_attribute c.args.says.now) _ c.requires.kind
    c.in_ok-push_row.ensures.ok c.in_ok-set.ensures.ok c.parent_cell.ensures.value c.in_ok-set_again.ensures.ok c.in_ok-set_again-2.ensures.ok c.requires.named
    c.fill.new.table _ _ c.in_ok-fill.ensures.ok c.value_column.ensures c.value_cell.ensures
