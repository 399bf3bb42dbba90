use Rattle.std.proofs.Common.{◌≡◌, true, ap, sym, subst, ◌∙◌, arith}
use Rattle.std.proofs.lemmas.Result.{err_from_is_err_and}
use Rattle.otap_cells.specs.Cells.{Cell, IsCellOf}
use Rattle.otap_cells.specs.Columns.{base_at}
use Rattle.otap_cells.specs.Continuing.{has_attributes, seen_attribute}
use Rattle.otap_attrs.specs.Inside.{said_cell}
use Rattle.otap_attrs.proofs.AttributeCells.{IsLonger, former_stay, key_fits, longer_cell, longer_pushed, longer_some, parent_fits, table_written, type_fits, value_fits, value_within}
use Rattle.otap_attrs.proofs.pairs.add_attribute.Goals as goal
use Rattle.otap_cells.proofs.AttributeColumns.{attribute_width}

pub set-requires-clause-column : goal.set-requires-clause-column
set-requires-clause-column c =
    let is : has_attributes c.push_row.new.self.kind ≡ true = ap has_attributes c.push_row.ensures.kind ∙ c.requires.kind in
    omega (arith, attribute_width c.push_row.new.self.kind is)

pub set-requires-clause-base : goal.set-requires-clause-base
set-requires-clause-base c =
    parent_fits c.push_row.new.self.kind (ap has_attributes c.push_row.ensures.kind ∙ c.requires.kind) _ c.parent_cell.ensures.fits

pub fill-requires-clause-column : goal.fill-requires-clause-column
fill-requires-clause-column c =
    let is : has_attributes c.set.new.self.kind ≡ true = ap has_attributes (c.set.ensures.kind ∙ c.push_row.ensures.kind) ∙ c.requires.kind in
    omega (arith, attribute_width c.set.new.self.kind is)

pub fill-requires-clause-base : goal.fill-requires-clause-base
fill-requires-clause-base c =
    subst (λ (cell : Cell). IsCellOf (base_at c.set.new.self.kind 1) cell) (sym c.bytes_cell.ensures)
    (key_fits c.set.new.self.kind (ap has_attributes (c.set.ensures.kind ∙ c.push_row.ensures.kind) ∙ c.requires.kind) _ c.requires.fits.key)

pub fill-requires-2-clause-column : goal.fill-requires-2-clause-column
fill-requires-2-clause-column c =
    let is : has_attributes c.fill.new.table.kind ≡ true = ap has_attributes (c.fill.ensures.kind ∙ c.set.ensures.kind ∙ c.push_row.ensures.kind) ∙ c.requires.kind in
    omega (arith, attribute_width c.fill.new.table.kind is)

pub fill-requires-2-clause-base : goal.fill-requires-2-clause-base
fill-requires-2-clause-base c =
    type_fits c.fill.new.table.kind (ap has_attributes (c.fill.ensures.kind ∙ c.set.ensures.kind ∙ c.push_row.ensures.kind) ∙ c.requires.kind) _ (c.number_cell.ensures.small c.requires.fits.kind)

pub fill-requires-3-clause-column : goal.fill-requires-3-clause-column
fill-requires-3-clause-column c =
    let is : has_attributes c.fill-2.new.table.kind ≡ true
    = ap has_attributes (c.fill-2.ensures.kind ∙ c.fill.ensures.kind ∙ c.set.ensures.kind ∙ c.push_row.ensures.kind) ∙ c.requires.kind in
    omega (arith, attribute_width c.fill-2.new.table.kind is, value_within c.args.says.now.kind, c.value_column.ensures)

pub fill-requires-3-clause-base : goal.fill-requires-3-clause-base
fill-requires-3-clause-base c =
    let is : has_attributes c.fill-2.new.table.kind ≡ true
    = ap has_attributes (c.fill-2.ensures.kind ∙ c.fill.ensures.kind ∙ c.set.ensures.kind ∙ c.push_row.ensures.kind) ∙ c.requires.kind in
    subst (λ (cell : Cell). IsCellOf (base_at c.fill-2.new.table.kind c.value_column.result) cell) (sym c.value_cell.ensures)
    (subst (λ column. IsCellOf (base_at c.fill-2.new.table.kind column) (said_cell (seen_attribute c.args.says.now))) (sym c.value_column.ensures) (value_fits c.fill-2.new.table.kind is _ c.requires.fits))

pub returns-clause-ok : goal.returns-clause-ok
returns-clause-ok c =
    table_written c.args.table.now c.push_row.new.self c.set.new.self c.fill.new.table c.fill-2.new.table c.fill-3.new.table c.args.parent (seen_attribute c.args.says.now) _ _ _ _ _ c.requires.kind
    c.in_ok-push_row.ensures.ok c.in_ok-set.ensures.ok c.parent_cell.ensures.value c.in_ok-fill.ensures.ok c.bytes_cell.ensures c.in_ok-fill-2.ensures.ok c.number_cell.ensures.value
    c.in_ok-fill-3.ensures.ok c.value_column.ensures c.value_cell.ensures

-- ---- out of memory

pub returns-in_err-fill-clause-err : goal.returns-in_err-fill-clause-err
returns-in_err-fill-clause-err c =
    let rows = c.args.table.now.rows in
    let pushed : IsLonger rows c.push_row.new.self.rows = longer_pushed c.args.table.now c.push_row.new.self c.in_ok-push_row.ensures.ok in
    let first : IsLonger rows c.set.new.self.rows = longer_cell rows c.push_row.new.self c.set.new.self 0 _ c.in_ok-set.ensures.ok pushed in
    let failed = err_from_is_err_and c.from_residual-in_err-fill.result c.from_residual-in_err-fill.ensures.1 in
    rw failed.1 (former_stay rows c.set.new.self c.fill.new.table c.in_err-fill.ensures.err first)

pub returns-in_err-fill-2-clause-err : goal.returns-in_err-fill-2-clause-err
returns-in_err-fill-2-clause-err c =
    let rows = c.args.table.now.rows in
    let pushed : IsLonger rows c.push_row.new.self.rows = longer_pushed c.args.table.now c.push_row.new.self c.in_ok-push_row.ensures.ok in
    let first : IsLonger rows c.set.new.self.rows = longer_cell rows c.push_row.new.self c.set.new.self 0 _ c.in_ok-set.ensures.ok pushed in
    let second : IsLonger rows c.fill.new.table.rows = longer_some rows c.set.new.self c.fill.new.table 1 _ c.in_ok-fill.ensures.ok first in
    let failed = err_from_is_err_and c.from_residual-in_err-fill-2.result c.from_residual-in_err-fill-2.ensures.1 in
    rw failed.1 (former_stay rows c.fill.new.table c.fill-2.new.table c.in_err-fill-2.ensures.err second)

pub returns-in_err-fill-3-clause-err : goal.returns-in_err-fill-3-clause-err
returns-in_err-fill-3-clause-err c =
    let rows = c.args.table.now.rows in
    let pushed : IsLonger rows c.push_row.new.self.rows = longer_pushed c.args.table.now c.push_row.new.self c.in_ok-push_row.ensures.ok in
    let first : IsLonger rows c.set.new.self.rows = longer_cell rows c.push_row.new.self c.set.new.self 0 _ c.in_ok-set.ensures.ok pushed in
    let second : IsLonger rows c.fill.new.table.rows = longer_some rows c.set.new.self c.fill.new.table 1 _ c.in_ok-fill.ensures.ok first in
    let third : IsLonger rows c.fill-2.new.table.rows = longer_some rows c.fill.new.table c.fill-2.new.table 2 _ c.in_ok-fill-2.ensures.ok second in
    let failed = err_from_is_err_and c.from_residual-in_err-fill-3.result c.from_residual-in_err-fill-3.ensures.1 in
    rw failed.1 (former_stay rows c.fill-2.new.table c.fill-3.new.table c.in_err-fill-3.ensures.err third)
