use Rattle.std.proofs.Common.{◌≡◌, ◌<◌, length, get_or, map, sym, ap, ◌∙◌, arith}
use Rattle.std.proofs.Math.ListN.{get_or-map}
use Rattle.std.proofs.lemmas.List.{length-map}
use Rattle.otap_cells.specs.declared.view.CellView.TheVariants.{Null}
use Rattle.otap_cells.specs.Cells.{null, seen}
use Rattle.otap_cells.specs.Columns.{columns_of, width_of}
use Rattle.otap_cells.proofs.Apart.{narrow}
use Rattle.otap_cells.proofs.Rowwise.{fill_begins, fill_goes_on, fill_passes, fill_ends, length-IsRow, IsRow-at}
use Rattle.otap_cells.proofs.logical.LogicalTable.push_cells.Goals as goal

pub cells-init : goal.cells-init
cells-init c = fill_begins _ _ _ c.in_ok-push_row.ensures.ok (length-IsRow _ _ c.requires)

pub cells-preserved : goal.cells-preserved
cells-preserved c =
    let within : c.cells.column < length (map seen c.args.cells.now) = omega (arith, length-map c.args.cells.now seen) in
    fill_goes_on c.args.self.now _ _ _ _ _ _ c.cells.invariant within (sym (get_or-map seen c.args.cells.now c.cells.column Null)) c.in_ok-set.ensures.ok

pub returns-clause-ok : goal.returns-clause-ok
returns-clause-ok c = fill_ends c.args.self.now _ _ _ c.cells.column c.cells.invariant (omega (arith, length-map c.args.cells.now seen))

pub overflow_cast-column : goal.overflow_cast-column
overflow_cast-column c =
    omega (arith, narrow c.args.self.now.kind, length-map c.args.cells.now seen, length-IsRow (columns_of c.args.self.now.kind) (map seen c.args.cells.now) c.requires)

pub set-requires-clause-column : goal.set-requires-clause-column
set-requires-clause-column c =
    omega (arith, length-map c.args.cells.now seen, length-IsRow (columns_of c.args.self.now.kind) (map seen c.args.cells.now) c.requires, ap (λ t. width_of t.kind) c.cells.invariant)

pub set-requires-clause-base : goal.set-requires-clause-base
set-requires-clause-base c =
    rw (ap (λ t. t.kind) c.cells.invariant, ← get_or-map seen c.args.cells.now c.cells.column Null)
    (IsRow-at (columns_of c.args.self.now.kind) (map seen c.args.cells.now) c.cells.column _ c.requires)

pub cells-preserved-then-is_null : goal.cells-preserved-then-is_null
cells-preserved-then-is_null c =
    let within : c.cells.column < length (map seen c.args.cells.now) = omega (arith, length-map c.args.cells.now seen) in
    let here : get_or (map seen c.args.cells.now) c.cells.column null ≡ null = get_or-map seen c.args.cells.now c.cells.column Null ∙ c.is_null.ensures c.if-is_null.true in
    fill_passes c.args.self.now _ _ _ _ c.cells.invariant within here
