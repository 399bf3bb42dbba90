use Rattle.std.proofs.Common.{◌≡◌, ◌∙◌, sym, ap, false, arith}
use Rattle.otap_cells.specs.Bases.{holds_bytes}
use Rattle.otap_cells.specs.Columns.{base_at}
use Rattle.otap_cells.proofs.Adding.{cells_go_on, no_bytes_in_column}
use Rattle.otap_cells.proofs.NullColumns.{no_weight}
use Rattle.otap_cells.proofs.weight.column_weight.Goals as goal

pub rows-preserved : goal.rows-preserved
rows-preserved g c =
    cells_go_on (g.R.Rows.table c.args.rows.now).rows _ _ _ _ _ _ (omega (arith, c.rows-count.ensures.count))
    c.rows.invariant c.bytes_of.ensures c.cell.ensures.value c.add_capped-total.ensures

pub returns-then-not-has_bytes : goal.returns-then-not-has_bytes
returns-then-not-has_bytes g c =
    let not : holds_bytes (base_at (g.R.Rows.table c.args.rows.now).kind c.args.column) ≡ false
    = sym (ap holds_bytes (c.base_of.ensures ∙ ap (λ kind. base_at kind c.args.column) c.kind.ensures)) ∙ sym c.has_bytes.ensures ∙ c.if-not-has_bytes.true in
    omega (arith, no_bytes_in_column (g.R.Rows.table c.args.rows.now) c.args.column c.rows-count.ensures.sound not)

pub returns-then-lacks : goal.returns-then-lacks
returns-then-lacks g c = omega (arith, no_weight (g.R.Rows.table c.args.rows.now).rows c.args.column (c.lacks.ensures c.if-lacks.true))
