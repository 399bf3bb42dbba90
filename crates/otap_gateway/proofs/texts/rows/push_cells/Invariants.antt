use Rattle.std.proofs.Common.{◌≡◌, [], ◌++◌, drop, get_or}
use Rattle.otap_cells.specs.Columns.{columns_of}
use Rattle.otap_gateway.specs.Rows.{cells_text}
use Rattle.otap_gateway.proofs.texts.rows.push_cells.Given as goal

abbrev pub invariant-columns : goal.invariant-columns
invariant-columns g l =
    l.to.items ++ cells_text (drop l.place (columns_of (g.R.Rows.table l.rows).kind)) (drop l.place (get_or (g.R.Rows.table l.rows).rows l.row []))
    ≡ l.initial.to.items ++ cells_text (columns_of (g.R.Rows.table l.rows).kind) (get_or (g.R.Rows.table l.rows).rows l.row [])
