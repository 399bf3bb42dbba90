use Rattle.std.proofs.Common.{◌≡◌, [], ◌∷◌, ◌++◌, get_or}
use Rattle.otap_cells.proofs.Rowwise.{filled}
use Rattle.otap_columns.proofs.plain.copy_row.Given as goal

abbrev pub invariant-cells : goal.invariant-cells
invariant-cells g l = l.table ≡ record l.fn.table { rows = l.fn.table.rows ++ filled (get_or (g.R.Rows.table l.rows).rows l.row []) l.column ∷ [] }
