use Rattle.std.proofs.Common.{◌≡◌, ◌++◌, drop}
use Rattle.otap_cells.specs.Columns.{columns_of}
use Rattle.otap_gateway.specs.Rows.{row_lines, table_text}
use Rattle.otap_gateway.proofs.texts.rows.push_rows.Given as goal

abbrev pub invariant-rows : goal.invariant-rows
invariant-rows g l =
    l.to.items ++ row_lines (columns_of (g.R.Rows.table l.rows).kind) l.row (drop l.row (g.R.Rows.table l.rows).rows)
    ≡ l.initial.to.items ++ table_text (g.R.Rows.table l.rows)
