use Rattle.std.proofs.Common.{◌≡◌, take}
use Rattle.otap_cells.specs.Tables.{profile_table}
use Rattle.otap_columns.proofs.plain.copied.Given as goal

abbrev pub invariant-rows : goal.invariant-rows
invariant-rows g l = l.table ≡ profile_table (g.R.Rows.table l.rows).kind (take l.row (g.R.Rows.table l.rows).rows)
