use Rattle.std.proofs.Common.{◌≡◌, ◌++◌, drop}
use Rattle.otap_cells.specs.Tables.{profile_table}
use Rattle.otap_kept.specs.Writing.{with_numbers}
use Rattle.otap_kept.proofs.attributes.numbered_rows.Given as goal

abbrev pub invariant-rows : goal.invariant-rows
invariant-rows g l = record {
  table : l.table ≡ profile_table (g.R.Rows.table l.rows).kind l.table.rows;
  rows : l.table.rows ++ with_numbers (drop l.row l.numbers) (drop l.row (g.R.Rows.table l.rows).rows) ≡ with_numbers l.numbers (g.R.Rows.table l.rows).rows;
}
