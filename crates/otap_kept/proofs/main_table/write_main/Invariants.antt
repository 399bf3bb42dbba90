use Rattle.std.proofs.Common.{◌≡◌, ◌++◌, drop}
use Rattle.otap_cells.specs.Tables.{profile_table}
use Rattle.otap_kept.specs.Tables.{stored_main}
use Rattle.otap_kept.specs.Writing.{mains_from}
use Rattle.otap_kept.proofs.main_table.write_main.Given as goal

abbrev pub invariant-rows : goal.invariant-rows
invariant-rows g l = record {
  table : l.table ≡ profile_table (g.R.Rows.table l.rows).kind l.table.rows;
  rows : l.table.rows ++ stored_main l.own l.resource l.scope (mains_from l.resources l.scopes (g.R.Rows.table l.rows).rows l.n (drop l.n l.places))
      ≡ stored_main 0 0 0 (mains_from l.resources l.scopes (g.R.Rows.table l.rows).rows 0 l.places);
}
