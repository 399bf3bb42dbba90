use Rattle.std.proofs.Common.{◌≡◌, ◌++◌, drop, map}
use Rattle.otap_cells.specs.Tables.{profile_table}
use Rattle.otap_groups.specs.Stored.{Rising, stored_rows}
use Rattle.otap_groups.specs.Views.{seen_flat}
use Rattle.otap_groups.proofs.writing.write_rows.Given as goal

abbrev pub invariant-rows : goal.invariant-rows
invariant-rows g l = record {
  table : l.table ≡ profile_table g.W.RowWriter.kind l.table.rows;
  rows : l.table.rows ++ stored_rows g.W.RowWriter.cells_of l.step l.resource_id l.scope_id (map seen_flat (drop l.row-index l.rows))
      ≡ stored_rows g.W.RowWriter.cells_of 0 0 0 (map seen_flat l.rows);
  rising : Rising l.resource_id l.scope_id (map seen_flat (drop l.row-index l.rows));
}
