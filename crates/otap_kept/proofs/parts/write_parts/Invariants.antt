use Rattle.std.proofs.Common.{◌≡◌, ◌<◌, ◌++◌, [], None, drop, length, map}
use Rattle.std.specs.Prelude.{IfSome, option_map}
use Rattle.std.specs.List.{slice_index_or}
use Rattle.otap_cells.specs.Columns.{coding_at}
use Rattle.otap_cells.specs.Continuing.{again_of}
use Rattle.otap_cells.specs.Tables.{profile_table}
use Rattle.otap_groups.specs.Stored.{stored_parts}
use Rattle.otap_kept.specs.Rows.{own_cells}
use Rattle.otap_kept.specs.Writing.{part_at}
use Rattle.otap_kept.proofs.parts.write_parts.Given as goal

abbrev pub invariant-entries : goal.invariant-entries
invariant-entries g l =
    let t = g.R.Rows.table l.rows in
    record {
      table : l.table ≡ profile_table t.kind l.table.rows;
      before : IfSome l.before (λ place. place < length t.rows);
      rows : l.table.rows ++ stored_parts (coding_at t.kind 1) (again_of t.kind) own_cells l.step l.parent
          (option_map (λ place. drop 2 (slice_index_or t.rows place [])) l.before) (map (part_at t.rows) (drop l.entry-index l.entries))
          ≡ stored_parts (coding_at t.kind 1) (again_of t.kind) own_cells 0 0 None (map (part_at t.rows) l.entries);
    }
