use Rattle.std.proofs.Common.{◌≡◌, ◌++◌, None, drop, map}
use Rattle.std.specs.Prelude.{option_map}
use Rattle.otap_cells.specs.Continuing.{again_of}
use Rattle.otap_cells.specs.Columns.{coding_at}
use Rattle.otap_cells.specs.Tables.{profile_table}
use Rattle.otap_groups.specs.Stored.{RisingParts, stored_parts}
use Rattle.otap_groups.specs.Views.{seen_placed}
use Rattle.otap_groups.proofs.parts.write_parts.Given as goal

abbrev pub invariant-parts : goal.invariant-parts
invariant-parts g l = record {
  table : l.table ≡ profile_table (g.W.PartWriter.kind l.writer) l.table.rows;
  rows : l.table.rows ++ stored_parts (coding_at (g.W.PartWriter.kind l.writer) 1) (again_of (g.W.PartWriter.kind l.writer)) g.W.PartWriter.cells_of l.step l.parent
      (option_map (λ p. g.W.PartWriter.cells_of p.now) l.before) (map seen_placed (drop l.placed-index l.parts))
      ≡ stored_parts (coding_at (g.W.PartWriter.kind l.writer) 1) (again_of (g.W.PartWriter.kind l.writer)) g.W.PartWriter.cells_of 0 0 None (map seen_placed l.parts);
  rising : RisingParts l.parent (map seen_placed (drop l.placed-index l.parts));
}
