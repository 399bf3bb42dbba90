use Rattle.std.proofs.Common.{◌≤◌}
use Rattle.otap_groups.specs.Rows.{row_at}
use Rattle.otap_groups.specs.Inside.{cells_by, id_by}
use Rattle.otap_groups.proofs.Differing.{Agreeing}
use Rattle.otap_groups.proofs.front.FrontColumns.differ.Given as goal

abbrev pub invariant-entries : goal.invariant-entries
invariant-entries g l = record {
  some : 1 ≤ l.place;
  agree : Agreeing (id_by l.level) (cells_by l.level) (row_at l.self) l.entries.items l.place;
}
