use Rattle.std.proofs.Common.{◌≡◌, ◌+◌, ◌-◌, ◌<◌, ◌≤◌}
use Rattle.otap_groups.specs.Rows.{row_at}
use Rattle.otap_groups.specs.Inside.{same_at}
use Rattle.otap_groups.proofs.RunPlaces.{more}
use Rattle.otap_groups.proofs.front.FrontColumns.run.Given as goal

abbrev pub invariant-rows : goal.invariant-rows
invariant-rows g l = record {
  some : l.from < l.end;
  within : l.end ≤ l.to;
  so_far : l.end + more (same_at l.level) (row_at l.self) (l.end - 1) (l.to - l.end)
      ≡ l.from + 1 + more (same_at l.level) (row_at l.self) l.from (l.to - l.from - 1);
}

abbrev pub decreases-rows : goal.decreases-rows
decreases-rows g l = l.to - l.end
