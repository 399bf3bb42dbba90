use Rattle.std.proofs.Common.{◌≡◌, ◌-◌, ◌++◌, map}
use Rattle.otap_groups.specs.Rows.{row_at}
use Rattle.otap_groups.specs.Inside.{id_by, part}
use Rattle.otap_groups.proofs.front.FrontColumns.ids_by.Given as goal

abbrev pub invariant-rows : goal.invariant-rows
invariant-rows g l = l.ids.items ++ map (id_by l.level) (part (row_at l.self) l.place (l.to - l.place)) ≡ map (id_by l.level) (part (row_at l.self) 0 l.to)
