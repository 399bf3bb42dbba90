use Rattle.std.proofs.Common.{◌≡◌, ◌++◌, drop, map}
use Rattle.otap_groups.specs.Rows.{id_at}
use Rattle.otap_kept.proofs.places.ids_at.Given as goal

abbrev pub invariant-places : goal.invariant-places
invariant-places l = l.found.items ++ map (id_at l.ids) (drop l.place-index l.places) ≡ map (id_at l.ids) l.places
