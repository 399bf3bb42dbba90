use Rattle.std.proofs.Common.{◌≡◌, ◌++◌, drop}
use Rattle.otap_kept.specs.Holding.{places_among}
use Rattle.otap_kept.proofs.main_rows.places_among.Given as goal

abbrev pub invariant-ids : goal.invariant-ids
invariant-ids l = l.found.items ++ places_among l.sorted l.place (drop l.place l.ids) ≡ places_among l.sorted 0 l.ids
